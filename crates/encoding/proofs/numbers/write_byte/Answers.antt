-- `encoding::numbers::write_byte` meets its contract.
use borrow.Author.Rules.{rules}
use Rattle.encoding.proofs.Splices.{stored_1}
use Rattle.encoding.proofs.numbers.write_byte.Goals as goal

pub returns : goal.returns
returns c = stored_1 _ _ _ (search rules)
