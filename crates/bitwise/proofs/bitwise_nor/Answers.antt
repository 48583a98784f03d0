-- `bitwise::bitwise_nor` meets its contract.
use borrow.Author.Rules.{rules}
use Rattle.bitwise.proofs.Laws.{on_ints_lem}
use Rattle.bitwise.proofs.bitwise_nor.Goals as goal

pub returns : goal.returns
returns c = on_ints_lem _ _ _ (λ m n h. search rules) c.on_ints.ensures
