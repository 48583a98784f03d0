-- `encoding::words::three_words` meets its contract.
use borrow.Author.Rules.{rules}
use Rattle.encoding.proofs.Held.{float_back}
use Rattle.encoding.proofs.words.three_words.Goals as goal

pub returns : goal.returns
returns c = record { first = float_back (search rules) c.to_bits.ensures; second = float_back (search rules) c.to_bits-2.ensures; third = float_back (search rules) c.to_bits-3.ensures }
