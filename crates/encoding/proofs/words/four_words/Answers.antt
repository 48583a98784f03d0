-- `encoding::words::four_words` meets its contract.
use borrow.Author.Rules.{rules}
use Rattle.encoding.proofs.Held.{float_back}
use Rattle.encoding.proofs.words.four_words.Goals as goal

pub returns : goal.returns
returns c =
    let t = c.three_words.ensures in
    record { three = record { first = t.first; second = t.second; third = t.third }; fourth = float_back (search rules) c.to_bits.ensures }
