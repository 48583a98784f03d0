-- `bitwise::bitwise_bit_count` meets its contract.
use borrow.Author.Rules.{rules}
use Rattle.bitwise.proofs.Laws.{on_int_lem}
use Rattle.bitwise.proofs.bitwise_bit_count.Goals as goal

pub returns : goal.returns
returns c = on_int_lem _ _ (λ n h. search rules) c.on_int.ensures
