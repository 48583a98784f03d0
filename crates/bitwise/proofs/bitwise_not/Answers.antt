-- `bitwise::bitwise_not` meets its contract.
use borrow.Author.Rules.{rules}
use Rattle.bitwise.proofs.Laws.{on_int_lem}
use Rattle.bitwise.proofs.bitwise_not.Goals as goal

pub returns : goal.returns
returns c = on_int_lem _ _ (λ n h. search rules) c.on_int.ensures
