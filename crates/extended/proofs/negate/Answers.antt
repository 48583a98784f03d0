-- `extended::negate` meets its contract.
use borrow.Author.Rules.{rules}
use Rattle.extended.proofs.Laws.{on_float_lem, no_int_lem}
use Rattle.extended.proofs.negate.Goals as goal

pub returns : goal.returns
returns c = no_int_lem _ c.only_int.ensures c.in_default.is (on_float_lem _ _ (λ x h. search rules) c.on_float.ensures)
