-- `extended::round` meets its contract.
use borrow.Author.Rules.{rules}
use Rattle.extended.proofs.Laws.{on_float_lem}
use Rattle.extended.proofs.round.Goals as goal

pub returns : goal.returns
returns c = on_float_lem _ _ (λ x h. search rules) c.on_float.ensures
