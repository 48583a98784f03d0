-- `extended::modulo_floored` meets its contract.
use borrow.Author.Rules.{rules}
use Rattle.extended.proofs.Laws.{on_floats_lem}
use Rattle.extended.proofs.modulo_floored.Goals as goal

pub returns : goal.returns
returns c = on_floats_lem _ _ _ (λ x y h. search rules) c.on_floats.ensures
