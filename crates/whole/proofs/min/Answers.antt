-- `whole::min` meets its contract.
use mathlib.Core.Path.{◌∙◌}
use mir.Syntax.{w64}
use mir.Facts.{to_z-of_z}
use Rattle.whole.specs.Compare.{min_of}
use Rattle.whole.proofs.Laws.{read₂}
use Rattle.whole.proofs.min.Goals as goal

pub returns : goal.returns
unfolding min_of
returns c = to_z-of_z {w = w64} (record { sfits = c.min.type_inv }) ∙ c.min.ensures.value ∙ read₂ min_of c.ranges.a c.ranges.b
