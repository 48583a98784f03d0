-- `whole::max` meets its contract.
use mathlib.Core.Path.{◌∙◌}
use mir.Syntax.{w64}
use mir.Facts.{to_z-of_z}
use Rattle.whole.specs.Compare.{max_of}
use Rattle.whole.proofs.Laws.{read₂}
use Rattle.whole.proofs.Order.{max_of_swapped}
use Rattle.whole.proofs.max.Goals as goal

pub returns : goal.returns
unfolding max_of
returns c =
    to_z-of_z {w = w64} (record { sfits = c.max.type_inv })
    ∙ c.max.ensures.value
    ∙ read₂ (λ a b. max_of b a) c.ranges.a c.ranges.b
    ∙ max_of_swapped c.args.b c.args.a
