-- `whole::bit_count` meets its contract.
use mathlib.Core.Path.{ap, ◌∙◌}
use lib.Count.{ones}
use lib.IntN.{pos}
use mir.Syntax.{w64}
use mir.Val.{of_z}
use mir.Facts.{to_z-of_z}
use mir.ValLaws.{of_z_fits}
use Rattle.whole.proofs.Bits.{ones_sum}
use Rattle.whole.proofs.bit_count.Goals as goal

pub returns : goal.returns
returns c =
    to_z-of_z {w = w64} (record { sfits = c.from.type_inv })
    ∙ c.from.ensures
    ∙ ap pos
    (ap ones (c.to_bits.ensures ∙ ap (of_z w64) (to_z-of_z c.ranges.n))
    ∙ ones_sum 64 _ (of_z_fits w64 _ c.ranges.n).fits)
