-- `whole::checked_neg` meets its contract.
use lib.IntN.{neg_ℤ}
use mathlib.Core.Path.{◌∙◌, ap}
use mir.Facts.{to_z-of_z}
use Rattle.whole.specs.Checked.{checked}
use Rattle.whole.proofs.Checked.{reported}
use Rattle.whole.proofs.checked_neg.Goals as goal

pub returns : goal.returns
returns c = reported _ _ c.checked_neg.ensures ∙ ap (λ z. checked (neg_ℤ z)) (to_z-of_z c.ranges.n)
