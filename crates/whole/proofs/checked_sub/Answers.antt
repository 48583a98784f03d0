-- `whole::checked_sub` meets its contract.
use lib.IntN.{◌-ℤ◌}
use mathlib.Core.Path.{◌∙◌, ap}
use Rattle.whole.specs.Checked.{checked}
use Rattle.whole.proofs.Checked.{reported}
use Rattle.whole.proofs.Laws.{read₂}
use Rattle.whole.proofs.checked_sub.Goals as goal

pub returns : goal.returns
returns c = reported _ _ c.checked_sub.ensures ∙ ap checked (read₂ ◌-ℤ◌ c.ranges.a c.ranges.b)
