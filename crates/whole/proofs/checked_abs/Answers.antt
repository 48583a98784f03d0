-- `whole::checked_abs` meets its contract.
use mir.Facts.{to_z-of_z}
use Rattle.whole.proofs.Checked.{size_reported}
use Rattle.whole.proofs.checked_abs.Goals as goal

pub returns : goal.returns
returns c = size_reported _ c.ranges.n _ (rw (to_z-of_z c.ranges.n) at c.checked_abs.ensures)
