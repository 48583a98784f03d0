-- `whole::rem` meets its contract.
use mir.Facts.{to_z-of_z}
use Rattle.whole.proofs.Checked.{by_zero, division_reported}
use Rattle.whole.proofs.rem.Goals as goal

pub returns-then-b-eq0 : goal.returns-then-b-eq0
returns-then-b-eq0 c = by_zero c.ranges.a c.ranges.b _ c.if-b-eq0.true

pub returns-else-b-eq0 : goal.returns-else-b-eq0
returns-else-b-eq0 c = division_reported c.ranges.a c.ranges.b _ _ c.if-b-eq0.false (rw (to_z-of_z c.ranges.a, to_z-of_z c.ranges.b) at c.checked_rem.ensures)
