use mathlib.Core.Path.{ap}
use mir.Facts.{to_z-of_z}
use Rattle.whole.specs.Bits.{shift_in_range}
use Rattle.whole.proofs.shift_in_range.Goals as goal

pub returns : goal.returns
unfolding shift_in_range
returns c = ap shift_in_range (to_z-of_z c.ranges.k)
