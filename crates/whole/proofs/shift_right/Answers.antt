use Rattle.std.specs.Prelude.{Some}
use mathlib.Core.Path.{ap, ◌∙◌}
use lib.Signed.{shr_z}
use Rattle.whole.proofs.Bits.{count, inside, outside, read_shift}
use Rattle.whole.proofs.shift_right.Goals as goal

pub overflow_shr-result : goal.overflow_shr-result
overflow_shr-result c = count c.ranges.k c.shift_in_range.ensures c.if-shift_in_range.true

pub returns-then-shift_in_range : goal.returns-then-shift_in_range
returns-then-shift_in_range c = ap Some (read_shift _ c.ranges.a) ∙ inside c.ranges.k c.shift_in_range.ensures c.if-shift_in_range.true (shr_z c.args.a)

pub returns-else-shift_in_range : goal.returns-else-shift_in_range
returns-else-shift_in_range c = outside c.ranges.k c.shift_in_range.ensures c.if-shift_in_range.false _
