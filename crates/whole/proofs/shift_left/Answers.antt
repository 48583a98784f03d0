use Prim.Native.Nat.{◌*◌, ◌%◌, ◌^◌}
use mir.Syntax.{w64}
use mir.Val.{to_z, of_z}
use Rattle.whole.proofs.Bits.{count, inside, outside}
use Rattle.whole.proofs.shift_left.Goals as goal

pub overflow_shl-result : goal.overflow_shl-result
overflow_shl-result c = count c.ranges.k c.shift_in_range.ensures c.if-shift_in_range.true

pub returns-then-shift_in_range : goal.returns-then-shift_in_range
returns-then-shift_in_range c = inside c.ranges.k c.shift_in_range.ensures c.if-shift_in_range.true (λ n. to_z w64 (of_z w64 c.args.a * n % 2 ^ 64))

pub returns-else-shift_in_range : goal.returns-else-shift_in_range
returns-else-shift_in_range c = outside c.ranges.k c.shift_in_range.ensures c.if-shift_in_range.false _
