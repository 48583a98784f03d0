-- `root::closer` meets its contract.
use Prim.Native.Nat.{◌+◌, ◌*◌, ◌/◌, ◌^◌, ◌≤◌}
use native.Mathlib.Omega.{arith}
use Rattle.root.specs.Steps.{Near}
use Rattle.root.proofs.Newton.{step, at_most}
use Rattle.root.proofs.closer.Goals as goal

near : (c : goal.Start) → Near c.args.n (c.args.near * c.args.scale + c.args.n / (4 * c.args.scale) / c.args.near)
near c = step c.args.n c.args.near c.args.scale c.requires.1 c.requires.2 c.requires.0

small : (c : goal.Start) → c.args.near * c.args.scale + c.args.n / (4 * c.args.scale) / c.args.near ≤ 2 ^ 32
small c = at_most (2 ^ 32) (omega (arith, c.ranges.n.fits)) (near c)

pub overflow_mul-result : goal.overflow_mul-result
overflow_mul-result c = record { fits = omega (arith, small c) }

pub overflow_add-result : goal.overflow_add-result
overflow_add-result c = record { fits = omega (arith, small c) }

pub returns : goal.returns
returns c = near c
