-- `replay::main` meets its contract.
use Prim.Native.Nat.{◌-◌, ◌≤◌}
use mathlib.Core.Path.{◌≡◌}
use lib.ListN.{length}
use Rattle.replay.proofs.main.Given as goal

abbrev pub invariant-loop-ran : goal.invariant-loop-ran
invariant-loop-ran l = (l.differ ≤ l.ran) × (l.ran ≤ 1000000) × (48 ≡ length l.head)

abbrev pub decreases-loop-ran : goal.decreases-loop-ran
decreases-loop-ran l = 1000000 - l.ran
