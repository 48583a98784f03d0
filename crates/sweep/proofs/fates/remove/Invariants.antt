-- `sweep::fates::remove` meets its contract.
use mathlib.Core.Path.{◌≡◌}
use mathlib.Core.Bool.{false, cond}
use Prim.Native.Nat.{ℕ, ◌<◌}
use lib.ListN.{get_or}
use Rattle.sweep.specs.Queue.{taken_action}
use Rattle.sweep.proofs.fates.remove.Given as goal

abbrev pub invariant-loop-n : goal.invariant-loop-n
invariant-loop-n l = (n : ℕ) → n < l.n → get_or l.swept n 0 ≡ cond (get_or l.taken n false) taken_action (get_or l.actions n 0)
