-- `sweep::queue::Queue::new` meets its contract.
use mathlib.Core.Path.{refl}
use Prim.Native.Nat.{ℕ}
use native.Mathlib.Omega.{arith}
use lib.ListN.{length-replicate, get_or-replicate}
use Rattle.ir.specs.Limits.{max_nodes}
use Rattle.sweep.proofs.Sweeps.{queued_start}
use Rattle.sweep.proofs.queue.Queue.new.Goals as goal

pub invariant_of-result : goal.invariant_of-result
invariant_of-result c = record { queued = queued_start max_nodes refl (length-replicate {A = ℕ} max_nodes 1) (λ n l. omega (arith, get_or-replicate {A = ℕ} max_nodes n 1 0 l)) }

pub returns-clause-degrees : goal.returns-clause-degrees
returns-clause-degrees c n l = get_or-replicate {A = ℕ} max_nodes n 1 0 l
