-- `sweep::queue::Queue::remove_nodes` meets its contract.
use mathlib.Core.Path.{◌≡◌}
use Prim.Native.Nat.{◌-◌}
use Rattle.ir.specs.Limits.{max_nodes}
use Rattle.records.specs.Access.{wires_of}
use Rattle.sweep.specs.Queue.{Sweeping}
use Rattle.sweep.proofs.queue.Queue.remove_nodes.Given as goal

abbrev pub invariant-loop-head : goal.invariant-loop-head
invariant-loop-head l = (l.self.eligible ≡ l.initial.self.eligible) × Sweeping l.wires.nodes (wires_of l.wires.records.now) l.self.eligible.now l.self.degrees l.self.order l.head l.self.tail

abbrev pub decreases-loop-head : goal.decreases-loop-head
decreases-loop-head l = max_nodes - l.head
