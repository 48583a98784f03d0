-- `sweep::queue::Queue::release_sources` meets its contract.
use mathlib.Core.Path.{◌≡◌}
use Rattle.ir.specs.Limits.{max_wires}
use Rattle.records.specs.Access.{wires_of}
use Rattle.wire_index.proofs.Walks.{steps}
use Rattle.sweep.proofs.Releases.{Feeding}
use Rattle.sweep.proofs.queue.Queue.release_sources.Given as goal

abbrev pub invariant-loop-code : goal.invariant-loop-code
invariant-loop-code l =
    (l.self.eligible ≡ l.initial.self.eligible) × Feeding (wires_of l.wires.records.now) l.targets.next l.wires.nodes l.node l.initial.self.degrees l.initial.self.order l.initial.self.tail l.code l.self.degrees l.self.order l.self.tail

abbrev pub decreases-loop-code : goal.decreases-loop-code
decreases-loop-code l = steps max_wires l.targets.next l.code
