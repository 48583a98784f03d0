-- `sweep::queue::Queue::count_wires` meets its contract.
use mathlib.Core.Path.{◌≡◌}
use Rattle.records.specs.Access.{wires_of}
use Rattle.sweep.proofs.Releases.{Counting}
use Rattle.sweep.proofs.queue.Queue.count_wires.Given as goal

abbrev pub invariant-loop-i : goal.invariant-loop-i
invariant-loop-i l = (l.self.eligible ≡ l.initial.self.eligible) × (l.self.tail ≡ 0) × Counting (wires_of l.wires.records.now) l.i l.self.degrees
