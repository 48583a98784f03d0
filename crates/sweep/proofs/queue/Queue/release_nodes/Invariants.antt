-- `sweep::queue::Queue::release_nodes` meets its contract.
use mathlib.Core.Path.{◌≡◌}
use Rattle.sweep.proofs.Releases.{Releasing}
use Rattle.sweep.proofs.queue.Queue.release_nodes.Given as goal

abbrev pub invariant-loop-n : goal.invariant-loop-n
invariant-loop-n l = (l.self.eligible ≡ l.initial.self.eligible) × Releasing l.nodes l.initial.self.degrees l.initial.self.order l.initial.self.tail l.n l.self.degrees l.self.order l.self.tail
