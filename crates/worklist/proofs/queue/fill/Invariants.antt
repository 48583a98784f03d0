-- `worklist::queue::fill` meets its contract.
use Rattle.model.specs.Maps.{up_to}
use Rattle.worklist.specs.Queue.{Queued}
use Rattle.worklist.proofs.queue.fill.Given as goal

abbrev pub invariant-loop-n : goal.invariant-loop-n
invariant-loop-n l = Queued l.marks l.places 0 l.n (up_to l.n)
