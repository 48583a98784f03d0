-- `worklist::consumers::join` meets its contract. The measure: the wires that are left of the chain.
use Rattle.ir.specs.Limits.{max_wires}
use Rattle.wire_index.proofs.Walks.{steps}
use Rattle.worklist.proofs.Joining.{Walking}
use Rattle.worklist.proofs.consumers.join.Given as goal

abbrev pub invariant-loop-code : goal.invariant-loop-code
invariant-loop-code l =
    Walking l.wires.records.now l.consumers.first l.consumers.next l.known.kinds l.n l.head l.initial.places l.count l.marks l.places l.total l.code

abbrev pub decreases-loop-code : goal.decreases-loop-code
decreases-loop-code l = steps max_wires l.consumers.next l.code
