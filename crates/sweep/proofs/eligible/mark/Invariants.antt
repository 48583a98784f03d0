-- `sweep::eligible::mark` meets its contract.
use Rattle.graph.specs.Decode.{graph_of}
use Rattle.sweep.proofs.Marks.{Marking}
use Rattle.sweep.proofs.eligible.mark.Given as goal

abbrev pub invariant-loop-n : goal.invariant-loop-n
invariant-loop-n l = Marking (graph_of l.input) l.actions l.n l.eligible
