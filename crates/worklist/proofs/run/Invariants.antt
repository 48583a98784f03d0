-- `worklist::run` meets its contract. The measure: a pop for each node and each wire is enough.
use Prim.Native.Nat.{◌+◌, ◌-◌}
use lib.ListN.{length}
use Rattle.model.specs.Inputs.{size}
use Rattle.model.specs.Own.{own_of}
use Rattle.inputs.specs.Reading.{graph_in}
use Rattle.worklist.proofs.Running.{At}
use Rattle.worklist.proofs.run.Given as goal

abbrev pub invariant-loop-queue : goal.invariant-loop-queue
invariant-loop-queue l =
    At (graph_in l.reads) (own_of (graph_in l.reads) l.own) l.pops l.known.kinds l.known.words l.plan.actions l.plan.details l.marks l.queue

abbrev pub decreases-loop-queue : goal.decreases-loop-queue
decreases-loop-queue l =
    size (graph_in l.reads) + length (graph_in l.reads).wires - l.pops
