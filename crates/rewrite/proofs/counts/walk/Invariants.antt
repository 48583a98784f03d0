-- `rewrite::counts::walk` meets its contract.
use lib.ListN.{length}
use Rattle.records.specs.Access.{wires_of}
use Rattle.rewrite.proofs.Walking.{Walking, ahead}
use Rattle.rewrite.proofs.counts.walk.Given as goal

abbrev pub invariant-loop-code : goal.invariant-loop-code
invariant-loop-code l = Walking (wires_of l.wires.records.now) l.actions l.counts l.next l.fn.from.code l.fn.from.sum l.code l.sum

abbrev pub decreases-loop-code : goal.decreases-loop-code
decreases-loop-code l = ahead (length (wires_of l.wires.records.now)) l.code
