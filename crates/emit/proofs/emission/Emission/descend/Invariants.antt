-- `emit::emission::Emission::descend` meets its contract.
use Rattle.emit.specs.Emission.{wires_in, shape_in}
use Rattle.emit.proofs.Stacks.{Tracks}
use Rattle.emit.proofs.emission.Emission.descend.Given as goal

abbrev pub invariant-loop-target : goal.invariant-loop-target
invariant-loop-target l = Tracks (shape_in l.self) l.self.wires.now.nodes (wires_in l.self) l.self.rewrites.now.chains.next l.initial.stack.codes l.initial.stack.height l.i l.stack.codes l.stack.height l.wire l.steps l.target

abbrev pub decreases-loop-target : goal.decreases-loop-target
decreases-loop-target l = l.steps
