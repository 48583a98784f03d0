-- `emit::emission::Emission::write_targets` meets its contract.
use Rattle.emit.specs.Emission.{wires_in, shape_in, targets_in}
use Rattle.emit.proofs.Fanning.{Going}
use Rattle.emit.proofs.emission.Emission.write_targets.Given as goal

abbrev pub invariant-loop : goal.invariant-loop
invariant-loop l = Going (shape_in l.self) l.self.wires.now.nodes (wires_in l.self) l.self.rewrites.now.chains.next l.source (targets_in l.self l.i) l.initial.out l.at l.stack.codes l.out l.counter l.wire l.stack.height l.past
