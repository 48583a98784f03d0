-- `emit::emission::Emission::write_all` meets its contract.
use lib.ListN.{length}
use Rattle.encoding.specs.Wires.{wire_bytes}
use Rattle.model.specs.Answer.{each}
use Rattle.answer.proofs.Fill.{Filling}
use Rattle.emit.specs.Emission.{wires_in, wires_for, IsEmpty}
use Rattle.emit.proofs.emission.Emission.write_all.Given as goal

abbrev pub invariant-loop-i : goal.invariant-loop-i
invariant-loop-i l = IsEmpty l.stack × Filling (λ j. each wire_bytes (wires_for l.self j)) (length (wires_in l.self)) l.initial.out l.out l.at l.past l.i
