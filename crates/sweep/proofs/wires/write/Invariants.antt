-- `sweep::wires::write` meets its contract.
use lib.ListN.{length}
use Rattle.encoding.specs.Wires.{wire_bytes}
use Rattle.records.specs.Access.{wires_of}
use Rattle.model.specs.Answer.{each}
use Rattle.answer.proofs.Fill.{Filling}
use Rattle.sweep.specs.Queue.{staying_at}
use Rattle.sweep.proofs.wires.write.Given as goal

abbrev pub invariant-loop-i : goal.invariant-loop-i
invariant-loop-i l = Filling (λ j. each wire_bytes (staying_at l.taken (wires_of l.wires.records.now) j)) (length (wires_of l.wires.records.now)) l.initial.out l.out l.at l.past l.i
