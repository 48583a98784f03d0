-- `emit::kept::write_each` meets its contract.
use lib.ListN.{length, get_or}
use Rattle.encoding.specs.Wires.{wire_bytes}
use Rattle.records.specs.Access.{wires_of, no_wire}
use Rattle.model.specs.Answer.{each}
use Rattle.rewrite.specs.Tallied.{kept_wire}
use Rattle.answer.proofs.Fill.{Filling}
use Rattle.emit.proofs.kept.write_each.Given as goal

abbrev pub invariant-loop-i : goal.invariant-loop-i
invariant-loop-i l = Filling (λ j. each wire_bytes (kept_wire l.actions (get_or (wires_of l.wires.records.now) j no_wire))) (length (wires_of l.wires.records.now)) l.initial.out l.out l.at l.past l.i
