-- `answer::write_known_records` meets its contract.
use Rattle.model.specs.Answer.{known_bytes}
use Rattle.state.specs.Held.{known_of}
use Rattle.answer.proofs.Fill.{Filling}
use Rattle.answer.proofs.write_known_records.Given as goal

abbrev pub invariant-loop-i : goal.invariant-loop-i
invariant-loop-i l = Filling (λ i. known_bytes i (known_of l.known.kinds l.known.words i)) l.nodes l.initial.out l.out l.at l.next l.i
