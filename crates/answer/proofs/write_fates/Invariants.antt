-- `answer::write_fates` meets its contract.
use lib.ListN.{get_or}
use Rattle.state.specs.Held.{known_of}
use Rattle.answer.specs.Nodes.{fate_by}
use Rattle.answer.proofs.Fill.{Filling}
use Rattle.answer.proofs.write_fates.Given as goal

abbrev pub invariant-loop-i : goal.invariant-loop-i
invariant-loop-i l = Filling (λ i. fate_by i (get_or l.actions i 0) (known_of l.known.kinds l.known.words i)) l.nodes l.initial.out l.out l.at l.next l.i
