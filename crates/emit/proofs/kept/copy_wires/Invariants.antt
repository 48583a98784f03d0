-- `emit::kept::copy_wires` meets its contract.
use Rattle.emit.proofs.Copying.{Copying}
use Rattle.emit.proofs.kept.copy_wires.Given as goal

abbrev pub invariant-loop-k : goal.invariant-loop-k
invariant-loop-k l = Copying l.wires l.initial.out l.out l.at l.k
