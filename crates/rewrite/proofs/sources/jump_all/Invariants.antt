-- `rewrite::sources::jump_all` meets its contract.
use Rattle.records.specs.Access.{wires_of}
use Rattle.rewrite.proofs.Jumping.{Jumping}
use Rattle.rewrite.proofs.sources.jump_all.Given as goal

abbrev pub invariant-loop-i : goal.invariant-loop-i
invariant-loop-i l = Jumping (wires_of l.wires.records.now) l.actions l.wires.nodes l.down l.initial.sources l.sources l.any l.far l.i
