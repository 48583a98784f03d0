-- `rewrite::tally::count_kept` meets its contract.
use Rattle.records.specs.Access.{wires_of}
use Rattle.rewrite.proofs.KeptTargets.{Counting}
use Rattle.rewrite.proofs.tally.count_kept.Given as goal

abbrev pub invariant-loop-i : goal.invariant-loop-i
invariant-loop-i l = Counting l.actions (wires_of l.records) l.i l.count
