-- `rewrite::tally::weigh_all` meets its contract.
use Prim.Native.Nat.{◌*◌, ◌≤◌}
use Rattle.records.specs.Access.{wires_of}
use Rattle.model.specs.TargetCounts.{cap}
use Rattle.rewrite.proofs.Tallying.{Scanning}
use Rattle.rewrite.proofs.tally.weigh_all.Given as goal

abbrev pub invariant-loop-i : goal.invariant-loop-i
invariant-loop-i l =
    (l.count ≤ 4097 * l.i) × Scanning (wires_of l.records) l.plan.actions l.rewrites.sources l.rewrites.counts l.i (cap l.count)
