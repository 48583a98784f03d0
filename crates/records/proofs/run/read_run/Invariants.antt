-- `records::run::read_run` meets its contract.
use Prim.Native.Nat.{◌-◌, ◌≤◌}
use lib.ListN.{length}
use Rattle.records.specs.Scanned.{Scanned}
use Rattle.records.proofs.run.read_run.Given as goal

abbrev pub invariant-loop-role : goal.invariant-loop-role
invariant-loop-role l = (l.from ≤ l.at) × Scanned l.s l.table l.more l.kind l.at

abbrev pub decreases-loop-role : goal.decreases-loop-role
decreases-loop-role l = length l.s - l.at
