-- `emit::sharing::share_row` meets its contract.
use Rattle.records.specs.Access.{wires_of}
use Rattle.emit.specs.Emit.{Shared, Branches}
use Rattle.emit.proofs.sharing.share_row.Given as goal

abbrev pub invariant-loop-k : goal.invariant-loop-k
invariant-loop-k l = Shared (wires_of l.records) l.plan.actions l.rewrites.chains.next l.initial.first l.first
