-- `emit::sharing::share_chains` meets its contract.
use Rattle.records.specs.Access.{wires_of}
use Rattle.emit.specs.Emit.{Shared, Branches}
use Rattle.emit.proofs.sharing.share_chains.Given as goal

abbrev pub invariant-loop-b : goal.invariant-loop-b
invariant-loop-b l = Shared (wires_of l.records) l.plan.actions l.rewrites.chains.next l.initial.first l.first × Branches l.stack 0
