-- `emit::sharing::stack_row` meets its contract.
use Prim.Native.Nat.{◌<◌}
use Rattle.ir.specs.Limits.{max_nodes}
use Rattle.emit.specs.Emit.{Branches}
use Rattle.emit.proofs.sharing.stack_row.Given as goal

abbrev pub invariant-loop-depth : goal.invariant-loop-depth
invariant-loop-depth l = (l.branch < max_nodes) × Branches l.stack l.depth
