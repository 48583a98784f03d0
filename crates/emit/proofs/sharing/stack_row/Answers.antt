-- `emit::sharing::stack_row` meets its contract.
use native.Mathlib.Omega.{arith}
use Rattle.emit.proofs.SharedChains.{stacked}
use Rattle.emit.proofs.sharing.stack_row.Goals as goal

pub loop-depth-preserved : goal.loop-depth-preserved
loop-depth-preserved c = ((c.entered.ensures _ c.in-Some.is).low, stacked c.loop-depth.invariant.1 (omega arith) c.loop-depth.invariant.0)
