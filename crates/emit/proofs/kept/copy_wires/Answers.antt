-- `emit::kept::copy_wires` meets its contract.
use native.Mathlib.Omega.{arith}
use borrow.Author.Rules.{rules}
use Rattle.emit.proofs.Copying.{copy_start, copy_long, copy_next, copy_end}
use Rattle.emit.proofs.kept.copy_wires.Goals as goal

pub loop-k-init : goal.loop-k-init
loop-k-init c = copy_start _ _ _ c.requires

pub overflow_add-out : goal.overflow_add-out
overflow_add-out c = search (rules, c.requires, c.loop-k-test.true)

pub bounds-out-at : goal.bounds-out-at
bounds-out-at c = omega (arith, c.requires, c.loop-k-test.true, copy_long c.loop-k.invariant)

pub loop-k-preserved : goal.loop-k-preserved
loop-k-preserved c = copy_next c.loop-k.invariant c.loop-k-test.true

pub returns : goal.returns
returns c = copy_end c.loop-k.invariant (omega (arith, c.loop-k-test.false))
