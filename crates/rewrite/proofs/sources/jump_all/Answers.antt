-- `rewrite::sources::jump_all` meets its contract.
use native.Mathlib.Omega.{arith}
use Rattle.rewrite.proofs.Jumping.{jumping_next, jumping_end, jumping_still}
use Rattle.rewrite.proofs.sources.jump_all.Goals as goal

pub loop-i-preserved : goal.loop-i-preserved
loop-i-preserved c = jumping_next _ _ _ _ _ _ _ _ _ _ c.turned.ensures.1 (omega (arith, c.args.wires.now.bounded.few_nodes)) c.loop-i.invariant _ _ c.jump-any.ensures.0 c.jump-any.ensures.1

pub returns-then-any : goal.returns-then-any
returns-then-any c = (c.loop-i.invariant.traced, omega arith, jumping_end _ _ _ _ _ _ _ _ _ c.loop-i-test.false c.loop-i.invariant)

pub returns-else-any : goal.returns-else-any
returns-else-any c = (c.loop-i.invariant.traced, omega arith, λ details s o. jumping_still _ _ _ _ _ _ _ _ _ c.loop-i-test.false c.loop-i.invariant details s o c.if-any.false _)
