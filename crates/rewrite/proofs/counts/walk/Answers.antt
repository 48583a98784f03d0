-- `rewrite::counts::walk` meets its contract.
use native.Mathlib.Omega.{arith}
use Rattle.model.specs.TargetCounts.{cap}
use Rattle.rewrite.proofs.Walking.{walk_start, walk_next, ahead_less}
use Rattle.rewrite.proofs.counts.walk.Goals as goal

pub loop-code-init : goal.loop-code-init
loop-code-init c = walk_start _ _ _ _ _ _ c.requires.1 c.requires.2

pub loop-code-smaller : goal.loop-code-smaller
loop-code-smaller c = ahead_less _ _ _ _ c.requires.0 (omega (arith, c.from-i.ensures)) c.loop-code.invariant.within

pub loop-code-preserved : goal.loop-code-preserved
unfolding cap
loop-code-preserved c = rw c.min-sum.ensures (walk_next _ _ _ _ _ _ _ _ _ _ c.requires.0 c.loop-code.invariant (omega (arith, c.from-i.ensures)) (rw c.get.ensures at c.count_at-count.ensures) c.if-count-ge-NO_COUNT.false)
