-- `rewrite::sources::fill` meets its contract.
use native.Mathlib.Omega.{arith}
use Rattle.rewrite.proofs.Jumping.{jump_start, traced_start, sources_right}
use Rattle.rewrite.proofs.sources.fill.Goals as goal

pub loop-far-init : goal.loop-far-init
loop-far-init c = (traced_start _ _ _ _ c.requires c.args.wires.now.bounded, omega arith, jump_start _ _ _ _ c.requires)

pub returns : goal.returns
returns c = sources_right _ _ _ _ c.requires _ _ c.loop-far-test.false c.loop-far.invariant.0 c.loop-far.invariant.2
