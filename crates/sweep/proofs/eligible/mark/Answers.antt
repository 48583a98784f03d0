-- `sweep::eligible::mark` meets its contract.
use mathlib.Core.Path.{refl}
use native.Mathlib.Omega.{arith}
use Rattle.ir.specs.Limits.{max_nodes}
use Rattle.graph.specs.Decode.{graph_of}
use Rattle.sweep.proofs.Marks.{marking_start, marking_more, marking_ends}
use Rattle.sweep.proofs.eligible.mark.Goals as goal

pub loop-n-init : goal.loop-n-init
loop-n-init c = marking_start (graph_of c.args.input.now) c.args.actions.now max_nodes refl

pub node_eligible-requires : goal.node_eligible-requires
node_eligible-requires c = (omega (arith, c.requires.0, c.loop-n-test.true), omega (arith, c.requires.0, c.requires.1))

pub bounds-eligible-n : goal.bounds-eligible-n
bounds-eligible-n c = omega (arith, c.loop-n-test.true, c.requires.1)

pub loop-n-preserved : goal.loop-n-preserved
loop-n-preserved c =
    let t = c.loop-n-test.true in
    marking_more c.loop-n.invariant (omega (arith, t, c.requires.1)) c.node_eligible.ensures

pub returns : goal.returns
returns c = marking_ends c.loop-n.invariant (omega (arith, c.requires.0, c.loop-n-test.false))
