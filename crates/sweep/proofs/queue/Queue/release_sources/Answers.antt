-- `sweep::queue::Queue::release_sources` meets its contract.
use mathlib.Core.Path.{refl, ap, ◌≡◌, ◌∙◌}
use Prim.Native.Nat.{ℕ, ◌-◌, ◌<◌}
use lib.ListN.{length, get_or}
use native.Mathlib.Omega.{arith}
use Rattle.ir.specs.declared.Wire.{Wire}
use Rattle.records.specs.Access.{wires_of, no_wire}
use Rattle.sweep.proofs.Releases.{feeding_start, feeding_within, feeding_less, feeding_some, feeding_more, feeding_ends}
use Rattle.sweep.proofs.queue.Queue.release_sources.Goals as goal
use Rattle.sweep.proofs.queue.Queue.release_sources.Goals.{After-get}

-- the wire leaves this node
source_is : (c : After-get) → c.get.result.source.node_id ≡ (get_or (wires_of c.args.wires.now.records.now) (c.loop-code.code - 1) no_wire).source.node_id
source_is c = ap (λ (w : Wire). w.source.node_id) c.get.ensures

source_low : (c : After-get) → c.get.result.source.node_id < c.args.wires.now.nodes
source_low c = rw c.get.ensures (c.args.wires.now.bounded.named _ (feeding_within c.loop-code.invariant.1 (omega (arith, c.loop-code-test.true)))).source

pub loop-code-init : goal.loop-code-init
loop-code-init c = (refl, feeding_start c.args.wires.now.bounded c.requires.0 c.requires.1 c.from-code.ensures)

pub release-requires : goal.release-requires
release-requires c =
    let g = (goal.at.release-requires c).After-get in
    (omega (arith, source_low g, c.args.wires.now.bounded.few_nodes), feeding_some c.loop-code.invariant.1 _ (omega (arith, c.loop-code-test.true)) (source_is g) (source_low g) (c.requires.2 _ (source_low g)))

pub loop-code-smaller : goal.loop-code-smaller
loop-code-smaller c = rw c.from-code-in-loop-code.ensures (feeding_less c.loop-code.invariant.1 (omega (arith, c.loop-code-test.true)))

pub loop-code-preserved : goal.loop-code-preserved
loop-code-preserved c =
    let g = (goal.at.loop-code-preserved c).After-get in (
      c.release.ensures.same ∙ c.loop-code.invariant.0,
      feeding_more c.loop-code.invariant.1 _ (omega (arith, c.loop-code-test.true)) (source_is g) (source_low g) (omega (arith, source_low g, c.args.wires.now.bounded.few_nodes, c.loop-code.self.queued.degrees_long)) (c.requires.2 _ (source_low g)) c.release.ensures.released c.from-code-in-loop-code.ensures,
    )

pub returns-clause-fell : goal.returns-clause-fell
returns-clause-fell c = feeding_ends c.loop-code.invariant.1 c.loop-code-test.false
