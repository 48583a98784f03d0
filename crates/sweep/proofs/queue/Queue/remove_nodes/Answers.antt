-- `sweep::queue::Queue::remove_nodes` meets its contract.
use mathlib.Core.Path.{◌∙◌}
use native.Mathlib.Omega.{arith}
use Rattle.sweep.specs.Queue.{Within}
use Rattle.sweep.proofs.Sweeps.{sweep_place, sweep_node, sweep_enough, sweep_more, sweep_ends}
use Rattle.sweep.proofs.queue.Queue.remove_nodes.Goals as goal
use Rattle.sweep.proofs.queue.Queue.remove_nodes.Goals.{At-loop-head}

within : (c : At-loop-head) → Within c.args.wires.now.nodes c.loop-head.self.eligible.now
within c = rw c.loop-head.invariant.0 c.requires.1

pub offset_bounds-self-head : goal.offset_bounds-self-head
offset_bounds-self-head c = record { fits = omega (arith, sweep_place (within (goal.at.offset_bounds-self-head c).At-loop-head) c.loop-head.self.queued c.loop-head.invariant.1 c.loop-head-test.true) }

pub bounds-self-head : goal.bounds-self-head
bounds-self-head c = sweep_place (within (goal.at.bounds-self-head c).At-loop-head) c.loop-head.self.queued c.loop-head.invariant.1 c.loop-head-test.true

pub release_sources-requires : goal.release_sources-requires
release_sources-requires c =
    let w = within (goal.at.release_sources-requires c).At-loop-head in
    (c.requires.0, rw c.from.ensures (sweep_node w c.loop-head.self.queued c.loop-head.invariant.1 c.loop-head-test.true), rw c.from.ensures (sweep_enough w c.loop-head.self.queued c.loop-head.invariant.1 c.loop-head-test.true))

pub loop-head-smaller : goal.loop-head-smaller
loop-head-smaller c = omega (arith, sweep_place (within (goal.at.loop-head-smaller c).At-loop-head) c.loop-head.self.queued c.loop-head.invariant.1 c.loop-head-test.true)

pub loop-head-preserved : goal.loop-head-preserved
loop-head-preserved c = (
  c.release_sources.ensures.same ∙ c.loop-head.invariant.0,
  rw c.release_sources.ensures.same (sweep_more (within (goal.at.loop-head-preserved c).At-loop-head) c.loop-head.self.queued c.loop-head.invariant.1 c.loop-head-test.true (rw c.from.ensures at c.release_sources.ensures.fell)),
)

pub returns : goal.returns
returns c = rw c.loop-head.invariant.0 at (sweep_ends (within (goal.at.returns c).At-loop-head) c.loop-head.self.queued c.loop-head.invariant.1 c.args.wires.now.bounded.few_nodes c.loop-head-test.false)
