-- `sweep::sweep_dead_pure` meets its contract.
use mathlib.Core.Path.{◌≡◌, ◌∙◌}
use Rattle.sweep.specs.Queue.{Within, Sweeping}
use Rattle.records.specs.Access.{wires_of}
use Rattle.sweep.proofs.Sweeps.{sweep_start, sweep_ends}
use Rattle.sweep.proofs.sweep_dead_pure.Goals as goal
use Rattle.sweep.proofs.sweep_dead_pure.Goals.{After-release_nodes, then-queue-gt0, else-queue-gt0}

same : (c : After-release_nodes) → c.release_nodes.new.self.eligible ≡ c.args.eligible
same c = c.release_nodes.ensures.same ∙ (c.count_wires.ensures.same ∙ c.new-queue.ensures.same)

started : (c : After-release_nodes) → Sweeping c.args.wires.now.nodes (wires_of c.args.wires.now.records.now) c.release_nodes.new.self.eligible.now c.release_nodes.new.self.degrees c.release_nodes.new.self.order 0 c.release_nodes.new.self.tail
started c = sweep_start c.args.wires.now.bounded.few_nodes c.count_wires.ensures.degrees c.release_nodes.ensures.fell

pub remove_nodes-requires : goal.remove_nodes-requires
remove_nodes-requires c =
    let r = (goal.at.remove_nodes-requires c).After-release_nodes in
    (c.link_targets.ensures, rw (same r) c.requires, started r)

pub returns : goal.returns
returns c =
    let r = (goal.at.returns c).After-release_nodes in
    elim c.if-queue-gt0.branch [
      | then-queue-gt0 w ↦ rw w.queue-is (rw (same r) at w.remove_nodes.ensures)
      | else-queue-gt0 w ↦ rw w.queue-is (rw (same r) at (sweep_ends (rw (same r) c.requires) c.release_nodes.new.self.queued (started r) c.args.wires.now.bounded.few_nodes w.if-queue-gt0.false))
    ]
