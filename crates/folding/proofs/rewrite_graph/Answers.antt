-- `folding::rewrite_graph` meets its contract.
use mathlib.Core.Path.{ap}
use Prim.Native.Nat.{ℕ, ◌+◌, ◌*◌}
use native.Mathlib.Omega.{arith}
use Rattle.records.specs.Access.{wires_of}
use Rattle.state.specs.Planned.{shape_of}
use Rattle.rewrite.specs.Tallied.{Stuck}
use Rattle.folding.proofs.Stages.{shaped_at, refuse_endless, small_place, stuck_at, rewrote_at}
use Rattle.folding.proofs.rewrite_graph.Goals as goal
use Rattle.folding.proofs.rewrite_graph.Goals.{After-wires_offset}

stuck : (c : After-wires_offset) → Stuck (shape_of (wires_of c.wires-wires.result.records.now) c.args.plan.now.actions c.args.plan.now.details) c.args.records.now.counts.nodes (wires_of c.wires-wires.result.records.now) c.in-Err.endless.index
stuck c = rw c.wires-wires.ensures.nodes at c.in-Err.ensures.0

pub rewrite-requires : goal.rewrite-requires
rewrite-requires c = rw c.wires-wires.ensures.nodes (shaped_at c.requires.settled c.wires-wires.ensures.wires)

pub overflow_mul-place : goal.overflow_mul-place
overflow_mul-place c = omega (arith, small_place c.requires.settled c.wires-wires.ensures.wires (stuck (goal.at.overflow_mul-place c).After-wires_offset))

pub overflow_add-place : goal.overflow_add-place
overflow_add-place c = omega (arith, small_place c.requires.settled c.wires-wires.ensures.wires (stuck (goal.at.overflow_add-place c).After-wires_offset), c.wires_offset.ensures)

pub write_answer-requires : goal.write_answer-requires
write_answer-requires c =
    let E = rw c.wires-wires.ensures.nodes at c.in-Ok.ensures in
    rewrote_at c.requires.settled c.wires-wires.ensures.wires E.0 E.1

pub returns-in-Err : goal.returns-in-Err
returns-in-Err c = record { law = λ own S. refuse_endless S (stuck_at S c.wires-wires.ensures.wires (stuck (goal.at.returns-in-Err c).After-wires_offset)) (ap (λ (x : ℕ). x + 7 * c.in-Err.endless.index) c.wires_offset.ensures) }

pub returns-in-Ok : goal.returns-in-Ok
returns-in-Ok c = c.write_answer.ensures
