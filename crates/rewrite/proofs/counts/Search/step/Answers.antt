-- `rewrite::counts::Search::step` meets its contract.
use Prim.Native.Nat.{◌<◌}
use native.Mathlib.Omega.{arith}
use mathlib.Core.Path.{refl}
use Rattle.ir.specs.Limits.{max_nodes}
use Rattle.rewrite.proofs.Linking.{within}
use Rattle.rewrite.proofs.Steps.{top_inside, top_code, top_sum, step_finishes, step_clears, step_enters, step_room}
use Rattle.rewrite.proofs.Searching.{few}
use Rattle.rewrite.proofs.counts.Search.step.Goals as goal
use Rattle.rewrite.proofs.counts.Search.step.Goals.{After-from-branch, After-get-target}

branch_inside : (c : After-from-branch) → c.from-branch.result < max_nodes
branch_inside c = rw c.from-branch.ensures (top_inside _ _ _ _ _ _ _ _ c.requires.1 _ c.requires.0.searching)

target_inside : (c : After-get-target) → c.get-target.result.target.node_id < max_nodes
target_inside c = rw c.get-target.ensures ((within _ _ c.args.wires.now.bounded).target _ (omega (arith, c.from.ensures, c.walk-walked.ensures.within, c.if-walked-eq0.false)))

pub offset_bounds-self-self : goal.offset_bounds-self-self
offset_bounds-self-self c = omega (arith, few _ _ _ _ _ _ _ _ _ c.requires.0.searching)

pub bounds-self-self : goal.bounds-self-self
bounds-self-self c = omega (arith, few _ _ _ _ _ _ _ _ _ c.requires.0.searching, c.requires.1)

pub bounds-self-branch : goal.bounds-self-branch
bounds-self-branch c = branch_inside (goal.at.bounds-self-branch c).After-from-branch

pub bounds-self-branch-2 : goal.bounds-self-branch-2
bounds-self-branch-2 c = branch_inside (goal.at.bounds-self-branch-2 c).After-from-branch

pub walk-walked-requires : goal.walk-walked-requires
walk-walked-requires c = (c.requires.0.searching.later, rw c.from-branch.ensures (top_code _ _ _ _ _ _ _ _ c.requires.1 _ c.requires.0.searching), rw c.from-branch.ensures (top_sum _ _ _ _ _ _ _ _ c.requires.1 _ c.requires.0.searching))

pub bounds-self-branch-then-walked-eq0 : goal.bounds-self-branch-then-walked-eq0
bounds-self-branch-then-walked-eq0 c = branch_inside (goal.at.bounds-self-branch-then-walked-eq0 c).After-from-branch

pub returns-then-walked-eq0 : goal.returns-then-walked-eq0
returns-then-walked-eq0 c = step_finishes _ _ _ _ c.requires.1 c.requires.0 _ c.from-branch.ensures _ c.walk-walked.ensures c.if-walked-eq0.true

pub returns-then-self-target-ne-UNSEEN : goal.returns-then-self-target-ne-UNSEEN
returns-then-self-target-ne-UNSEEN c = step_clears _ _ _ _ c.requires.1 c.requires.0 _ c.from-branch.ensures _ c.walk-walked.ensures _ (rw (c.get-target.ensures, c.from.ensures) refl) (omega (arith, c.if-walked-eq0.false)) c.if-self-target-ne-UNSEEN.true

pub bounds-self-branch-3 : goal.bounds-self-branch-3
bounds-self-branch-3 c = branch_inside (goal.at.bounds-self-branch-3 c).After-from-branch

pub bounds-self-branch-4 : goal.bounds-self-branch-4
bounds-self-branch-4 c = branch_inside (goal.at.bounds-self-branch-4 c).After-from-branch

pub enter-requires : goal.enter-requires
enter-requires c = (step_room _ _ _ _ c.requires.1 c.requires.0 _ c.from-branch.ensures _ c.walk-walked.ensures _ (rw (c.get-target.ensures, c.from.ensures) refl) (omega (arith, c.if-walked-eq0.false)) c.if-self-target-ne-UNSEEN.false, target_inside (goal.at.enter-requires c).After-get-target)

pub returns : goal.returns
returns c = rw c.enter.ensures (step_enters _ _ _ _ c.requires.1 c.requires.0 _ c.from-branch.ensures _ c.walk-walked.ensures _ (rw (c.get-target.ensures, c.from.ensures) refl) (omega (arith, c.if-walked-eq0.false)) c.if-self-target-ne-UNSEEN.false)
