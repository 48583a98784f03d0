-- `rewrite::counts::count_all` meets its contract.
use mathlib.Core.Path.{refl}
use Rattle.rewrite.proofs.Counting.{search_start, search_end}
use Rattle.rewrite.proofs.counts.count_all.Goals as goal

pub visit_all-requires : goal.visit_all-requires
visit_all-requires c = (record { details = c.args.plan.now.details; searching = search_start _ _ _ _ c.requires.0 c.args.wires.now.bounded.few_nodes _ _ _ _ _ c.requires.1 refl refl refl }, refl)

pub returns : goal.returns
returns c = search_end _ _ _ _ c.requires.0 c.args.wires.now.bounded.few_nodes _ _ _ _ _ (rw c.visit_all.ensures.1 at (c.visit_all.ensures.0.goes _ (search_start _ _ _ _ c.requires.0 c.args.wires.now.bounded.few_nodes _ _ _ _ _ c.requires.1 refl refl refl))) c.visit_all.ensures.2
