-- `folding::fold_graph` meets its contract.
use Rattle.state.proofs.Stores.{cleared}
use Rattle.folding.proofs.Stages.{plain}
use Rattle.folding.proofs.fold_graph.Goals as goal

pub propagate_graph-pops-requires : goal.propagate_graph-pops-requires
propagate_graph-pops-requires c =
    let k = c.new-known.ensures in
    let p = c.new-plan.ensures in
    (c.requires, rw (k.kinds, k.words, p.actions, p.details) (cleared _))

pub answer_graph-requires : goal.answer_graph-requires
answer_graph-requires c = record { own = _; settled = c.propagate_graph-pops.ensures }

pub returns : goal.returns
returns c = plain c.propagate_graph-pops.ensures c.answer_graph.ensures
