-- `swept::fold_input` meets its contract.
use Rattle.propagation.proofs.Accepted.{refused_is, err_is}
use Rattle.folding.proofs.Stages.{refuse_decode}
use Rattle.sweep.specs.Swept.{swept_bytes}
use Rattle.swept.proofs.fold_input.Goals as goal

pub invariant_of-records : goal.invariant_of-records
invariant_of-records c = record { accepts = c.in_ok-counts.ensures.0 }

pub fold_graph-requires : goal.fold_graph-requires
fold_graph-requires c = c.in_ok-counts.ensures.1

pub returns : goal.returns
returns c = c.fold_graph.ensures

pub returns-in_err-counts : goal.returns-in_err-counts
returns-in_err-counts c = rw (err_is _ _ c.from_residual.ensures.1) (refuse_decode swept_bytes _ (refused_is _ c.in_err-counts.ensures.0))
