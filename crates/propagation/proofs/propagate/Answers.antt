-- `propagation::propagate` meets its contract.
use mathlib.Core.Path.{refl}
use Rattle.propagation.proofs.Accepted.{refused_is, err_is}
use Rattle.propagation.proofs.propagate.Goals as goal

pub invariant_of-records : goal.invariant_of-records
invariant_of-records c = record { accepts = c.in_ok-counts.ensures.0 }

pub propagate_graph-pops-requires : goal.propagate_graph-pops-requires
propagate_graph-pops-requires c = (c.in_ok-counts.ensures.1, c.clear.ensures _)

pub returns : goal.returns
returns c = c.propagate_graph-pops.ensures

pub returns-in_err-counts : goal.returns-in_err-counts
returns-in_err-counts c =
    rw (err_is _ _ c.from_residual.ensures.1)
    (record {
      verdict = refused_is _ c.in_err-counts.ensures.0;
      kinds_stay = refl;
      words_stay = refl;
      actions_stay = refl;
      details_stay = refl;
    })
