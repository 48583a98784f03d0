-- `extended::min_float` meets its contract.
use Rattle.extended.specs.Extremes.{minimum_number}
use Rattle.extended.proofs.Extremes.{precedes_trichotomous, ordered}
use Rattle.extended.proofs.min_float.Goals as goal

pub returns : goal.returns
unfolding minimum_number
returns c =
    let g = c.well_formed in
    let r = ordered precedes_trichotomous _ _ g.0.1 g.1.0.1 (rw c.precedes.ensures at c.chosen.ensures) in
    record { result = r.0; least = r.1.0; swapped = r.1.1 }
