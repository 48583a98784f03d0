-- `extended::max_float` meets its contract.
use Rattle.extended.specs.Extremes.{maximum_number}
use Rattle.extended.proofs.Extremes.{follows_trichotomous, ordered}
use Rattle.extended.proofs.max_float.Goals as goal

pub returns : goal.returns
unfolding maximum_number
returns c =
    let g = c.well_formed in
    let r = ordered follows_trichotomous _ _ g.0.1 g.1.0.1 (rw c.precedes.ensures at c.chosen.ensures) in
    record { result = r.0; greatest = r.1.0; swapped = r.1.1 }
