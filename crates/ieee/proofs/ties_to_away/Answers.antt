-- `ieee::ties_to_away` meets its contract.
use Rattle.std.proofs.Common.{true, false, ◌∙◌}
use denote.Floats.{passes}
use Rattle.ieee.specs.declared.Direction.TheVariants.{TowardZero}
use Rattle.ieee.proofs.Truncation.{ties}
use Rattle.ieee.proofs.ties_to_away.Goals as goal

pub returns-then-y-t : goal.returns-then-y-t
returns-then-y-t c q =
    let t = c.toward_zero-t.ensures TowardZero in
    rw t (ties q c.args.y (passes _ c.well_formed.0.1) c.requires true (rw t at c.if-y-t.true))

pub returns-else-y-t : goal.returns-else-y-t
returns-else-y-t c q =
    let t = c.toward_zero-t.ensures TowardZero in
    c.away_from_zero.ensures q ∙ ties q c.args.y (passes _ c.well_formed.0.1) c.requires false (rw t at c.if-y-t.false)
