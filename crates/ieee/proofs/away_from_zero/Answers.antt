-- `ieee::away_from_zero` meets its contract.
use Rattle.std.proofs.Common.{true, false}
use denote.Floats.{passes}
use Rattle.ieee.specs.declared.Direction.TheVariants.{TowardZero}
use Rattle.ieee.proofs.Truncation.{away}
use Rattle.ieee.proofs.away_from_zero.Goals as goal

pub returns-then-t-y : goal.returns-then-t-y
returns-then-t-y c q =
    let t = c.toward_zero-t.ensures TowardZero in
    rw t (away q c.args.y (passes _ c.well_formed.0.1) c.requires true (rw t at c.if-t-y.true))

pub returns-else-t-y : goal.returns-else-t-y
returns-else-t-y c q =
    let t = c.toward_zero-t.ensures TowardZero in
    rw t (away q c.args.y (passes _ c.well_formed.0.1) c.requires false (rw t at c.if-t-y.false))
