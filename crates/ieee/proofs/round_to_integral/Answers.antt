-- `ieee::round_to_integral` meets its contract.
use Rattle.std.proofs.Common.{ap, ◌∙◌}
use denote.Floats.{passes}
use lib.Ieee.{neg}
use Rattle.ieee.proofs.Integral.{integral_neg}
use Rattle.ieee.proofs.Truncation.{neg_positive, zero_same}
use Rattle.ieee.proofs.round_to_integral.Goals as goal

pub round_positive-requires-then-x-2 : goal.round_positive-requires-then-x-2
round_positive-requires-then-x-2 c = neg_positive _ c.if-x-2.true

pub returns-then-x-2 : goal.returns-then-x-2
returns-then-x-2 c = ap neg (c.round_positive-then-x-2.ensures _) ∙ integral_neg _ _ _

pub returns-else-x-2 : goal.returns-else-x-2
returns-else-x-2 c = zero_same _ _ _ (passes _ c.well_formed.0.1) c.if-x.false c.if-x-2.false
