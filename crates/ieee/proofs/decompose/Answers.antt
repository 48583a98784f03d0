-- `ieee::decompose` meets its contract.
use denote.Floats.{passes}
use Rattle.ieee.proofs.Units.{parts_low, parts_high}
use Rattle.ieee.proofs.decompose.Goals as goal

pub returns-then-field-eq0 : goal.returns-then-field-eq0
returns-then-field-eq0 c = parts_low _ (passes _ c.well_formed.0.1) _ c.to_bits-bits.ensures c.if-field-eq0.true

pub returns-else-field-eq0 : goal.returns-else-field-eq0
returns-else-field-eq0 c = parts_high _ (passes _ c.well_formed.0.1) c.requires _ c.to_bits-bits.ensures c.if-field-eq0.false
