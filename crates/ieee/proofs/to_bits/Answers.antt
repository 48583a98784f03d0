-- `ieee::to_bits` meets its contract.
use mathlib.Core.Path.{sym, ◌∙◌}
use Rattle.ieee.specs.Bits.{bits_of}
use Rattle.ieee.proofs.to_bits.Goals as goal

pub returns-then-is_nan : goal.returns-then-is_nan
unfolding bits_of
returns-then-is_nan c = rw (sym c.is_nan.ensures.value ∙ c.if-is_nan.true)

pub returns-else-is_nan : goal.returns-else-is_nan
unfolding bits_of
returns-else-is_nan c = rw (sym c.is_nan.ensures.value ∙ c.if-is_nan.false)
