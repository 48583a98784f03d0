-- `conversions::scalar` meets its contract.
use Rattle.std.specs.Prelude.{Some}
use Rattle.std.specs.Float.{binary64}
use Rattle.std.specs.Float.Ieee.{of_int, round, of_bits}
use mathlib.Core.Path.{◌≡◌, refl, ap, ◌∙◌}
use mathlib.Core.Bool.{Bool, true, false}
use lib.IntN.{pos}
use mir.Val.{bool_byte}
use Rattle.conversions.specs.Conversions.{float_of_bool}
use Rattle.conversions.proofs.scalar.Goals as goal

by_cases : (b : Bool) → of_int binary64 (pos (bool_byte b)) ≡ float_of_bool b
unfolding of_int round of_bits
by_cases false = refl
by_cases true = refl

pub returns-in-Bool : goal.returns-in-Bool
returns-in-Bool c = rw (c.in-Some.is, c.in-Bool.is) (ap Some (c.from.ensures ∙ by_cases c.in-Bool.b))
