-- Document 01's starred cases hold of the gates' rules.
use mathlib.Core.Path.{refl}
use lib.Ieee.{of_bits, add, sub, mul, div, rem, round, of_int, lt, eq, ne}
use Rattle.ieee.specs.Finite.{finite_of, sanitize_of}
use Rattle.ieee.specs.Integral.{round_to_integral}
use Rattle.whole.specs.Compare.{eq_z}
use Rattle.whole.specs.Checked.{division_overflows, divided}
use Rattle.whole.specs.Convert.{int_as_f64}
use Rattle.whole.specs.Bits.{shift_in_range, shifted, bit_sum}
use Rattle.arithmetic.specs.Arithmetic.{float_math, math_of}
use Rattle.extended.specs.Extended.{given_finite, on_float}
use Rattle.bitwise.specs.Bitwise.{on_int}
use Rattle.semantics.specs.Starred.{starred, AllHold}

pub starred_hold : AllHold starred
unfolding of_bits add sub mul div rem round of_int lt eq ne finite_of sanitize_of round_to_integral eq_z division_overflows divided int_as_f64 shift_in_range shifted bit_sum float_math math_of given_finite on_float on_int
starred_hold = (refl, (refl, (refl, (refl, (refl, (refl, (refl, (refl, (refl, (refl, (refl, tt)))))))))))
