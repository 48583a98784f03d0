-- Abs, Min, Max, Clamp, Sign, Negate, ModuloFloored, Round, Floor, Ceil and MathSqrt (document 01, "Corners of semantics.rs").
use Rattle.std.specs.Prelude.{◌≡◌, false, cond, ℤ, Float, Option, None, Some, MatchOption}
use Rattle.std.specs.Float.{nan, inf, fin, binary64}
use Rattle.std.specs.Float.Ieee.{of_bits, lt, sub, mul, div, neg}
use Rattle.ieee.specs.Finite.{finite_of}
use Rattle.ieee.specs.Integral.{floor_of, ceil_of, round_of}
use Rattle.root.specs.Sqrt.{sqrt_of}
use Rattle.whole.specs.Compare.{min_of, max_of}
use Rattle.whole.specs.Checked.{checked_abs_of, checked_neg_of}
use Rattle.value.specs.declared.Value.{Value}
use Rattle.extended.specs.Extremes.{minimum_number, maximum_number}
use Rattle.conversions.specs.Conversions.{float_zero, as_float_of, as_int_of, only_int_of, given_int}

abbrev pub int : ℤ → Option Value
int n = Some (Value.Int n)

abbrev pub float : Float → Option Value
float x = Some (Value.Float x)

-- "A non-finite result of Abs to Clamp, Sign, Negate or ModuloFloored is None."
unfoldable pub given_finite : Float → Option Value
given_finite x = cond (finite_of x) (float x) None

-- "Abs, Min, Max, Clamp on Ints and Bools stay Int; .. Else floats": the rule f on an operand that was read as a whole number, else the other
unfoldable pub on_int_else : Option ℤ → Option Value → (ℤ → Option Value) → Option Value
on_int_else None other f = other
on_int_else (Some n) other f = f n

-- "An Unwired operand gives None. Else floats without S, Bool, composites and text None": the rule f on an operand that was read as a float, else None
unfoldable pub on_float : Option Float → (Float → Option Value) → Option Value
on_float None f = None
on_float (Some x) f = f x

-- a float without its sign
abbrev pub abs_float : Float → Float
abs_float nan = nan
abs_float (inf s) = inf false
abs_float (fin s m e) = fin false m e

-- "Abs of the smallest Int is None."
abbrev pub abs_of : Option Value → Option Value
abs_of a =
    on_int_else (as_int_of a) (on_float (as_float_of a) (λ x. given_finite (abs_float x)))
    (λ n. given_int (checked_abs_of n))

-- "Min and Max of floats are minimumNumber and maximumNumber of IEEE 754-2019"
abbrev pub min_floats : Option Value → Option Value → Option Value
min_floats a b = on_float (as_float_of a) (λ x. on_float (as_float_of b) (λ y. given_finite (minimum_number x y)))

abbrev pub min_operands : Option Value → Option Value → Option Value
min_operands a b =
    on_int_else (as_int_of a) (min_floats a b) (λ m.
    on_int_else (as_int_of b) (min_floats a b) (λ n.
    int (min_of m n)))

abbrev pub max_floats : Option Value → Option Value → Option Value
max_floats a b = on_float (as_float_of a) (λ x. on_float (as_float_of b) (λ y. given_finite (maximum_number x y)))

abbrev pub max_operands : Option Value → Option Value → Option Value
max_operands a b =
    on_int_else (as_int_of a) (max_floats a b) (λ m.
    on_int_else (as_int_of b) (max_floats a b) (λ n.
    int (max_of m n)))

-- "Clamp is Max of the first two, then Min with the third": all three whole or all three floats, and only what it gives need be finite
abbrev pub clamp_int : ℤ → ℤ → ℤ → ℤ
clamp_int n lo hi = min_of (max_of n lo) hi

abbrev pub clamp_ints : Option ℤ → Option ℤ → Option ℤ → Option ℤ
clamp_ints None b c = None
clamp_ints (Some n) None c = None
clamp_ints (Some n) (Some lo) None = None
clamp_ints (Some n) (Some lo) (Some hi) = Some (clamp_int n lo hi)

abbrev pub clamp_float : Float → Float → Float → Float
clamp_float x lo hi = minimum_number (maximum_number x lo) hi

abbrev pub clamp_floats : Option Value → Option Value → Option Value → Option Value
clamp_floats a b c =
    on_float (as_float_of a) (λ x.
    on_float (as_float_of b) (λ lo.
    on_float (as_float_of c) (λ hi.
    given_finite (clamp_float x lo hi))))

abbrev pub clamp_of : Option Value → Option Value → Option Value → Option Value
clamp_of a b c = on_int_else (clamp_ints (as_int_of a) (as_int_of b) (as_int_of c)) (clamp_floats a b c) int

abbrev pub float_one : Float
float_one = of_bits binary64 0x3ff0_0000_0000_0000

-- "Sign, Negate, ModuloFloored, Round, Floor and Ceil read operands in that float way too. Sign gives Float 1, -1 or 0 (NaN: 0)."
abbrev pub sign_float : Float → Float
sign_float x = cond (lt float_zero x) float_one (cond (lt x float_zero) (neg float_one) float_zero)

abbrev pub sign_of : Option Value → Option Value
sign_of a = on_float (as_float_of a) (λ x. float (sign_float x))

-- "Negate keeps Int, None for the smallest."
abbrev pub negate_of : Option Value → Option Value
negate_of a =
    on_int_else (only_int_of a) (on_float (as_float_of a) (λ x. given_finite (neg x)))
    (λ n. given_int (checked_neg_of n))

-- "ModuloFloored takes the floor of the quotient and subtracts the second times that floor, each operation rounded once."
abbrev pub modulo_floored : Float → Float → Float
modulo_floored x y = sub binary64 x (mul binary64 y (floor_of (div binary64 x y)))

abbrev pub modulo_floored_of : Option Value → Option Value → Option Value
modulo_floored_of a b = on_float (as_float_of a) (λ x. on_float (as_float_of b) (λ y. given_finite (modulo_floored x y)))

-- "Round goes half away from zero; Floor and Ceil are those of IEEE 754. .. They may give a non-finite Float."
abbrev pub round_gate : Option Value → Option Value
round_gate a = on_float (as_float_of a) (λ x. float (round_of x))

abbrev pub floor_gate : Option Value → Option Value
floor_gate a = on_float (as_float_of a) (λ x. float (floor_of x))

abbrev pub ceil_gate : Option Value → Option Value
ceil_gate a = on_float (as_float_of a) (λ x. float (ceil_of x))

-- "MathSqrt reads its operand in that float way too and gives a Float: the square root of IEEE 754, .."
abbrev pub sqrt_gate : Option Value → Option Value
sqrt_gate a = on_float (as_float_of a) (λ x. on_float (sqrt_of x) float)

-- ---- The rules of two operands as relations: P of two that are both read as floats, else no value

abbrev pub OnFloats : Option Value → Option Value → (Float → Float → Type 0) → Option Value → Type 0
OnFloats a b P r = MatchOption (as_float_of a) (r ≡ None) (λ x. MatchOption (as_float_of b) (r ≡ None) (P x))

-- Q of two that are both read as whole numbers, else P as before
abbrev pub OnNumbers : Option Value → Option Value → (ℤ → ℤ → Type 0) → (Float → Float → Type 0) → Option Value → Type 0
OnNumbers a b Q P r = MatchOption (as_int_of a) (OnFloats a b P r) (λ m. MatchOption (as_int_of b) (OnFloats a b P r) (Q m))
