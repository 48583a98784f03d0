-- How the gates read an operand (document 01, "Corners of semantics.rs").
use Rattle.std.specs.Prelude.{Bool, true, false, not, pos, Float, Option, None, Some, ℤ}
use Rattle.std.specs.Float.{binary64}
use Rattle.std.specs.Float.Ieee.{of_bits, ne}
use Rattle.ieee.specs.Finite.{sanitize_of}
use Rattle.whole.specs.Compare.{eq_z}
use Rattle.whole.specs.Convert.{int_of_bool, int_as_f64}
use Rattle.text.specs.Text.{is_false}
use Rattle.value.specs.declared.Value.{Value}
use Rattle.conversions.specs.declared.MathIn.{MathIn}

abbrev pub float_zero : Float
float_zero = of_bits binary64 0

abbrev pub float_of_bool : Bool → Float
float_of_bool false = float_zero
float_of_bool true = of_bits binary64 0x3ff0_0000_0000_0000

-- "T (truthy): Int or S not zero; a true Bool; Unwired and the four composites are false. Text is false for empty, `0` and `false`,
-- else true"
abbrev pub truthy_value : Value → Bool
truthy_value (Value.Int n) = not (eq_z n (pos 0))
truthy_value (Value.Float x) = ne (sanitize_of x) float_zero
truthy_value (Value.Bool b) = b
truthy_value (Value.Vector x y z) = false
truthy_value (Value.Rotator p y r) = false
truthy_value (Value.Quat x y z w) = false
truthy_value (Value.Color r g b a) = false
truthy_value (Value.Text low high) = not (is_false low high)

abbrev pub truthy_of : Option Value → Bool
truthy_of None = false
truthy_of (Some v) = truthy_value v

-- Order gates: "by float with S, Unwired 0, Bool 0 or 1; composites None". So too "a scalar (Unwired, Int, Float, Bool)" beside a Vector.
-- An Int that no f64 equals is None.
abbrev pub scalar_value : Value → Option Float
scalar_value (Value.Int n) = int_as_f64 n
scalar_value (Value.Float x) = Some (sanitize_of x)
scalar_value (Value.Bool b) = Some (float_of_bool b)
scalar_value (Value.Vector x y z) = None
scalar_value (Value.Rotator p y r) = None
scalar_value (Value.Quat x y z w) = None
scalar_value (Value.Color r g b a) = None
scalar_value (Value.Text low high) = None

abbrev pub scalar_of : Option Value → Option Float
scalar_of None = Some float_zero
scalar_of (Some v) = scalar_value v

-- "Add to Modulo: Unwired is Int 0, Bool an Int. .. Else floats by S"
abbrev pub math_in_value : Value → Option MathIn
math_in_value (Value.Int n) = Some (MathIn.I n)
math_in_value (Value.Float x) = Some (MathIn.F (sanitize_of x))
math_in_value (Value.Bool b) = Some (MathIn.I (int_of_bool b))
math_in_value (Value.Vector x y z) = None
math_in_value (Value.Rotator p y r) = None
math_in_value (Value.Quat x y z w) = None
math_in_value (Value.Color r g b a) = None
math_in_value (Value.Text low high) = None

abbrev pub math_in_of : Option Value → Option MathIn
math_in_of None = Some (MathIn.I (pos 0))
math_in_of (Some v) = math_in_value v

-- Abs to Ceil, and MathSqrt: "An Unwired operand gives None. Else floats without S, Bool, composites and text None". An Int that no f64 equals is None.
abbrev pub as_float_value : Value → Option Float
as_float_value (Value.Int n) = int_as_f64 n
as_float_value (Value.Float x) = Some x
as_float_value (Value.Bool b) = None
as_float_value (Value.Vector x y z) = None
as_float_value (Value.Rotator p y r) = None
as_float_value (Value.Quat x y z w) = None
as_float_value (Value.Color r g b a) = None
as_float_value (Value.Text low high) = None

abbrev pub as_float_of : Option Value → Option Float
as_float_of None = None
as_float_of (Some v) = as_float_value v

-- "Abs, Min, Max, Clamp on Ints and Bools stay Int", "Bitwise gates take Int and Bool (as 0 or 1)": those as a whole number, and None of others, Unwired too
abbrev pub as_int_value : Value → Option ℤ
as_int_value (Value.Int n) = Some n
as_int_value (Value.Float x) = None
as_int_value (Value.Bool b) = Some (int_of_bool b)
as_int_value (Value.Vector x y z) = None
as_int_value (Value.Rotator p y r) = None
as_int_value (Value.Quat x y z w) = None
as_int_value (Value.Color r g b a) = None
as_int_value (Value.Text low high) = None

abbrev pub as_int_of : Option Value → Option ℤ
as_int_of None = None
as_int_of (Some v) = as_int_value v

-- an Int alone: order gates' "two Ints exactly", and "Negate keeps Int"
abbrev pub only_int_value : Value → Option ℤ
only_int_value (Value.Int n) = Some n
only_int_value (Value.Float x) = None
only_int_value (Value.Bool b) = None
only_int_value (Value.Vector x y z) = None
only_int_value (Value.Rotator p y r) = None
only_int_value (Value.Quat x y z w) = None
only_int_value (Value.Color r g b a) = None
only_int_value (Value.Text low high) = None

abbrev pub only_int_of : Option Value → Option ℤ
only_int_of None = None
only_int_of (Some v) = only_int_value v

-- what a gate gives of a whole number that may be missing
abbrev pub given_int : Option ℤ → Option Value
given_int None = None
given_int (Some n) = Some (Value.Int n)
