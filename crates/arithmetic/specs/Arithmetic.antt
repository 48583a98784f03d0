-- Add, Subtract, Multiply, Divide and Modulo (document 01, "Corners of semantics.rs").
use Rattle.std.specs.Prelude.{Bool, true, false, not, cond, ◌&&◌, ◌||◌, ℤ, Float, Option, None, Some}
use Rattle.std.specs.Bool.{beq}
use Rattle.std.specs.Float.{binary64}
use Rattle.std.specs.Float.Ieee.{add, sub, mul, div, rem, lt, ne}
use Rattle.ieee.specs.Finite.{finite_of, sanitize_of}
use Rattle.whole.specs.Convert.{int_as_f64}
use Rattle.whole.specs.Checked.{checked_add_of, checked_sub_of, checked_mul_of, div_of, rem_of}
use Rattle.value.specs.declared.Value.{Value}
use Rattle.conversions.specs.Conversions.{float_zero, scalar_of, math_in_of, given_int}
use Rattle.conversions.specs.declared.MathIn.{MathIn}
use Rattle.arithmetic.specs.declared.MathOp.{MathOp}
use Rattle.arithmetic.specs.declared.Vector.{Vector}

-- "Two whole operands: overflow None; divisor 0 gives Int 0; the smallest Int by -1 None."
abbrev pub whole_op : MathOp → ℤ → ℤ → Option ℤ
whole_op MathOp.Add a b = checked_add_of a b
whole_op MathOp.Subtract a b = checked_sub_of a b
whole_op MathOp.Multiply a b = checked_mul_of a b
whole_op MathOp.Divide a b = div_of a b
whole_op MathOp.Modulo a b = rem_of a b

-- "Else floats by S; Modulo is the truncated remainder"
abbrev pub float_op : MathOp → Float → Float → Float
float_op MathOp.Add x y = add binary64 x y
float_op MathOp.Subtract x y = sub binary64 x y
float_op MathOp.Multiply x y = mul binary64 x y
float_op MathOp.Divide x y = div binary64 x y
float_op MathOp.Modulo x y = rem binary64 x y

-- "None when exactly one operand is below 0 and that remainder is finite and not 0"
abbrev pub mixed_signs : Float → Float → Float → Bool
mixed_signs x y r = not (beq (lt x float_zero) (lt y float_zero)) && ne r float_zero && finite_of r

-- the sign rule is Modulo's alone; r is what the operation gives
abbrev pub refused_op : MathOp → Float → Float → Float → Bool
refused_op MathOp.Add x y r = false
refused_op MathOp.Subtract x y r = false
refused_op MathOp.Multiply x y r = false
refused_op MathOp.Divide x y r = false
refused_op MathOp.Modulo x y r = mixed_signs x y r

unfoldable pub float_math : MathOp → Float → Float → Option Value
float_math op x y = cond (refused_op op x y (float_op op x y)) None (Some (Value.Float (float_op op x y)))

abbrev pub floats_math : MathOp → Option Float → Option Float → Option Value
floats_math op (Some x) (Some y) = float_math op x y
floats_math op (Some x) None = None
floats_math op None y = None

-- an operand among floats: a whole one becomes a float, or None where no f64 equals it
abbrev pub as_real : MathIn → Option Float
as_real (MathIn.I n) = int_as_f64 n
as_real (MathIn.F x) = Some x

abbrev pub numbers_math : MathOp → Option MathIn → Option MathIn → Option Value
numbers_math op (Some (MathIn.I a)) (Some (MathIn.I b)) = given_int (whole_op op a b)
numbers_math op (Some (MathIn.I a)) (Some (MathIn.F y)) = floats_math op (as_real (MathIn.I a)) (as_real (MathIn.F y))
numbers_math op (Some (MathIn.F x)) (Some b) = floats_math op (as_real (MathIn.F x)) (as_real b)
numbers_math op (Some (MathIn.I a)) None = None
numbers_math op (Some (MathIn.F x)) None = None
numbers_math op None b = None

-- "Vector with Vector or a scalar (Unwired, Int, Float, Bool) goes part by part without that sign rule; a non-finite part gives None.
-- A Rotator, Quat, Color or text operand gives None." A scalar stands for all three parts
abbrev pub spread_scalar : Option Float → Option Vector
spread_scalar (Some s) = Some (record { x = s; y = s; z = s })
spread_scalar None = None

abbrev pub is_vector_value : Value → Bool
is_vector_value (Value.Int n) = false
is_vector_value (Value.Float x) = false
is_vector_value (Value.Bool b) = false
is_vector_value (Value.Vector x y z) = true
is_vector_value (Value.Rotator p y r) = false
is_vector_value (Value.Quat x y z w) = false
is_vector_value (Value.Color r g b a) = false
is_vector_value (Value.Text low high) = false

abbrev pub is_vector : Option Value → Bool
is_vector None = false
is_vector (Some v) = is_vector_value v

abbrev pub spread_value : Value → Option Vector
spread_value (Value.Int n) = spread_scalar (scalar_of (Some (Value.Int n)))
spread_value (Value.Float x) = spread_scalar (scalar_of (Some (Value.Float x)))
spread_value (Value.Bool b) = spread_scalar (scalar_of (Some (Value.Bool b)))
spread_value (Value.Vector x y z) = Some (record { x = sanitize_of x; y = sanitize_of y; z = sanitize_of z })
spread_value (Value.Rotator p y r) = None
spread_value (Value.Quat x y z w) = None
spread_value (Value.Color r g b a) = None
spread_value (Value.Text low high) = None

abbrev pub spread : Option Value → Option Vector
spread None = spread_scalar (scalar_of None)
spread (Some v) = spread_value v

unfoldable pub finite_vector : Float → Float → Float → Option Value
finite_vector x y z = cond (finite_of x && finite_of y && finite_of z) (Some (Value.Vector x y z)) None

abbrev pub vector_math : MathOp → Option Vector → Option Vector → Option Value
vector_math op (Some v) (Some w) = finite_vector (float_op op v.x w.x) (float_op op v.y w.y) (float_op op v.z w.z)
vector_math op (Some v) None = None
vector_math op None b = None

unfoldable pub math_of : MathOp → Option Value → Option Value → Option Value
math_of op a b = cond (is_vector a || is_vector b) (vector_math op (spread a) (spread b)) (numbers_math op (math_in_of a) (math_in_of b))
