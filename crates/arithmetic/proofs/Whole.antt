-- Operands that are read as whole numbers: no Vector is one.
use Rattle.std.specs.Prelude.{Option, None, Some}
use mathlib.Core.Path.{◌≡◌, refl}
use mathlib.Core.Bool.{false}
use lib.IntN.{ℤ}
use Rattle.value.specs.declared.Value.{Value}
use Rattle.conversions.specs.Conversions.{math_in_of}
use Rattle.conversions.specs.declared.MathIn.{MathIn}
use Rattle.arithmetic.specs.declared.MathOp.{MathOp}
use Rattle.arithmetic.specs.Arithmetic.{numbers_math, is_vector, math_of}

no_vector : (x : Option Value) {a : ℤ} → math_in_of x ≡ Some (MathIn.I a) → is_vector x ≡ false
no_vector None e = refl
no_vector (Some (Value.Int n)) e = refl
no_vector (Some (Value.Float f)) e = refl
no_vector (Some (Value.Bool b)) e = refl
no_vector (Some (Value.Vector x y z)) e = cc
no_vector (Some (Value.Rotator p y r)) e = refl
no_vector (Some (Value.Quat x y z w)) e = refl
no_vector (Some (Value.Color r g b a)) e = refl
no_vector (Some (Value.Text low high)) e = refl

pub whole_operands : (op : MathOp) (x y : Option Value) {a b : ℤ} → math_in_of x ≡ Some (MathIn.I a) → math_in_of y ≡ Some (MathIn.I b) → numbers_math op (Some (MathIn.I a)) (Some (MathIn.I b)) ≡ math_of op x y
unfolding math_of
whole_operands op x y e f = rw (no_vector x e, no_vector y f, e, f)
