-- What a gate gives of whole numbers.
use Rattle.std.specs.Prelude.{ℕ, ◌≡◌, false, ℤ, Option, Some}
use Rattle.value.specs.declared.Value.{Value}
use Rattle.conversions.specs.Conversions.{math_in_of}
use Rattle.conversions.specs.declared.MathIn.{MathIn}
use Rattle.semantics.specs.Eval.{eval_of}
use Rattle.semantics.specs.Finite.{non_finite_float}

-- r is what a gate of the class gives of all operands that are read as the whole numbers a and b, and no non-finite Float
pub record WholeMath (class : ℕ) (a b : ℤ) (r : Option Value) : Type 0 where
  pub value : (x y z : Option Value) → math_in_of x ≡ Some (MathIn.I a) → math_in_of y ≡ Some (MathIn.I b) → r ≡ eval_of class x y z
  pub finite : (v : Value) → r ≡ Some v → non_finite_float v ≡ false
