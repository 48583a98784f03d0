-- Add to Modulo of operands that are read as whole numbers.
use Rattle.std.specs.Prelude.{Option, None, Some}
use Prim.Native.Nat.{ℕ}
use mathlib.Core.Path.{◌≡◌, sym, ap, ◌∙◌}
use mathlib.Core.Bool.{false}
use lib.IntN.{ℤ}
use Rattle.value.specs.declared.Value.{Value}
use Rattle.conversions.specs.Conversions.{given_int}
use Rattle.conversions.specs.declared.MathIn.{MathIn}
use Rattle.arithmetic.specs.Arithmetic.{whole_op, numbers_math, math_of}
use Rattle.arithmetic.specs.declared.MathOp.{MathOp}
use Rattle.arithmetic.proofs.Whole.{whole_operands}
use Rattle.semantics.specs.Eval.{eval_of}
use Rattle.semantics.specs.Finite.{non_finite_float}
use Rattle.semantics.specs.Whole.{WholeMath}

int_finite : (o : Option ℤ) (v : Value) → given_int o ≡ Some v → non_finite_float v ≡ false
int_finite None v e = cc
int_finite (Some n) v e =
    let h : v ≡ Value.Int n = cc in
    ap non_finite_float h

-- class n is the operation's
pub whole_rule : (op : MathOp) (n : ℕ) → ((x y z : Option Value) → math_of op x y ≡ eval_of n x y z) → {class : ℕ} → class ≡ n
    → {a b : ℤ} {r : Option Value} → r ≡ numbers_math op (Some (MathIn.I a)) (Some (MathIn.I b)) → WholeMath class a b r
whole_rule op n rule {class} k {a} {b} e =
    record {
      value = λ x y z p q. e ∙ whole_operands op x y p q ∙ rule x y z ∙ ap (λ (m : ℕ). eval_of m x y z) (sym k);
      finite = λ v h. int_finite (whole_op op a b) v (sym e ∙ h);
    }
