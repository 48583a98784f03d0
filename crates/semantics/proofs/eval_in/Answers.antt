-- `semantics::eval_in` meets its contract.
use Rattle.std.specs.Prelude.{Option, None}
use Prim.Native.Nat.{ℕ, zero, suc, ◌≤◌, ◌<◌}
use mathlib.Core.Path.{◌≡◌, refl, sym, ap, ◌∙◌}
use native.Mathlib.Omega.{arith}
use lib.ListN.{get_or-eq_default}
use Rattle.ir.specs.Classes.{class_count}
use Rattle.semantics.specs.Eval.{Rule, rules, no_gate, eval_of}
use Rattle.semantics.proofs.eval_in.Goals as goal
use Rattle.value.specs.declared.Value.{Value}

-- the classes before the gates, and those past the last
before : (n : ℕ) → n < 6 → (x y z : Option Value) → None ≡ eval_of n x y z
before zero h x y z = refl
before (suc zero) h x y z = refl
before (suc (suc zero)) h x y z = refl
before (suc (suc (suc zero))) h x y z = refl
before (suc (suc (suc (suc zero)))) h x y z = refl
before (suc (suc (suc (suc (suc zero))))) h x y z = refl
before (suc (suc (suc (suc (suc (suc n)))))) h x y z = let f : ⊥ = omega arith in absurd f

past : (n : ℕ) → class_count ≤ n → (x y z : Option Value) → None ≡ eval_of n x y z
past n h x y z = sym (ap (λ (r : Rule). r x y z) (get_or-eq_default rules no_gate {n = n} h))

pub returns-then-class-lt-COMPARE_EQUAL-clause-rule : goal.returns-then-class-lt-COMPARE_EQUAL-clause-rule
returns-then-class-lt-COMPARE_EQUAL-clause-rule c = before c.args.class (omega arith) c.args.a c.args.b c.args.c

pub returns-clause-rule : goal.returns-clause-rule
returns-clause-rule c = past c.args.class (omega arith) c.args.a c.args.b c.args.c
