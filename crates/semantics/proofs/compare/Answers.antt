-- `semantics::compare` meets its contract.
use Rattle.std.specs.Prelude.{Option}
use Prim.Native.Nat.{ℕ}
use mathlib.Core.Path.{◌≡◌, ◌∙◌, refl}
use mathlib.Core.Bool.{Bool, cond}
use mathlib.Core.Logic.{inl, inr}
use native.Mathlib.Omega.{arith}
use lib.Dec.{leb}
use Rattle.std.proofs.lemmas.Bool.{cases_lt}
use Rattle.comparison.specs.Comparison.{less_of, less_or_equal_of, greater_of, greater_or_equal_of}
use Rattle.semantics.specs.Eval.{eval_of}
use Rattle.semantics.proofs.compare.Goals.{in-9, in_default}
use Rattle.semantics.proofs.compare.Goals as goal
use Rattle.value.specs.declared.Value.{Value}

-- what `order` gives for the class and a Bool that the code makes of it
abbrev by_order : Option Value → Option Value → ℕ → Bool → Option Value
by_order x y n or_equal =
    cond (leb 10 n) (cond or_equal (greater_or_equal_of x y) (greater_of x y)) (cond or_equal (less_or_equal_of x y) (less_of x y))

at : (x y z : Option Value) {r : Option Value} {n m : ℕ} {e d : Bool} → r ≡ by_order x y n e → n ≡ m → e ≡ d → by_order x y m d ≡ eval_of m x y z → r ≡ eval_of n x y z
at x y z h k p q = rw k (rw (k, p) at h ∙ q)

pub returns : goal.returns
returns c =
    let n = c.args.class in
    elim c.match-matches.branch [
      | in-9 w ↦ elim w.in-9.is [ inl k ↦ at _ _ _ c.order.ensures k w.matches-is refl | inr k ↦ at _ _ _ c.order.ensures k w.matches-is refl ]
      | in_default w ↦
          elim (cases_lt n 9) [
            | inl l ↦ let k : n ≡ 8 = grind arith in at _ _ _ c.order.ensures k w.matches-is refl
            | inr l ↦ let k : n ≡ 10 = grind arith in at _ _ _ c.order.ensures k w.matches-is refl
          ]
    ]
