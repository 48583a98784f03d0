-- Ints read back from their bits, and equality. Assumes nothing.
use mathlib.Core.Path.{◌≡◌, refl, sym, ap, ap₂, ◌∙◌, subst}
use mathlib.Core.Bool.{Bool, true, false}
use lib.Dec.{T, eqb, eqb→eq, eqb_refl}
use lib.IntN.{ℤ, pos, negsuc}
use mir.Syntax.{w64}
use mir.Val.{SFits, to_z, of_z}
use mir.Facts.{to_z-of_z}
use Rattle.whole.specs.Compare.{eq_z}

-- ---- Two tests that pass together are the same

same_test : (p q : Bool) → (T p → T q) → (T q → T p) → p ≡ q
same_test true true f g = refl
same_test true false f g = absurd (f tt)
same_test false true f g = absurd (g tt)
same_test false false f g = refl

-- ---- An Int that a function passes on or returns is read back from its bits

abbrev pub read_back : ℤ → ℤ
read_back z = to_z w64 (of_z w64 z)

pub read₂ : {X : Type 0} (f : ℤ → ℤ → X) {a b : ℤ} → SFits w64 a → SFits w64 b → f (read_back a) (read_back b) ≡ f a b
read₂ f p q = ap₂ f (to_z-of_z p) (to_z-of_z q)

-- ---- Equal Ints have equal bits

eq_z_refl : (a : ℤ) → T (eq_z a a)
unfolding eq_z
eq_z_refl (pos n) = eqb_refl n
eq_z_refl (negsuc n) = eqb_refl n

pub eqZ→≡ : (a b : ℤ) → T (eq_z a b) → a ≡ b
unfolding eq_z
eqZ→≡ (pos a) (pos b) t = ap pos (eqb→eq a b t)
eqZ→≡ (pos a) (negsuc b) t = absurd t
eqZ→≡ (negsuc a) (pos b) t = absurd t
eqZ→≡ (negsuc a) (negsuc b) t = ap negsuc (eqb→eq a b t)

pub ≡→eqZ : {a b : ℤ} → a ≡ b → T (eq_z a b)
≡→eqZ {a} e = subst (λ (z : ℤ). T (eq_z a z)) e (eq_z_refl a)

pub eq_bits : (a b : ℤ) → SFits w64 a → SFits w64 b → eqb (of_z w64 a) (of_z w64 b) ≡ eq_z a b
eq_bits a b p q =
    same_test _ _
    (λ t. ≡→eqZ (sym (to_z-of_z p) ∙ ap (to_z w64) (eqb→eq (of_z w64 a) (of_z w64 b) t) ∙ to_z-of_z q))
    (λ t. subst (λ (z : ℤ). T (eqb (of_z w64 a) (of_z w64 z))) (eqZ→≡ a b t) (eqb_refl (of_z w64 a)))
