-- Floats in units of the smallest one: every finite f64 of 2 ^ (52 + k) units or more is a multiple of 2 ^ k units; the root by its value.
use Rattle.std.specs.Prelude.{None, Some}
use mathlib.Core.Path.{◌≡◌, refl, sym, ap, ◌∙◌, subst}
use mathlib.Core.Bool.{Bool, true, false, not, true≢false, false≢true}
use Prim.Native.Nat.{ℕ, zero, suc, ◌+◌, ◌-◌, ◌*◌, ◌/◌, ◌^◌, ◌≤◌, ◌<◌}
use native.Mathlib.Nat.{le_trans, le_of_suc-le-suc, lt_irrefl, lt_of_not-le, not-le_of_lt, zero-lt-suc, mul_assoc, mul-pos, mul-div_cancel, zero-mul, sub-add_cancel}
use native.Mathlib.Omega.{arith}
use lib.IntN.{ℤ}
use lib.Pow.{pow-add, pow_pos, pow_mono, shl_lt}
use lib.Ieee.{Float, nan, inf, fin, up, down}
use lib.Ieee.Exact.{HasValue}
use lib.Ieee.Fits.{up_pos, down_pos}
use Rattle.ieee.specs.Finite.{finite_of}
use Rattle.ieee.specs.Signs.{is_sign_minus}
use Rattle.ieee.proofs.Units.{has_parts}
use Rattle.root.specs.Sqrt.{units_of, rounded_root, sqrt_of, FiniteF64}

-- x has the sign s and is a units in size
abbrev pub Units : Float → Bool → ℕ → Type 0
Units x s a = HasValue x s a (2 ^ 1074)

pub units_of_lem : (x : Float) (s : Bool) (a : ℕ) → Units x s a → units_of x ≡ a
unfolding units_of
units_of_lem nan s a h = absurd h
units_of_lem (inf t) s a h = absurd h
units_of_lem (fin t m e) s a h = ap (λ (n : ℕ). n / down e) h.1 ∙ mul-div_cancel a (down_pos e)

pub is_finite : (x : Float) (s : Bool) (a : ℕ) → Units x s a → finite_of x ≡ true
unfolding finite_of
is_finite nan s a h = absurd h
is_finite (inf t) s a h = absurd h
is_finite (fin t m e) s a h = refl

pub sign_of : (x : Float) (s : Bool) (a : ℕ) → Units x s a → is_sign_minus x ≡ s
sign_of nan s a h = absurd h
sign_of (inf t) s a h = absurd h
sign_of (fin t m e) s a h = h.0

-- ---- multiples

multiple : (m j k : ℕ) → m < 2 ^ 53 → 2 ^ (52 + k) ≤ m * 2 ^ j → (c : ℕ) × (m * 2 ^ j ≡ c * 2 ^ k)
multiple m j k h l =
    let g : k ≤ j = le_of_suc-le-suc (lt_of_not-le (λ (q : suc j ≤ k). not-le_of_lt (shl_lt 53 j h) (reach q))) in
    (m * 2 ^ (j - k), ap (λ (x : ℕ). m * x) (ap (λ (x : ℕ). 2 ^ x) (sym (sub-add_cancel g)) ∙ pow-add 2 (j - k) k) ∙ sym (mul_assoc m (2 ^ (j - k)) (2 ^ k)))
  where
    reach : suc j ≤ k → 2 ^ (53 + j) ≤ m * 2 ^ j
    reach q = le_trans (pow_mono {i = 53 + j} {j = 52 + k} (omega arith)) l

pub grid : (z : Float) → FiniteF64 z → (k : ℕ) → 2 ^ (52 + k) ≤ units_of z → (c : ℕ) × (units_of z ≡ c * 2 ^ k)
grid z h k l =
    let p = has_parts z h.f64 h.finite in
    let u : units_of z ≡ p.significand * 2 ^ p.exponent = units_of_lem z p.negative (p.significand * 2 ^ p.exponent) p.parts.value in
    let q = multiple p.significand p.exponent k p.parts.digits (subst (λ (y : ℕ). 2 ^ (52 + k) ≤ y) u l) in
    (q.0, u ∙ q.1)

-- ---- the root by the value

not_zero : (m a : ℕ) (e : ℤ) → a ≡ 0 → suc m * up e * 2 ^ 1074 ≡ a * down e → ⊥
not_zero m a e z h = lt_irrefl 0 (subst (λ (x : ℕ). 0 < x) (h ∙ ap (λ (x : ℕ). x * down e) z ∙ zero-mul (down e)) (mul-pos (mul-pos (zero-lt-suc m) (up_pos e)) (pow_pos 1074)))

not_positive : (a : ℕ) (e : ℤ) → 0 < a → zero * up e * 2 ^ 1074 ≡ a * down e → ⊥
not_positive a e p h = lt_irrefl 0 (subst (λ (x : ℕ). 0 < x) (sym h ∙ ap (λ (x : ℕ). x * 2 ^ 1074) (zero-mul (up e)) ∙ zero-mul (2 ^ 1074)) (mul-pos p (down_pos e)))

pub no_root : (x : Float) → not (finite_of x) ≡ true → None ≡ sqrt_of x
unfolding finite_of sqrt_of
no_root nan h = refl
no_root (inf s) h = refl
no_root (fin s m e) h = absurd (false≢true h)

pub zero_root : (x : Float) (s : Bool) (a : ℕ) → Units x s a → a ≡ 0 → Some x ≡ sqrt_of x
unfolding sqrt_of
zero_root nan s a h z = absurd h
zero_root (inf t) s a h z = absurd h
zero_root (fin t zero e) s a h z = refl
zero_root (fin t (suc m) e) s a h z = absurd (not_zero m a e z h.1)

pub negative_root : (x : Float) (a : ℕ) → Units x true a → 0 < a → None ≡ sqrt_of x
unfolding sqrt_of
negative_root nan a h p = absurd h
negative_root (inf t) a h p = absurd h
negative_root (fin t zero e) a h p = absurd (not_positive a e p h.1)
negative_root (fin true (suc m) e) a h p = refl
negative_root (fin false (suc m) e) a h p = absurd (false≢true h.0)

pub positive_root : (x : Float) (a : ℕ) → Units x false a → 0 < a → Some (rounded_root a) ≡ sqrt_of x
unfolding sqrt_of
positive_root nan a h p = absurd h
positive_root (inf t) a h p = absurd h
positive_root (fin t zero e) a h p = absurd (not_positive a e p h.1)
positive_root (fin true (suc m) e) a h p = absurd (true≢false h.0)
positive_root (fin false (suc m) e) a h p = ap (λ (u : ℕ). Some (rounded_root u)) (sym (units_of_lem (fin false (suc m) e) false a h))
