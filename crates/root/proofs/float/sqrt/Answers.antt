-- `root::float::sqrt` meets its contract.
use Rattle.std.specs.Prelude.{Option, None, Some}
use mathlib.Core.Path.{◌≡◌, sym, ap, ◌∙◌, subst}
use mathlib.Core.Bool.{Bool, true, false, not, true≢false}
use Prim.Native.Nat.{ℕ, ◌*◌, ◌^◌, ◌<◌}
use native.Mathlib.Nat.{lt_irrefl, zero-mul, mul-pos}
use native.Mathlib.Omega.{arith}
use lib.Pow.{pow_pos}
use lib.Ieee.{Float}
use denote.Floats.{passes}
use Rattle.ieee.specs.Finite.{finite_of}
use Rattle.ieee.specs.Parts.{PartsOf}
use Rattle.root.specs.Sqrt.{rounded_root, sqrt_of, FiniteF64, NearestRoot}
use Rattle.root.proofs.float.Units.{units_of_lem, sign_of, no_root, zero_root, negative_root, positive_root}
use Rattle.root.proofs.float.Near.{zero_nearest, positive_nearest, only_nearest}
use Rattle.root.proofs.float.sqrt.Goals as goal

-- what is ensured: of None, where no float is nearest, and of a root that is
abbrev Ensured : Float → Option Float → Type 0
Ensured x r = (r ≡ sqrt_of x) × (((y : Float) → r ≡ Some y → NearestRoot x y) × ((y : Float) → NearestRoot x y → r ≡ Some y))

without : (x : Float) → None ≡ sqrt_of x → ((y : Float) → NearestRoot x y → ⊥) → Ensured x None
without x e f = (e, ((λ y h. absurd (nothing h)), λ y n. absurd (f y n)))
  where
    nothing : {y : Float} → None ≡ Some y → ⊥
    nothing {y} e = let z : ◌≡◌ {A = ℕ} 0 1 = cc in omega arith

with_root : (x v : Float) → Some v ≡ sqrt_of x → NearestRoot x v → Ensured x (Some v)
with_root x v e n = (e, ((λ y h. given h), λ y q. ap Some (only_nearest x y v q n)))
  where
    given : {y : Float} → Some v ≡ Some y → NearestRoot x y
    given {y} h = let f : v ≡ y = cc in subst (λ (w : Float). NearestRoot x w) f n

above_zero : (n : ℕ) → (n ≡ 0 → ⊥) → 0 < n
above_zero n h = omega arith

pub returns-then-not-is_finite : goal.returns-then-not-is_finite
returns-then-not-is_finite c =
    let x = c.args.x in
    let h : finite_of x ≡ false = sym c.is_finite.ensures ∙ c.if-not-is_finite.true in
    let r = without x (no_root x (ap not h)) (λ y n. true≢false (sym n.operand.finite ∙ h)) in
    record { root = r.0; nearest = r.1.0; whenever = r.1.1 }

pub returns-then-parts-eq0 : goal.returns-then-parts-eq0
returns-then-parts-eq0 c =
    let x = c.args.x in
    let p = c.decompose-parts.result in
    let a = p.significand * 2 ^ p.exponent in
    let z : a ≡ 0 = ap (λ (m : ℕ). m * 2 ^ p.exponent) c.if-parts-eq0.true ∙ zero-mul (2 ^ p.exponent) in
    let v = c.decompose-parts.ensures.value in
    let f : FiniteF64 x = record { f64 = passes _ c.well_formed.0.1; finite = sym c.is_finite.ensures ∙ c.if-not-is_finite.false } in
    let r = with_root x x (zero_root x p.negative a v z) (zero_nearest x f (units_of_lem x p.negative a v ∙ z)) in
    record { root = r.0; nearest = r.1.0; whenever = r.1.1 }

pub returns-then-parts : goal.returns-then-parts
returns-then-parts c =
    let x = c.args.x in
    let p = c.decompose-parts.result in
    let a = p.significand * 2 ^ p.exponent in
    let v = (subst (λ (s : Bool). PartsOf x s p.significand p.exponent) c.if-parts.true c.decompose-parts.ensures).value in
    let h : 0 < a = mul-pos (above_zero _ c.if-parts-eq0.false) (pow_pos p.exponent) in
    let r = without x (negative_root x a v h) (λ y n. lt_irrefl 0 (subst (λ (u : ℕ). 0 < u) (sym (units_of_lem x true a v) ∙ n.not_negative (sign_of x true a v)) h)) in
    record { root = r.0; nearest = r.1.0; whenever = r.1.1 }

pub returns : goal.returns
returns c =
    let x = c.args.x in
    let p = c.decompose-parts.result in
    let parts = subst (λ (s : Bool). PartsOf x s p.significand p.exponent) c.if-parts.false c.decompose-parts.ensures in
    let m = above_zero p.significand c.if-parts-eq0.false in
    let f : FiniteF64 x = record { f64 = passes _ c.well_formed.0.1; finite = sym c.is_finite.ensures ∙ c.if-not-is_finite.false } in
    let r = subst (λ (v : Float). Ensured x (Some v)) (sym (c.from_bits.ensures.value ∙ c.root_bits.ensures))
    (with_root x (rounded_root (p.significand * 2 ^ p.exponent)) (positive_root x (p.significand * 2 ^ p.exponent) parts.value (mul-pos m (pow_pos p.exponent))) (positive_nearest x p.significand p.exponent f parts m)) in
    record { root = r.0; nearest = r.1.0; whenever = r.1.1 }
