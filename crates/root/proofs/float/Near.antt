-- The root is nearest: no other f64 is as near to the square root.
use mathlib.Core.Path.{◌≡◌, refl, sym, ap, ◌∙◌, subst}
use mathlib.Core.Logic.{◌⊎◌, inl, inr, ⊎_elim}
use mathlib.Core.Bool.{Bool, false, true≢false}
use Prim.Native.Nat.{ℕ, zero, suc, ◌+◌, ◌-◌, ◌*◌, ◌/◌, ◌%◌, ◌^◌, ◌≤◌, ◌<◌}
use native.Mathlib.Nat.{le_of_suc-le-suc, le_trans, le_of_eq, le_of_lt, le_antisymm, lt_of_lt_of_le, lt_of_le_of_lt, lt_of_not-le, eq-or-lt_of_le, mul-pos, mul-le-mul, mul-le-mul_right, mul-lt-mul_of_pos_right, lt_of_mul-lt-mul_right, pow-suc, mul-mul-mul_comm}
use native.Mathlib.Decide.{dec_le}
use native.Mathlib.Omega.{arith}
use lib.Pow.{pow-add, pow_pos}
use lib.Count.{count_leading_zeros}
use lib.Ieee.{Float, binary64}
use lib.Ieee.Fits.{round-fits}
use Rattle.ieee.specs.Parts.{PartsOf}
use Rattle.ieee.specs.Signs.{is_sign_minus}
use Rattle.ieee.proofs.Bits.{same_value}
use Rattle.ieee.proofs.Units.{has_parts}
use Rattle.root.specs.Sqrt.{units_of, radicand, rounded_root, FiniteF64, NearestRoot}
use Rattle.root.specs.WholeRoot.{whole_root_of}
use Rattle.root.proofs.Floors.{floor_root, four_pow}
use Rattle.root.proofs.float.Units.{Units, units_of_lem, is_finite, sign_of, grid}
use Rattle.root.proofs.float.Scaled.{Scaled, scaled, root_units}
use Rattle.root.proofs.Shifts.{even_shift}

-- X at most A times W, and A squared below N
square_under : (A N W X : ℕ) → A * A < N → 0 < W → X ≤ A * W → X * X < N * (W * W)
square_under A N W X h w l =
    lt_of_le_of_lt (le_trans (mul-le-mul l l) (le_of_eq (mul-mul-mul_comm A W A W))) (mul-lt-mul_of_pos_right h (mul-pos w w))

square_over : (A N W X : ℕ) → N < A * A → 0 < W → A * W ≤ X → N * (W * W) < X * X
square_over A N W X h w l =
    lt_of_lt_of_le (mul-lt-mul_of_pos_right h (mul-pos w w)) (le_trans (le_of_eq (sym (mul-mul-mul_comm A W A W))) (mul-le-mul l l))

-- X below A times W, and A squared at most N
square_short : (A N W X : ℕ) → A * A ≤ N → X < A * W → X * X < N * (W * W)
square_short A N W X h l =
    lt_of_lt_of_le (squares X (A * W) l) (le_trans (le_of_eq (mul-mul-mul_comm A W A W)) (mul-le-mul_right (W * W) h))
  where
    squares : (a b : ℕ) → a < b → a * a < b * b
    squares a b g = omega (arith, mul-le-mul g g)

-- ---- Q is (R + 1) / 2 for the floor R of the root of N

module _ (n N R i : ℕ) (C : Scaled n N R i) where
  abbrev Q : ℕ
  Q = (R + 1) / 2

  abbrev W : ℕ
  W = 2 ^ suc i

  radicand_is : 4 * n ≡ N * (W * W)
  radicand_is = ap (λ (x : ℕ). 4 * x) C.whole ∙ quadruple N (4 ^ i) (4 ^ suc i) (pow-suc 4 i) ∙ ap (λ (x : ℕ). N * x) (four_pow (suc i))
    where
      quadruple : (a b c : ℕ) → c ≡ b * 4 → 4 * (a * b) ≡ a * c
      quadruple a b c e = ap (λ (x : ℕ). 4 * (a * b)) e ∙ omega (arith, ap (λ (x : ℕ). a * x) e)

  -- 2 * Q is R or R + 1
  halves : (Q + Q ≡ R) ⊎ ((Q + Q ≡ R + 1) × (R % 2 ≡ 1))
  halves = go (R % 2) refl
    where
      go : (p : ℕ) → R % 2 ≡ p → (Q + Q ≡ R) ⊎ ((Q + Q ≡ R + 1) × (R % 2 ≡ 1))
      go zero e = inl (omega arith)
      go (suc p) e = inr (omega arith, omega arith)

  -- the middles below and above Q, squared and doubled
  middle_below : (A : ℕ) → suc A ≡ Q + Q → A * A < N
  middle_below A e = ⊎_elim
      (λ (h : Q + Q ≡ R). lt_of_lt_of_le (omega (arith, mul-le-mul (still h) (still h))) C.floor.low)
      (λ (h : (Q + Q ≡ R + 1) × (R % 2 ≡ 1)). subst (λ (x : ℕ). x * x < N) (same h.0) (C.odd h.1))
      halves
    where
      still : Q + Q ≡ R → A + 1 ≤ R
      still h = omega arith

      same : Q + Q ≡ R + 1 → R ≡ A
      same h = omega arith

  middle_above : N < (Q + Q + 1) * (Q + Q + 1)
  middle_above = lt_of_lt_of_le C.floor.high (mul-le-mul within within)
    where
      within : R + 1 ≤ Q + Q + 1
      within = omega arith

  half_low : 2 ^ 52 ≤ Q
  half_low = omega (arith, C.low)

  -- the lowest Q comes from an even R
  lowest : Q ≡ 2 ^ 52 → (Q + Q) * (Q + Q) ≤ N
  lowest e = subst (λ (x : ℕ). x * x ≤ N) same C.floor.low
    where
      same : R ≡ Q + Q
      same = omega (arith, C.low)

  module _ (z : Float) (F : FiniteF64 z) where
    abbrev Z : ℕ
    Z = units_of z

    on_grid : 2 ^ 52 * W ≤ Z → (c : ℕ) × (Z ≡ c * W)
    on_grid h = grid z F (suc i) (le_trans (le_of_eq (pow-add 2 52 (suc i))) h)

    -- at most one step below
    step : Z ≤ (Q - 1) * W → (Q * W + Z) * (Q * W + Z) < N * (W * W)
    step h = square_under (Q + (Q - 1)) N W (Q * W + Z) (middle_below (Q + (Q - 1)) (omega (arith, half_low))) (pow_pos (suc i)) (omega arith)

    at_grid : (c : ℕ) → Z ≡ c * W → Z < Q * W → Z ≤ (Q - 1) * W
    at_grid c e h =
        let l : c < Q = lt_of_mul-lt-mul_right W (subst (λ (x : ℕ). x < Q * W) e h) in
        le_trans (le_of_eq e) (mul-le-mul_right W (omega arith))

    finer : Z < 2 ^ 52 * W → (2 ^ 52 ≡ Q) ⊎ (2 ^ 52 < Q) → (Q * W + Z) * (Q * W + Z) < N * (W * W)
    finer h (inl e) = square_short (Q + Q) N W (Q * W + Z) (lowest (sym e)) (omega (arith, ap (λ (x : ℕ). x * W) e))
    finer h (inr l) = step (le_trans (le_of_lt h) (mul-le-mul_right W (omega arith)))

    pub below_root : Z < Q * W → (Q * W + Z) * (Q * W + Z) < 4 * n
    below_root h = subst (λ (x : ℕ). (Q * W + Z) * (Q * W + Z) < x) (sym radicand_is) (elim (dec_le (2 ^ 52 * W) Z) [
      | yes g ↦ let c = on_grid g in step (at_grid c.0 c.1 h)
      | no g ↦ finer (lt_of_not-le g) (eq-or-lt_of_le half_low)
    ])

    pub above_root : Q * W < Z → 4 * n < (Q * W + Z) * (Q * W + Z)
    above_root h =
        let c = on_grid (le_trans (mul-le-mul_right W half_low) (le_of_lt h)) in
        let l : Q < c.0 = lt_of_mul-lt-mul_right W (subst (λ (x : ℕ). Q * W < x) c.1 h) in
        let g : (Q + 1) * W ≤ Z = le_trans (mul-le-mul_right W (omega arith)) (le_of_eq (sym c.1)) in
        subst (λ (x : ℕ). x < (Q * W + Z) * (Q * W + Z)) (sym radicand_is) (square_over (Q + Q + 1) N W (Q * W + Z) middle_above (pow_pos (suc i)) (omega arith))

-- ---- the theorem

at_scaled : (x : Float) (u N R i : ℕ) → FiniteF64 x → is_sign_minus x ≡ false → units_of x ≡ u → Scaled (u * 2 ^ 1074) N R i → NearestRoot x (rounded_root u)
at_scaled x u N R i F s e C =
    let y = rounded_root u in
    let Y = (R + 1) / 2 * 2 ^ suc i in
    let v : units_of y ≡ Y = units_of_lem y false Y (root_units u C) in
    let n = u * 2 ^ 1074 in
    record {
      operand = F;
      not_negative = λ t. absurd (true≢false (sym t ∙ s));
      result = record { f64 = unfold rounded_root in round-fits binary64 false (whole_root_of n) (2 ^ 1074); finite = is_finite y false Y (root_units u C) };
      same_sign = sign_of y false Y (root_units u C) ∙ sym s;
      smaller = λ z G h.
          subst (λ (k : ℕ). (units_of y + units_of z) * (units_of y + units_of z) < 4 * radicand k) (sym e)
          (subst (λ (k : ℕ). (k + units_of z) * (k + units_of z) < 4 * n) (sym v) (below_root n N R i C z G (subst (λ (k : ℕ). units_of z < k) v h)));
      larger = λ z G h.
          subst (λ (k : ℕ). 4 * radicand k < (units_of y + units_of z) * (units_of y + units_of z)) (sym e)
          (subst (λ (k : ℕ). 4 * n < (k + units_of z) * (k + units_of z)) (sym v) (above_root n N R i C z G (subst (λ (k : ℕ). k < units_of z) v h)));
    }

pub positive_nearest : (x : Float) (m e : ℕ) → FiniteF64 x → PartsOf x false m e → 0 < m → NearestRoot x (rounded_root (m * 2 ^ e))
positive_nearest x m e F p h =
    let s = count_leading_zeros 64 m - (e % 2 + count_leading_zeros 64 m) % 2 in
    let N = m * 2 ^ s * 4 ^ 22 in
    at_scaled x (m * 2 ^ e) N (whole_root_of N) ((e + 1030 - s) / 2) F (sign_of x false (m * 2 ^ e) p.value) (units_of_lem x false (m * 2 ^ e) p.value)
    (scaled m e s (whole_root_of N) (even_shift m e h p.digits) (omega (arith, p.exponent)) (floor_root N))

pub zero_nearest : (x : Float) → FiniteF64 x → units_of x ≡ 0 → NearestRoot x x
zero_nearest x F u = record {
  operand = F;
  not_negative = λ t. u;
  result = F;
  same_sign = refl;
  smaller = λ z G h. absurd (nothing_below (units_of z) (subst (λ (y : ℕ). units_of z < y) u h));
  larger = λ z G h. subst (λ (y : ℕ). 4 * radicand y < (y + units_of z) * (y + units_of z)) (sym u) (square_pos (units_of z) (subst (λ (y : ℕ). y < units_of z) u h));
}
  where
    nothing_below : (Z : ℕ) → Z < 0 → ⊥
    nothing_below Z h = omega arith

    square_pos : (Z : ℕ) → 0 < Z → 4 * (0 * 2 ^ 1074) < (0 + Z) * (0 + Z)
    square_pos Z h = omega (arith, mul-pos h h)

-- ---- no other float is nearest

not_above : (x y z : Float) → NearestRoot x y → NearestRoot x z → units_of y < units_of z → ⊥
not_above x y z p q h = clash (units_of y) (units_of z) (4 * radicand (units_of x)) (p.larger z q.result h) (q.smaller y p.result h)
  where
    clash : (a b c : ℕ) → c < (a + b) * (a + b) → (b + a) * (b + a) < c → ⊥
    clash a b c k l = omega arith

same_units : (x y z : Float) → NearestRoot x y → NearestRoot x z → units_of y ≡ units_of z
same_units x y z p q =
    le_antisymm
    (le_of_suc-le-suc (lt_of_not-le (λ (h : units_of z < units_of y). not_above x z y q p h)))
    (le_of_suc-le-suc (lt_of_not-le (λ (h : units_of y < units_of z). not_above x y z p q h)))

-- a finite float is its sign and its units
own_units : (x : Float) → FiniteF64 x → Units x (is_sign_minus x) (units_of x)
own_units x F =
    let p = has_parts x F.f64 F.finite in
    let a = p.significand * 2 ^ p.exponent in
    subst (λ (s : Bool). Units x s (units_of x)) (sym (sign_of x p.negative a p.parts.value))
    (subst (λ (u : ℕ). Units x p.negative u) (sym (units_of_lem x p.negative a p.parts.value)) p.parts.value)

pub only_nearest : (x y z : Float) → NearestRoot x y → NearestRoot x z → z ≡ y
only_nearest x y z p q =
    same_value z y (is_sign_minus y) (units_of y) (2 ^ 1074) (pow_pos 1074) q.result.f64 p.result.f64
    (subst (λ (s : Bool). Units z s (units_of y)) (q.same_sign ∙ sym p.same_sign) (subst (λ (u : ℕ). Units z (is_sign_minus z) u) (same_units x z y q p) (own_units z q.result)))
    (own_units y p.result)
