-- Rounding of the floor of a root. With R the floor of the root of N, of 54 binary digits, and r that of n = N * 4 ^ i, the float nearest to
-- r units is (R + 1) / 2 * 2 ^ (i + 1) units. N is even, so no odd R has R * R for N and there is no tie.
use mathlib.Core.Path.{◌≡◌, refl, sym, ap, ◌∙◌, subst}
use mathlib.Core.Logic.{◌⊎◌, inl, inr}
use mathlib.Core.Bool.{false}
use Prim.Native.Nat.{ℕ, zero, suc, ◌+◌, ◌-◌, ◌*◌, ◌/◌, ◌%◌, ◌^◌, ◌≤◌, ◌<◌, compare, Ordering}
use native.Mathlib.Nat.{le_antisymm, le_of_lt, lt_of_lt_of_le, lt_irrefl, not-le_of_lt, lt_of_not-le, mul_assoc, mul-pos, mul-le-mul_right, mul-div_cancel, pow-suc}
use native.Mathlib.Omega.{arith}
use lib.Dec.{T, is_le, compare_is_eq, leb→le, eqb→eq, le→leb}
use lib.Pow.{pow-add, pow_pos, pow_mono, shl_lt}
use lib.Arith.{digits_div, digits_mod}
use lib.Ieee.{Float, binary64, size, nearest, units, round, of_bits}
use lib.Ieee.Bits.{of_bits-fits}
use lib.Ieee.Digits.{size-lt, size-le}
use lib.Ieee.Exact.{units_val}
use lib.Ieee.Fits.{core, round_is, round-fits}
use lib.Ieee.Nearest.{closest, closest_same}
use Rattle.ieee.proofs.Bits.{same_value}
use Rattle.ieee.proofs.Units.{read_normal}
use Rattle.root.proofs.float.Units.{Units}

-- ---- what `compare` says

compare_lt : {a b : ℕ} → a < b → compare a b ≡ Ordering.lt
compare_lt {a} {b} h = go (compare a b) (le→leb a b (le_of_lt h)) (λ (t : T (compare_is_eq (compare a b))). lt_irrefl b (subst (λ (x : ℕ). x < b) (eqb→eq a b t) h))
  where
    go : (o : Ordering) → T (is_le o) → (T (compare_is_eq o) → ⊥) → o ≡ Ordering.lt
    go Ordering.lt t n = refl
    go Ordering.eq t n = absurd (n tt)
    go Ordering.gt t n = absurd t

compare_gt : {a b : ℕ} → b < a → compare a b ≡ Ordering.gt
compare_gt {a} {b} h = go (compare a b) (λ (t : T (is_le (compare a b))). not-le_of_lt h (leb→le a b t))
  where
    go : (o : Ordering) → (T (is_le o) → ⊥) → o ≡ Ordering.gt
    go Ordering.lt n = absurd (n tt)
    go Ordering.eq n = absurd (n tt)
    go Ordering.gt n = refl

-- ---- h and t / b, with t / b below a half or above it

nearest_down : (h t b : ℕ) → t * 2 < b → closest (h * b + t) b ≡ h
nearest_down h t b l =
    let s : t < b = omega arith in
    ap (λ (q : ℕ). nearest q (compare ((h * b + t) % b * 2) b)) (digits_div h s)
    ∙ ap (λ (r : ℕ). nearest h (compare (r * 2) b)) (digits_mod h s)
    ∙ ap (nearest h) (compare_lt l)

nearest_up : (h t b : ℕ) → t < b → b < t * 2 → closest (h * b + t) b ≡ suc h
nearest_up h t b s l =
    ap (λ (q : ℕ). nearest q (compare ((h * b + t) % b * 2) b)) (digits_div h s)
    ∙ ap (λ (r : ℕ). nearest h (compare (r * 2) b)) (digits_mod h s)
    ∙ ap (nearest h) (compare_gt l)

parity : (R : ℕ) → (R ≡ 2 * (R / 2)) ⊎ (R ≡ 2 * (R / 2) + 1)
parity R = go (R % 2) refl
  where
    go : (p : ℕ) → R % 2 ≡ p → (R ≡ 2 * (R / 2)) ⊎ (R ≡ 2 * (R / 2) + 1)
    go zero e = inl (omega arith)
    go (suc p) e = inr (omega arith)

-- R * 2 ^ i and less than 2 ^ i more, and more than nothing where R is odd: to the nearest multiple of 2 ^ (i + 1)
closest_half : (R i d : ℕ) → d < 2 ^ i → (R % 2 ≡ 1 → 0 < d) → closest (R * 2 ^ i + d) (2 ^ suc i) ≡ (R + 1) / 2
closest_half R i d l o = go (parity R)
  where
    go : (R ≡ 2 * (R / 2)) ⊎ (R ≡ 2 * (R / 2) + 1) → closest (R * 2 ^ i + d) (2 ^ suc i) ≡ (R + 1) / 2
    go (inl e) =
        let f : R * 2 ^ i + d ≡ R / 2 * 2 ^ suc i + d = subst (λ (x : ℕ). R * 2 ^ i + d ≡ R / 2 * x + d) (sym (pow-suc 2 i)) (omega (arith, ap (λ (x : ℕ). x * 2 ^ i) e)) in
        ap (λ (x : ℕ). closest x (2 ^ suc i)) f ∙ nearest_down (R / 2) d (2 ^ suc i) (omega (arith, pow-suc 2 i)) ∙ omega arith
    go (inr e) =
        let p : 0 < d = o (omega arith) in
        let f : R * 2 ^ i + d ≡ R / 2 * 2 ^ suc i + (2 ^ i + d) = subst (λ (x : ℕ). R * 2 ^ i + d ≡ R / 2 * x + (2 ^ i + d)) (sym (pow-suc 2 i)) (omega (arith, ap (λ (x : ℕ). x * 2 ^ i) e)) in
        ap (λ (x : ℕ). closest x (2 ^ suc i)) f ∙ nearest_up (R / 2) (2 ^ i + d) (2 ^ suc i) (omega (arith, pow-suc 2 i)) (omega (arith, pow-suc 2 i)) ∙ omega arith

-- ---- the number of digits

size_is : (n k j : ℕ) → j ≡ suc k → 2 ^ k ≤ n → n < 2 ^ j → size n ≡ j
size_is n k j e l h =
    le_antisymm (size-le n j h)
    (subst (λ (x : ℕ). x ≤ size n) (sym e) (lt_of_not-le (λ (g : size n ≤ k). not-le_of_lt (lt_of_lt_of_le (size-lt n) (pow_mono g)) l)))

more : (a i : ℕ) → suc a + i ≡ suc (a + i)
more a i = omega arith

-- ---- rounding r = R * 2 ^ i + d units

module _ (R i d : ℕ) (low : 2 ^ 53 ≤ R) (high : R + 1 < 2 ^ 54) (room : i ≤ 2000) (short : d < 2 ^ i) (rest_pos : R % 2 ≡ 1 → 0 < d) where
  abbrev r : ℕ
  r = R * 2 ^ i + d

  abbrev Q : ℕ
  Q = (R + 1) / 2

  digits : size r ≡ 54 + i
  digits =
      size_is r (53 + i) (54 + i) (more 53 i)
      (subst (λ (x : ℕ). x ≤ r) (sym (pow-add 2 53 i)) (omega (arith, mul-le-mul_right (2 ^ i) low)))
      (subst (λ (x : ℕ). r < x) (sym (pow-add 2 54 i)) (omega (arith, mul-le-mul_right (2 ^ i) (le_of_lt high))))

  dropped : size (r * 2 ^ 1074 / 2 ^ 1074) - 53 ≡ suc i
  dropped = ap (λ (x : ℕ). size x - 53) (mul-div_cancel r (pow_pos 1074)) ∙ ap (λ (x : ℕ). x - 53) digits ∙ after i
    where
      after : (i : ℕ) → 54 + i - 53 ≡ suc i
      after i = omega arith

  pub rounded : round binary64 false r (2 ^ 1074) ≡ units binary64 false Q (suc i)
  rounded =
      round_is binary64 false r (2 ^ 1074)
      ∙ ap (core binary64 false (r * 2 ^ 1074) (2 ^ 1074)) dropped
      ∙ ap (λ (q : ℕ). units binary64 false q (suc i))
      (closest_same (r * 2 ^ 1074) (2 ^ 1074 * 2 ^ suc i) r (2 ^ suc i) (mul-pos (pow_pos 1074) (pow_pos (suc i))) (pow_pos (suc i)) (mul_assoc r (2 ^ 1074) (2 ^ suc i))
      ∙ closest_half R i d short rest_pos)

  pub half_low : 2 ^ 52 ≤ Q
  half_low = omega arith

  pub half_high : Q < 2 ^ 53
  half_high = omega arith

  pub value : Units (round binary64 false r (2 ^ 1074)) false (Q * 2 ^ suc i)
  value =
      subst (λ (x : Float). Units x false (Q * 2 ^ suc i)) (sym rounded)
      (units_val binary64 false Q (suc i) (lt_of_lt_of_le (shl_lt 53 (suc i) half_high) (pow_mono (wide i room))))
    where
      wide : (i : ℕ) → i ≤ 2000 → 53 + suc i ≤ 2098
      wide i h = omega arith

  pub bits : of_bits binary64 (suc i * 2 ^ 52 + Q) ≡ round binary64 false r (2 ^ 1074)
  bits =
      let t = Q - 2 ^ 52 in
      let b : suc i * 2 ^ 52 + Q ≡ suc (suc i) * 2 ^ 52 + t = omega (arith, half_low) in
      let v : Units (of_bits binary64 (suc i * 2 ^ 52 + Q)) false (Q * 2 ^ suc i) =
      subst (λ (n : ℕ). Units (of_bits binary64 n) false (Q * 2 ^ suc i)) (sym b)
      (subst (λ (m : ℕ). Units (of_bits binary64 (suc (suc i) * 2 ^ 52 + t)) false (m * 2 ^ suc i)) (omega (arith, half_low))
      (read_normal (suc i) t (omega arith) (omega (arith, half_low, half_high)))) in
      same_value (of_bits binary64 (suc i * 2 ^ 52 + Q)) (round binary64 false r (2 ^ 1074)) false (Q * 2 ^ suc i) (2 ^ 1074) (pow_pos 1074)
      (of_bits-fits binary64 (suc i * 2 ^ 52 + Q)) (round-fits binary64 false r (2 ^ 1074)) v value
