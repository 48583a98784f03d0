-- The root of significand * 2 ^ exponent units, from the whole root of the shifted significand with 22 places more.
use mathlib.Core.Path.{◌≡◌, sym, ap, ◌∙◌, subst}
use mathlib.Core.Bool.{false}
use Prim.Native.Nat.{ℕ, suc, ◌+◌, ◌-◌, ◌*◌, ◌/◌, ◌%◌, ◌^◌, ◌≤◌, ◌<◌}
use native.Mathlib.Nat.{lt_of_lt_of_le, lt_of_not-le, mul_assoc}
use native.Mathlib.Omega.{arith}
use lib.Pow.{pow-add, pow_mono}
use lib.Ieee.{Float, binary64, round, of_bits}
use Rattle.root.specs.Sqrt.{rounded_root}
use Rattle.root.specs.WholeRoot.{whole_root_of}
use Rattle.root.specs.Steps.{EvenShift}
use Rattle.root.proofs.Squares.{Floor, square_lt}
use Rattle.root.proofs.Floors.{floor_root, four_pow, rest, rest_lt, whole_and_rest, rest_pos}
use Rattle.root.proofs.float.Units.{Units}
use Rattle.root.proofs.float.Rounding as rounding

-- n is N * 4 ^ i, and the floor R of the root of N has 54 binary digits
pub record Scaled (n N R i : ℕ) : Type 0 where
  pub whole : n ≡ N * 4 ^ i
  pub floor : Floor N R
  pub odd : R % 2 ≡ 1 → R * R < N
  pub low : 2 ^ 53 ≤ R
  pub high : R + 1 < 2 ^ 54
  pub least : 60 ≤ i
  pub room : i ≤ 2000

odd_square : (N R c : ℕ) → N ≡ 2 * c → R * R ≤ N → R % 2 ≡ 1 → R * R < N
odd_square N R c e l o = lt_of_not-le (λ (g : N ≤ R * R). no (R / 2) (omega arith) (omega arith))
  where
    no : (h : ℕ) → R ≡ 2 * h + 1 → R * R ≡ 2 * c → ⊥
    no h f k =
        let p : (2 * h + 1) * (2 * h + 1) ≡ 2 * c = subst (λ (x : ℕ). x * x ≡ 2 * c) f k in
        omega arith

module _ (m e s R : ℕ) (E : EvenShift m e s) (small : e ≤ 2100) (K : Floor (m * 2 ^ s * 4 ^ 22) R) where
  abbrev N : ℕ
  N = m * 2 ^ s * 4 ^ 22

  abbrev i : ℕ
  i = (e + 1030 - s) / 2

  pub next : (e + 1032 - s) / 2 ≡ suc i
  next = omega (arith, E.within)

  exponents : e + 1074 ≡ s + (44 + (i + i))
  exponents = omega (arith, E.within, E.even)

  powers : 2 ^ e * 2 ^ 1074 ≡ 2 ^ s * (4 ^ 22 * (2 ^ i * 2 ^ i))
  powers =
      sym (pow-add 2 e 1074)
      ∙ ap (λ (x : ℕ). 2 ^ x) exponents
      ∙ pow-add 2 s (44 + (i + i))
      ∙ ap (λ (x : ℕ). 2 ^ s * x) (pow-add 2 44 (i + i) ∙ ap (λ (x : ℕ). 4 ^ 22 * x) (pow-add 2 i i))

  whole_is : m * 2 ^ e * 2 ^ 1074 ≡ N * 4 ^ i
  whole_is =
      mul_assoc m (2 ^ e) (2 ^ 1074)
      ∙ ap (λ (x : ℕ). m * x) powers
      ∙ regroup m (2 ^ s) (2 ^ i * 2 ^ i)
      ∙ ap (λ (x : ℕ). N * x) (sym (four_pow i))
    where
      regroup : (a b c : ℕ) → a * (b * (4 ^ 22 * c)) ≡ a * b * 4 ^ 22 * c
      regroup a b c = omega arith

  below : R < 2 ^ 54
  below = square_lt R (2 ^ 54) (squared (m * 2 ^ s) E.most K.low)
    where
      squared : (a : ℕ) → a + 2 ^ 11 ≤ 2 ^ 64 → R * R ≤ a * 4 ^ 22 → R * R < 2 ^ 54 * 2 ^ 54
      squared a h l = omega arith

  above : 2 ^ 53 ≤ R
  above = let l = square_lt (2 ^ 53) (R + 1) (squared (m * 2 ^ s) E.least K.high) in omega arith
    where
      squared : (a : ℕ) → 2 ^ 62 ≤ a → a * 4 ^ 22 < (R + 1) * (R + 1) → 2 ^ 53 * 2 ^ 53 < (R + 1) * (R + 1)
      squared a h l = omega arith

  odd_below : R % 2 ≡ 1 → R * R < N
  odd_below = odd_square N R (m * 2 ^ s * 8796093022208) (omega arith) K.low

  not_last : R + 1 < 2 ^ 54
  not_last = lt_of_not-le (λ (g : 2 ^ 54 ≤ R + 1). no (omega (arith, below)) (m * 2 ^ s) E.most K.low)
    where
      no : R ≡ 18014398509481983 → (a : ℕ) → a + 2 ^ 11 ≤ 2 ^ 64 → R * R ≤ a * 4 ^ 22 → ⊥
      no f a h l =
          let k : 18014398509481983 * 18014398509481983 ≤ a * 4 ^ 22 = subst (λ (x : ℕ). x * x ≤ a * 4 ^ 22) f l in
          omega arith

  pub scaled : Scaled (m * 2 ^ e * 2 ^ 1074) N R i
  scaled = record {
    whole = whole_is;
    floor = K;
    odd = odd_below;
    low = above;
    high = not_last;
    least = omega (arith, E.within);
    room = omega (arith, E.within);
  }

-- ---- the float nearest to the root of u units

module _ (u : ℕ) {N R i : ℕ} (C : Scaled (u * 2 ^ 1074) N R i) where
  under : Floor (N * 4 ^ i) (whole_root_of (u * 2 ^ 1074))
  under = subst (λ (x : ℕ). Floor x (whole_root_of (u * 2 ^ 1074))) C.whole (floor_root (u * 2 ^ 1074))

  pub over : ℕ
  over = rest N R i (whole_root_of (u * 2 ^ 1074)) C.floor under

  over_lt : over < 2 ^ i
  unfolding over
  over_lt = rest_lt N R i (whole_root_of (u * 2 ^ 1074)) C.floor under

  small_root : 2 * R < 2 ^ i
  small_root = lt_of_lt_of_le {m = 2 ^ 60} (omega (arith, C.high)) (pow_mono C.least)

  over_pos : R % 2 ≡ 1 → 0 < over
  unfolding over
  over_pos o = rest_pos N R i (whole_root_of (u * 2 ^ 1074)) C.floor under (C.odd o) small_root

  is_round : rounded_root u ≡ round binary64 false (R * 2 ^ i + over) (2 ^ 1074)
  unfolding rounded_root over
  is_round = ap (λ (r : ℕ). round binary64 false r (2 ^ 1074)) (whole_and_rest N R i (whole_root_of (u * 2 ^ 1074)) C.floor under)

  pub root_bits : of_bits binary64 (suc i * 2 ^ 52 + (R + 1) / 2) ≡ rounded_root u
  root_bits = rounding.bits R i over C.low C.high C.room over_lt over_pos ∙ sym is_round

  pub root_units : Units (rounded_root u) false ((R + 1) / 2 * 2 ^ suc i)
  root_units = subst (λ (x : Float). Units x false ((R + 1) / 2 * 2 ^ suc i)) (sym is_round) (rounding.value R i over C.low C.high C.room over_lt over_pos)
