-- The floor of a square root: the definition's, and that of a number times a power of four.
use mathlib.Core.Path.{◌≡◌, refl, sym, ap, ◌∙◌, subst}
use mathlib.Core.Bool.{Bool, true, false, cond}
use Prim.Native.Nat.{ℕ, zero, suc, ◌+◌, ◌-◌, ◌*◌, ◌^◌, ◌≤◌, ◌<◌}
use native.Mathlib.Nat.{lt_of_le_of_lt, pow-suc, mul-lt-mul_of_pos_right, mul-le-mul_right, mul-pos, lt_of_not-le}
use native.Mathlib.Omega.{arith}
use borrow.Author.Tests.{leb-true, leb-false}
use lib.Dec.{leb}
use lib.Pow.{pow_pos}
use Rattle.root.specs.WholeRoot.{root_up_to, whole_root_of}
use Rattle.root.proofs.Squares.{Floor, square_lt}

up_to : (k n : ℕ) → n < suc k * suc k → Floor n (root_up_to k n)
unfolding root_up_to
up_to zero n h = record { low = omega arith; high = omega arith }
up_to (suc k) n h = go (λ e. up_to k n e) (leb (suc k * suc k) n) refl
  where
    go : (n < suc k * suc k → Floor n (root_up_to k n)) → (b : Bool) → leb (suc k * suc k) n ≡ b → Floor n (cond b (suc k) (root_up_to k n))
    go f true e = record { low = leb-true (suc k * suc k) n e; high = omega arith }
    go f false e = f (leb-false (suc k * suc k) n e)

pub floor_root : (n : ℕ) → Floor n (whole_root_of n)
unfolding whole_root_of
floor_root n = up_to n n (omega arith)

pub four_pow : (i : ℕ) → 4 ^ i ≡ 2 ^ i * 2 ^ i
four_pow zero = refl
four_pow (suc i) = pow-suc 4 i ∙ quadruple (4 ^ i) (2 ^ i) (four_pow i) ∙ ap (λ (x : ℕ). x * x) (sym (pow-suc 2 i))
  where
    quadruple : (a b : ℕ) → a ≡ b * b → a * 4 ≡ b * 2 * (b * 2)
    quadruple a b h = omega arith

-- With R the floor of the root of N: that of N * 4 ^ i lies from R * 2 ^ i up to (R + 1) * 2 ^ i, and it is R * 2 ^ i only where N is a
-- square or 2 ^ i is small.
module _ (N R i r : ℕ) (F : Floor N R) (f : Floor (N * 4 ^ i) r) where
  apart : R * 2 ^ i ≤ r
  apart =
      let l = square_lt (R * 2 ^ i) (r + 1)
      (lt_of_le_of_lt (subst (λ (x : ℕ). R * 2 ^ i * (R * 2 ^ i) ≤ N * x) (sym (four_pow i)) (omega (arith, mul-le-mul_right (2 ^ i * 2 ^ i) F.low))) f.high) in
      omega arith

  short : r < (R + 1) * 2 ^ i
  short =
      square_lt r ((R + 1) * 2 ^ i)
      (lt_of_le_of_lt f.low
      (subst (λ (x : ℕ). N * x < (R + 1) * 2 ^ i * ((R + 1) * 2 ^ i)) (sym (four_pow i))
      (omega (arith, mul-lt-mul_of_pos_right F.high (mul-pos (pow_pos i) (pow_pos i))))))

  pub rest : ℕ
  rest = r - R * 2 ^ i

  pub rest_lt : rest < 2 ^ i
  unfolding rest
  rest_lt = let h = short in let k = apart in omega arith

  pub whole_and_rest : r ≡ R * 2 ^ i + rest
  unfolding rest
  whole_and_rest = let k = apart in omega arith

  pub rest_pos : R * R < N → 2 * R < 2 ^ i → 0 < rest
  unfolding rest
  rest_pos h l = lt_of_not-le (λ (g : rest ≤ 0).
      let e : r ≡ R * 2 ^ i = whole_and_rest_zero g in
      no e)
    where
      whole_and_rest_zero : rest ≤ 0 → r ≡ R * 2 ^ i
      whole_and_rest_zero g = let k = apart in omega arith

      no : r ≡ R * 2 ^ i → ⊥
      no e =
          let p = 2 ^ i in
          let hi : N * (p * p) < (R * p + 1) * (R * p + 1) = subst (λ (x : ℕ). N * x < (R * p + 1) * (R * p + 1)) (four_pow i) (subst (λ (x : ℕ). N * 4 ^ i < (x + 1) * (x + 1)) e f.high) in
          let a : (R * R + 1) * (p * p) ≤ N * (p * p) = mul-le-mul_right (p * p) (omega arith) in
          let b : (2 * R + 1) * p ≤ p * p = mul-le-mul_right p (omega arith) in
          omega (arith, pow_pos i)
