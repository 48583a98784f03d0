-- Shifts to the highest places of a u64, from the count of leading zeros.
use mathlib.Core.Path.{◌≡◌, sym, ap, ◌∙◌, subst}
use Prim.Native.Nat.{ℕ, suc, ◌+◌, ◌-◌, ◌*◌, ◌/◌, ◌%◌, ◌^◌, ◌≤◌, ◌<◌}
use native.Mathlib.Nat.{le_trans, lt_of_not-le, not-le_of_lt, le_of_eq, mul-le-mul_left, mul-le-mul_right, mod-eq_of_lt}
use native.Mathlib.Omega.{arith}
use lib.Pow.{pow-add, pow_mono, pow_pos}
use lib.Count.{count_leading_zeros, leading_top}
use Rattle.root.specs.Steps.{EvenShift, Near}
use Rattle.root.proofs.Newton.{at_least, lowered}

-- z zeros and j + 1 digits make 64; a shift by z or one less
module _ (m z j s : ℕ) (places : z + suc j ≡ 64) (low : 2 ^ j ≤ m) (high : m < 2 ^ suc j) (most : s ≤ z) (least : z ≤ s + 1) where
  pub reaches : 2 ^ 62 ≤ m * 2 ^ s
  reaches = le_trans (subst (λ (x : ℕ). 2 ^ 62 ≤ x) (pow-add 2 j s) (pow_mono {i = 62} {j = j + s} (omega arith))) (mul-le-mul_right (2 ^ s) low)

  -- with z zeros below the last digit
  pub stays_within : m * 2 ^ s + 2 ^ z ≤ 2 ^ 64
  stays_within =
      let sum : suc j + z ≡ 64 = omega arith in
      let all : (m + 1) * 2 ^ z ≤ 2 ^ 64 = le_trans (mul-le-mul_right (2 ^ z) (omega arith)) (le_of_eq (sym (pow-add 2 (suc j) z) ∙ ap (λ (x : ℕ). 2 ^ x) sum)) in
      let part : m * 2 ^ s ≤ m * 2 ^ z = mul-le-mul_left m (pow_mono {i = s} {j = z} most) in
      omega arith

-- ---- a shift that leaves an even exponent

pub zeros_least : (m : ℕ) → 0 < m → m < 2 ^ 53 → 11 ≤ count_leading_zeros 64 m
zeros_least m h l =
    let t = leading_top 64 m h (omega arith) in
    let j = t.0 in
    let few : j < 53 = lt_of_not-le (λ (g : 53 ≤ j). not-le_of_lt l (le_trans (pow_mono g) t.2)) in
    omega (arith, t.1)

pub even_shift : (m e : ℕ) → 0 < m → m < 2 ^ 53 → EvenShift m e (count_leading_zeros 64 m - (e % 2 + count_leading_zeros 64 m) % 2)
even_shift m e h l =
    let t = leading_top 64 m h (omega arith) in
    let z = count_leading_zeros 64 m in
    let s = z - (e % 2 + z) % 2 in
    let k = zeros_least m h l in
    record {
      within = omega (arith, t.1);
      least = reaches m z t.0 s t.1 t.2 t.3 (omega arith) (omega arith);
      most = let d = stays_within m z t.0 s t.1 t.2 t.3 (omega arith) (omega arith) in let p : 2 ^ 11 ≤ 2 ^ z = pow_mono {i = 11} {j = z} k in omega arith;
      even = omega arith;
    }

-- ---- a shift by an even number of places

module _ (n : ℕ) (pos : 0 < n) (short : n < 2 ^ 64) where
  abbrev half : ℕ
  half = count_leading_zeros 64 n / 2

  pub few : half < 32
  few = let t = leading_top 64 n pos short in omega (arith, t.1)

  exact : n * 2 ^ (2 * half) % 2 ^ 64 ≡ n * 2 ^ (2 * half)
  exact =
      let t = leading_top 64 n pos short in
      let d = stays_within n (count_leading_zeros 64 n) t.0 (2 * half) t.1 t.2 t.3 (omega arith) (omega arith) in
      mod-eq_of_lt (omega (arith, pow_pos (count_leading_zeros 64 n)))

  pub raised : 2 ^ 62 ≤ n * 2 ^ (2 * half) % 2 ^ 64
  raised = let t = leading_top 64 n pos short in subst (λ (x : ℕ). 2 ^ 62 ≤ x) (sym exact) (reaches n (count_leading_zeros 64 n) t.0 (2 * half) t.1 t.2 t.3 (omega arith) (omega arith))

  squared : n * 2 ^ (2 * half) ≡ n * (2 ^ half * 2 ^ half)
  squared = ap (λ (x : ℕ). n * x) (ap (λ (x : ℕ). 2 ^ x) (omega arith) ∙ pow-add 2 half half)

  pub near_low : (a : ℕ) → Near (n * 2 ^ (2 * half) % 2 ^ 64) a → Near n (a / 2 ^ half)
  near_low a h =
      let large : 2 ^ half ≤ a = le_trans (pow_mono {i = half} {j = 31} (omega (arith, few))) (at_least (2 ^ 31) raised h) in
      lowered n a (2 ^ half) (pow_pos half) large (subst (λ (x : ℕ). Near x a) (exact ∙ squared) h)
