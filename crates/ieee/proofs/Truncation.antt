-- What the code of `round_to_integral` and below rests on: which floats are returned as they are, truncation below 2^52, and how the other two
-- directions follow from it.
use Rattle.std.proofs.Common.{◌≡◌, ℕ, zero, suc, ◌+◌, ◌*◌, ◌/◌, ◌^◌, ◌<◌, ◌≤◌, min, Bool, true, false, cond, T, ltb, ℤ, pos, negsuc, sym, refl, ap, ◌∙◌, true≢false, lt_of_lt_of_le, mod-lt, zero-lt-suc, mul_assoc, div-lt_iff_lt-mul, div-add-mod', mul-one, arith, lit≤, le→leb, eqb→eq, lt→ltb, pow_pos, pow_mono, shl_lt, ltb-false, ltb-true, lt-ltb}
use mathlib.Core.Bool.{false≢true}
use native.Mathlib.Nat.{div-eq_of_lt-le, pow-succ'}
use lib.Ieee.{Float, nan, inf, fin, binary64, up, down, round, neg, lt, fits, of_int, in_float, of_bits, to_unsigned, add}
use lib.Ieee.Back.{whole_unique}
use lib.Ieee.Exact.{HasValue, round_exact}
use lib.Ieee.Fits.{down_pos, round-fits}
use Rattle.ieee.specs.Integral.{rounded, round_to_integral}
use Rattle.ieee.specs.declared.Direction.{Direction}
use Rattle.ieee.specs.declared.Direction.TheVariants.{TowardZero, AwayFromZero, TiesToAway}
use Rattle.ieee.proofs.Integral.{rounded_integer, exact, exact_integer}
use Rattle.ieee.proofs.Values.{digits, lt_values, add_power}

pub neg_positive : (x : Float) → lt x (of_bits binary64 0) ≡ true → lt (of_bits binary64 0) (neg x) ≡ true
unfolding lt neg of_bits
neg_positive nan h = h
neg_positive (inf true) h = refl
neg_positive (inf false) h = h
neg_positive (fin true m e) h = omega (arith, lt-ltb, ltb-true)
neg_positive (fin false m e) h = absurd (omega (arith, ltb-true))

-- ---- floats that are returned as they are

integer_same : (r : Direction) (s : Bool) (m k : ℕ) → T (fits binary64 (fin s m (pos k))) → fin s m (pos k) ≡ round binary64 s (rounded r (m * 2 ^ k) 1) 1
integer_same r s m k F =
    whole_unique binary64 (fin s m (pos k)) (round binary64 s (m * 2 ^ k) 1) s (m * 2 ^ k) F (round-fits binary64 s (m * 2 ^ k) 1) (refl, refl) (exact_integer s m k F)
    ∙ ap (λ (n : ℕ). round binary64 s n 1) (sym (rounded_integer r (m * 2 ^ k)))

fraction_nonzero : (s : Bool) (m k : ℕ) → T (fits binary64 (fin s m (negsuc k))) → 0 < m
unfolding fits
fraction_nonzero s zero k t = omega (arith, eqb→eq (1 * 2 ^ suc k) 1 t, pow-succ' 2 k)
fraction_nonzero s (suc m) k t = zero-lt-suc m

-- neither above nor below zero: a NaN or a zero
pub zero_same : (p q : Direction) (x : Float) → T (fits binary64 x) → lt (of_bits binary64 0) x ≡ false → lt x (of_bits binary64 0) ≡ false
    → x ≡ round_to_integral p q x
unfolding lt of_bits round_to_integral
zero_same p q nan F a b = refl
zero_same p q (inf true) F a b = absurd (true≢false b)
zero_same p q (inf false) F a b = absurd (true≢false a)
zero_same p q (fin false m (pos k)) F a b = integer_same p false m k F
zero_same p q (fin true m (pos k)) F a b = integer_same q true m k F
zero_same p q (fin false m (negsuc k)) F a b = absurd (omega (arith, ltb-false, fraction_nonzero false m k F))
zero_same p q (fin true m (negsuc k)) F a b = absurd (omega (arith, ltb-false, fraction_nonzero true m k F))

-- 2^52 and above
pub large_same : (p q : Direction) (y : Float) → T (fits binary64 y) → lt (of_bits binary64 0) y ≡ true → lt y (of_bits binary64 0x4330_0000_0000_0000) ≡ false
    → y ≡ round_to_integral p q y
unfolding lt of_bits round_to_integral
large_same p q nan F a b = absurd (false≢true a)
large_same p q (inf s) F a b = refl
large_same p q (fin true m e) F a b = absurd (false≢true a)
large_same p q (fin false m (pos k)) F a b = integer_same p false m k F
large_same p q (fin false m (negsuc k)) F a b = absurd (omega (arith, ltb-false, (digits false m (negsuc k) F).0, pow-succ' 2 k, pow_pos k))

-- ---- truncation to a `u64`

pub record Truncates (y : Float) : Type 0 where
  pub above : T (lt (fin true 1 (pos 0)) y)
  pub below : T (lt y (fin false 1 (pos 64)))
  pub small : T (in_float binary64 (pos (to_unsigned 64 y)))
  pub integral : (q : Direction) → of_int binary64 (pos (to_unsigned 64 y)) ≡ round_to_integral TowardZero q y

pub truncates : (y : Float) → lt (of_bits binary64 0) y ≡ true → lt y (of_bits binary64 0x4330_0000_0000_0000) ≡ true → Truncates y
unfolding lt of_bits round_to_integral in_float of_int to_unsigned
truncates nan a b = absurd (false≢true a)
truncates (inf true) a b = absurd (false≢true a)
truncates (inf false) a b = absurd (false≢true b)
truncates (fin true m e) a b = absurd (false≢true a)
truncates (fin false m e) a b =
    let D : 0 < down e = down_pos e in
    let h : m * up e < 4503599627370496 * down e = omega (arith, ltb-true) in
    let k : m * up e / down e < 4503599627370496 = (div-lt_iff_lt-mul D).1 h in
    let t : min (m * up e / down e) 18446744073709551615 ≡ m * up e / down e = omega arith in
    record {
      above = omega (arith, lt→ltb);
      below = omega (arith, lt→ltb);
      small = omega (arith, le→leb);
      integral = λ q. ap (λ (n : ℕ). round binary64 false n 1) t;
    }

-- ---- the other two directions

abbrev float : ℕ → Float
float n = round binary64 false n 1

abbrev truncation : Float → Float
truncation = round_to_integral TowardZero TowardZero

away_up : (n d : ℕ) → 0 < d → n / d * d < n → n / d + 1 ≡ rounded AwayFromZero n d
away_up n d D h = sym (div-eq_of_lt-le d (omega arith) (omega (arith, div-add-mod' n d, mod-lt n D)))

away_same : (n d : ℕ) → 0 < d → n ≤ n / d * d → n / d ≡ rounded AwayFromZero n d
away_same n d D h = sym (div-eq_of_lt-le d (omega (arith, div-add-mod' n d)) (omega (arith, div-add-mod' n d)))

ties_up : (n d : ℕ) → 0 < d → (n / d * 2 + 1) * d ≤ n * 2 → rounded AwayFromZero n d ≡ rounded TiesToAway n d
ties_up n d D h = sym (away_up n d D (omega arith)) ∙ sym (div-eq_of_lt-le (d * 2) (omega arith) (omega (arith, div-add-mod' n d, mod-lt n D)))

ties_same : (n d : ℕ) → 0 < d → n * 2 < (n / d * 2 + 1) * d → n / d ≡ rounded TiesToAway n d
ties_same n d D h = sym (div-eq_of_lt-le (d * 2) (omega (arith, div-add-mod' n d)) (omega (arith, div-add-mod' n d)))

module _ (m : ℕ) (e : ℤ) (F : T (fits binary64 (fin false m e))) where
  abbrev n : ℕ
  n = m * up e

  abbrev d : ℕ
  d = down e

  exact_quotient : HasValue (float (n / d)) false (n / d) 1
  exact_quotient = exact TowardZero false m e F

  above_quotient : lt (float (n / d)) (fin false m e) ≡ ltb (n / d * d) (n * 1)
  above_quotient = lt_values (float (n / d)) (fin false m e) (n / d) 1 n d (zero-lt-suc 0) (down_pos e) exact_quotient (refl, refl)

  away_finite : (t : Bool) → ltb (n / d * d) (n * 1) ≡ t
      → cond t (add binary64 (float (n / d)) (fin false 1 (pos 0))) (float (n / d)) ≡ float (rounded AwayFromZero n d)
  away_finite true h =
      add_power (float (n / d)) (n / d) (pos 0) exact_quotient
      ∙ ap float (ap (λ (k : ℕ). k + 1) (mul-one (n / d)) ∙ away_up n d (down_pos e) (omega (arith, ltb-true)))
  away_finite false h = ap float (away_same n d (down_pos e) (omega (arith, ltb-false)))

-- the test and the two results of `away_from_zero`
pub away : (q : Direction) (y : Float) → T (fits binary64 y) → lt (of_bits binary64 0) y ≡ true → (t : Bool)
    → lt (truncation y) y ≡ t
    → cond t (add binary64 (truncation y) (of_bits binary64 0x3ff0_0000_0000_0000)) (truncation y) ≡ round_to_integral AwayFromZero q y
unfolding round_to_integral lt of_bits
away q nan F a t h = absurd (false≢true a)
away q (inf true) F a t h = absurd (false≢true a)
away q (inf false) F a true h = absurd (false≢true h)
away q (inf false) F a false h = refl
away q (fin true m e) F a t h = absurd (false≢true a)
away q (fin false m e) F a t h = away_finite m e F t (sym (above_quotient m e F) ∙ h)

module _ (m j : ℕ) (F : T (fits binary64 (fin false m (negsuc j)))) where
  abbrev k : ℕ
  k = m * 1 / 2 ^ suc j

  -- 2k + 1 has at most 53 digits
  exact_midpoint : HasValue (round binary64 false (k * 2 + 1) 2) false (k * 2 + 1) 2
  exact_midpoint =
      let small : k < 4503599627370496 = (div-lt_iff_lt-mul (pow_pos (suc j))).1 (omega (arith, (digits false m (negsuc j) F).0, pow-succ' 2 j, pow_pos j)) in
      let few : k * 2 + 1 < 2 ^ 53 = omega arith in
      round_exact binary64 false (k * 2 + 1) 2 (k * 2 + 1) 1073 (zero-lt-suc 1) few
      (lt_of_lt_of_le (shl_lt 53 1073 few) (pow_mono {i = 53 + 1073} {j = 1074 + 1024} (lit≤ tt)))
      (sym (mul_assoc (k * 2 + 1) (2 ^ 1073) 2))

  below_midpoint : lt (fin false m (negsuc j)) (add binary64 (float k) (fin false 1 (negsuc 0))) ≡ ltb (m * 1 * 2) ((k * 2 + 1) * 2 ^ suc j)
  below_midpoint =
      ap (lt (fin false m (negsuc j))) (add_power (float k) k (negsuc 0) (exact_quotient m (negsuc j) F))
      ∙ lt_values (fin false m (negsuc j)) (round binary64 false (k * 2 + 1) 2) (m * 1) (2 ^ suc j) (k * 2 + 1) 2 (pow_pos (suc j)) (zero-lt-suc 1) (refl, refl) exact_midpoint

  ties_fraction : (t : Bool) → ltb (m * 1 * 2) ((k * 2 + 1) * 2 ^ suc j) ≡ t
      → cond t (float k) (float (rounded AwayFromZero (m * 1) (2 ^ suc j))) ≡ float (rounded TiesToAway (m * 1) (2 ^ suc j))
  ties_fraction true h = ap float (ties_same (m * 1) (2 ^ suc j) (pow_pos (suc j)) (ltb-true _ _ h))
  ties_fraction false h = ap float (ties_up (m * 1) (2 ^ suc j) (pow_pos (suc j)) (ltb-false _ _ h))

-- the test and the two results of `ties_to_away`
pub ties : (q : Direction) (y : Float) → T (fits binary64 y) → lt (of_bits binary64 0) y ≡ true → (t : Bool)
    → lt y (add binary64 (truncation y) (of_bits binary64 0x3fe0_0000_0000_0000)) ≡ t
    → cond t (truncation y) (round_to_integral AwayFromZero q y) ≡ round_to_integral TiesToAway q y
unfolding round_to_integral lt of_bits
ties q nan F a t h = absurd (false≢true a)
ties q (inf s) F a true h = refl
ties q (inf s) F a false h = refl
ties q (fin true m e) F a t h = absurd (false≢true a)
ties q (fin false m (pos k)) F a true h = ap float (rounded_integer TowardZero (m * 2 ^ k) ∙ sym (rounded_integer TiesToAway (m * 2 ^ k)))
ties q (fin false m (pos k)) F a false h = ap float (rounded_integer AwayFromZero (m * 2 ^ k) ∙ sym (rounded_integer TiesToAway (m * 2 ^ k)))
ties q (fin false m (negsuc j)) F a t h = ties_fraction m j F t (sym (below_midpoint m j F) ∙ h)
