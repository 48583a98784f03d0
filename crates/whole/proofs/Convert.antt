-- The float that an Int becomes. Assumes nothing.
use Rattle.std.specs.Prelude.{Option, None, Some}
use Prim.Native.Nat.{ℕ, zero, suc, ◌+◌, ◌-◌, ◌*◌, ◌/◌, ◌%◌, ◌^◌, ◌≤◌, ◌<◌, min}
use mathlib.Core.Path.{◌≡◌, refl, sym, ap, ap₂, ◌∙◌, subst}
use mathlib.Core.Bool.{Bool, true, false, not, ◌&&◌, ◌||◌, beq, and-true, cond}
use mathlib.Core.Logic.{◌⊎◌, inl, inr}
use native.Mathlib.Nat.{lt_of_lt_of_le, eq-or-lt_of_le, zero-lt-suc, one-mul, mul-one, mul_assoc, mul_comm, mul_left_comm, mul-pos, mul-le-mul_right, zero-mul, eq_of_mul-eq-mul_right, pow-succ', pow-suc, le_of_suc-le-suc, not-suc-le-zero, le_of_eq, le_antisymm, div-lt_iff_lt-mul, le-div_iff_mul-le, mul-div_cancel}
use native.Mathlib.Omega.{arith}
use lib.Dec.{T, eqb, leb, ltb, leb-suc-suc, eqb→eq, ltb→lt, nltb→le, lit<}
use lib.Pow.{pow-add, pow_pos, pow_mono, shl_lt}
use lib.Count.{count_trailing_zeros, under, trailing_le}
use lib.IntN.{ℤ, pos, negsuc, neg_ℤ, nat_abs}
use lib.Signed.{lt_z, non_neg, shr_z}
use mir.Syntax.{w64}
use mir.Val.{SFits}
use mir.Facts.{to_z-of_z}
use lib.Ieee.{Float, nan, inf, fin, binary64, unlike, up, down, round, mul, eq, fits, of_int, of_bits}
use lib.Ieee.Bits.{is_true}
use lib.Ieee.Fits.{down_pos, and_i, and_l, and_r, eq→eqb, of_int-fits}
use lib.Ieee.Exact.{HasValue, round_exact}
use lib.Ieee.Back.{round_whole}
use lib.Ieee.Scale.{round_same}
use Rattle.whole.specs.Convert.{unrounded, EqualsInt, int_as_f64, Examples}
use Rattle.whole.proofs.Laws.{read_back}

-- ---- The trailing zeros of a number, counted up to c

-- the number without its zeros, odd where fewer than c are counted
odd_part : (c n : ℕ) → (q : ℕ) × (q * 2 ^ count_trailing_zeros c n ≡ n) × (count_trailing_zeros c n < c → q % 2 ≡ 1)
unfolding count_trailing_zeros
odd_part zero n = (n, mul-one n, λ h. absurd (not-suc-le-zero h))
odd_part (suc c) n = go (n % 2) refl (odd_part c (n / 2))
  where
    go : (b : ℕ) → n % 2 ≡ b → (q : ℕ) × (q * 2 ^ count_trailing_zeros c (n / 2) ≡ n / 2) × (count_trailing_zeros c (n / 2) < c → q % 2 ≡ 1)
        → (q : ℕ) × (q * 2 ^ under b (count_trailing_zeros c (n / 2)) ≡ n) × (under b (count_trailing_zeros c (n / 2)) < suc c → q % 2 ≡ 1)
    go zero e (q, h, o) =
        let t = count_trailing_zeros c (n / 2) in
        (q, ap (λ (x : ℕ). q * x) (pow-succ' 2 t) ∙ mul_left_comm q 2 (2 ^ t) ∙ ap (λ (x : ℕ). 2 * x) h ∙ omega (arith, e), λ l. o (le_of_suc-le-suc l))
    go (suc b) e r = (n, mul-one n, λ l. omega (arith, e))

-- a count up to d, cut at c
counted : (c d n : ℕ) → c ≤ d → min (count_trailing_zeros d n) c ≡ count_trailing_zeros c n
unfolding count_trailing_zeros
counted zero d n l = omega arith
counted (suc c) zero n l = absurd (not-suc-le-zero l)
counted (suc c) (suc d) n l = go (n % 2) (counted c d (n / 2) (le_of_suc-le-suc l))
  where
    go : (b : ℕ) → min (count_trailing_zeros d (n / 2)) c ≡ count_trailing_zeros c (n / 2) → min (under b (count_trailing_zeros d (n / 2))) (suc c) ≡ under b (count_trailing_zeros c (n / 2))
    go zero h = omega (arith, h)
    go (suc b) h = omega arith

-- ---- An Int and its part before k zeros, z

abbrev pub sign : ℤ → Bool
sign n = not (non_neg n)

below_multiple : (a c p : ℕ) → 0 < p → suc c * p ≡ suc a → a / p ≡ c
below_multiple a c p P e =
    let l : c * p ≤ a = omega (arith, e) in
    let u : a < suc c * p = omega (arith, e) in
    le_antisymm (le_of_suc-le-suc ((div-lt_iff_lt-mul P).1 u)) ((le-div_iff_mul-le P).1 l)

shifted_size : (n : ℤ) (p q : ℕ) → 0 < p → q * p ≡ nat_abs n → nat_abs (shr_z n p) ≡ q
shifted_size (pos a) p q P e = ap (λ (x : ℕ). x / p) (sym e) ∙ mul-div_cancel q P
shifted_size (negsuc a) p zero P e = absurd (not-suc-le-zero (le_of_eq (sym e ∙ zero-mul p)))
shifted_size (negsuc a) p (suc c) P e = ap suc (below_multiple a c p P e)

shifted_sign : (n : ℤ) (p : ℕ) → sign (shr_z n p) ≡ sign n
shifted_sign (pos a) p = refl
shifted_sign (negsuc a) p = refl

pub record Scaled (n z : ℤ) (k : ℕ) : Type 0 where
  pub most : k ≤ 11
  pub same_sign : sign z ≡ sign n
  pub size : nat_abs z * 2 ^ k ≡ nat_abs n
  pub odd : k < 11 → nat_abs z % 2 ≡ 1

scaled : (n : ℤ) → let k = count_trailing_zeros 11 (nat_abs n) in Scaled n (shr_z n (2 ^ k)) k
scaled n =
    let k = count_trailing_zeros 11 (nat_abs n) in
    let o = odd_part 11 (nat_abs n) in
    let s = shifted_size n (2 ^ k) o.0 (pow_pos k) o.1 in
    record {
      most = trailing_le 11 (nat_abs n);
      same_sign = shifted_sign n (2 ^ k);
      size = ap (λ (q : ℕ). q * 2 ^ k) s ∙ o.1;
      odd = λ l. ap (λ (q : ℕ). q % 2) s ∙ o.2 l;
    }

-- ---- Where z is below 2 ^ 53, the product of its float with 2 ^ k is the float of n, and equals n

nearest_is : (n : ℤ) → of_int binary64 n ≡ round binary64 (sign n) (nat_abs n) 1
unfolding of_int
nearest_is (pos a) = refl
nearest_is (negsuc a) = refl

product : (a b q p c d : ℕ) → a * 1 ≡ q * c → b * 1 ≡ p * d → a * b * 1 ≡ q * p * (c * d)
product a b q p c d h k =
    mul-one (a * b)
    ∙ ap₂ (λ (x y : ℕ). x * y) (sym (mul-one a) ∙ h) (sym (mul-one b) ∙ k)
    ∙ mul_assoc q c (p * d)
    ∙ ap (λ (x : ℕ). q * x) (mul_left_comm c p d)
    ∙ sym (mul_assoc q p (c * d))

unlike_false : (s : Bool) → unlike s false ≡ s
unlike_false true = refl
unlike_false false = refl

mul_values : (s : Bool) (x y : Float) (q p : ℕ) → HasValue x s q 1 → HasValue y false p 1 → mul binary64 x y ≡ round binary64 s (q * p) 1
unfolding mul
mul_values s nan y q p v w = absurd v
mul_values s (inf t) y q p v w = absurd v
mul_values s (fin t m e) nan q p v w = absurd w
mul_values s (fin t m e) (inf u) q p v w = absurd w
mul_values s (fin t m e) (fin u n d) q p v w =
    ap₂ (λ (a b : Bool). round binary64 (unlike a b) (m * up e * (n * up d)) (down e * down d)) v.0 w.0
    ∙ ap (λ (b : Bool). round binary64 b (m * up e * (n * up d)) (down e * down d)) (unlike_false s)
    ∙ round_same binary64 s (m * up e * (n * up d)) (down e * down d) (q * p) 1 (mul-pos (down_pos e) (down_pos d)) (zero-lt-suc 0)
    (product (m * up e) (n * up d) q p (down e) (down d) v.1 w.1)

int_value : (z : ℤ) → nat_abs z ≤ 2 ^ 53 → HasValue (of_int binary64 z) (sign z) (nat_abs z) 1
int_value z h = rw (nearest_is z) (round_whole binary64 (sign z) (nat_abs z) h)

power_most : (k : ℕ) → k ≤ 11 → 2 ^ k ≤ 2 ^ 53
power_most k h = let j : k ≤ 53 = omega arith in pow_mono j

power_fits : (k : ℕ) → k ≤ 11 → 1 * 2 ^ k % 2 ^ 64 ≡ 2 ^ k
power_fits k h = let l = power_most k h in ap (λ (x : ℕ). x % 2 ^ 64) (one-mul (2 ^ k)) ∙ omega (arith, l)

product_is : (n z : ℤ) (k : ℕ) → Scaled n z k → nat_abs z < 2 ^ 53 → mul binary64 (of_int binary64 z) (of_int binary64 (pos (1 * 2 ^ k % 2 ^ 64))) ≡ of_int binary64 n
product_is n z k s h =
    let l : nat_abs z ≤ 2 ^ 53 = omega arith in
    ap (λ (p : ℕ). mul binary64 (of_int binary64 z) (of_int binary64 (pos p))) (power_fits k s.most)
    ∙ mul_values (sign z) (of_int binary64 z) (of_int binary64 (pos (2 ^ k))) (nat_abs z) (2 ^ k) (int_value z l) (int_value (pos (2 ^ k)) (power_most k s.most))
    ∙ ap₂ (λ (t : Bool) (a : ℕ). round binary64 t a 1) s.same_sign s.size
    ∙ sym (nearest_is n)

-- what q * 2 ^ k is rounded to, q below 2 ^ 53: itself. 1074 is `low binary64`, and 1024 is above `emax binary64`
scaled_value : (n : ℤ) (q k : ℕ) → q < 2 ^ 53 → k ≤ 63 → q * 2 ^ k ≡ nat_abs n → HasValue (of_int binary64 n) (sign n) (nat_abs n) 1
scaled_value n q k h l e =
    let j : 53 + (k + 1074) ≤ 1074 + 1024 = omega arith in
    rw (nearest_is n)
    (round_exact binary64 (sign n) (nat_abs n) 1 q (k + 1074) (zero-lt-suc 0) h (lt_of_lt_of_le (shl_lt 53 (k + 1074) h) (pow_mono j))
    (ap (λ (x : ℕ). x * 2 ^ 1074) (sym e) ∙ mul_assoc q (2 ^ k) (2 ^ 1074) ∙ ap (λ (x : ℕ). q * x) (sym (pow-add 2 k 1074)) ∙ sym (mul-one (q * 2 ^ (k + 1074)))))

itself : (s : Bool) → T (beq s s)
itself true = tt
itself false = tt

or_left : (a b : Bool) → T a → T (a || b)
or_left true b t = tt
or_left false b t = absurd t

equals : (x : Float) (n : ℤ) → HasValue x (sign n) (nat_abs n) 1 → T (eq x (unrounded n))
unfolding eq
equals nan n v = absurd v
equals (inf s) n v = absurd v
equals (fin s m e) n v =
    and_i (eqb (m * up e * 1) (nat_abs n * 1 * down e)) (beq s (sign n) || eqb (m * up e * 1) 0)
    (eq→eqb (v.1 ∙ ap (λ (k : ℕ). k * down e) (sym (mul-one (nat_abs n)))))
    (or_left (beq s (sign n)) (eqb (m * up e * 1) 0) (subst (λ (t : Bool). T (beq s t)) v.0 (itself s)))

equals_nearest : (n : ℤ) → HasValue (of_int binary64 n) (sign n) (nat_abs n) 1 → EqualsInt (of_int binary64 n) n
equals_nearest n v = record { f64 = of_int-fits binary64 n; equal = equals (of_int binary64 n) n v }

size_fits : (n : ℤ) → SFits w64 n → nat_abs n ≤ 2 ^ 63
size_fits (pos a) f = let h : a < 2 ^ 63 = f.sfits in omega arith
size_fits (negsuc a) f = f.sfits

-- a multiple of 1,024, of which the smallest Int is the longest
counter_value : (n : ℤ) → SFits w64 n → nat_abs n % 1024 ≡ 0 → HasValue (of_int binary64 n) (sign n) (nat_abs n) 1
counter_value n f h = go (eq-or-lt_of_le most)
  where
    most : nat_abs n / 1024 ≤ 2 ^ 53
    most = let b = size_fits n f in omega (arith, b)

    go : (nat_abs n / 1024 ≡ 2 ^ 53) ⊎ (nat_abs n / 1024 < 2 ^ 53) → HasValue (of_int binary64 n) (sign n) (nat_abs n) 1
    go (inl i) = let l : 63 ≤ 63 = omega arith in scaled_value n 1 63 (lit< tt) l (omega (arith, h, i))
    go (inr i) = let l : 10 ≤ 63 = omega arith in scaled_value n (nat_abs n / 1024) 10 i l (omega (arith, h))

-- ---- Where z is 2 ^ 53 or more, no float equals n

even_odd : (q t : ℕ) → q % 2 ≡ 1 → q ≡ 2 * t → ⊥
even_odd q t o h = omega arith

at_least : (q k : ℕ) → q ≤ q * 2 ^ k
at_least q k = let l : 1 * q ≤ 2 ^ k * q = mul-le-mul_right q (pow_pos k) in omega (arith, l, mul_comm (2 ^ k) q)

no_float : (m q c k : ℕ) → m < 2 ^ 53 → 2 ^ 53 ≤ q → q % 2 ≡ 1 → m * 2 ^ c ≡ q * 2 ^ k → ⊥
no_float m q zero k h l o e = let g = at_least q k in omega (arith, mul-one m, e, g)
no_float m q (suc c) zero h l o e = even_odd q (m * 2 ^ c) o (sym (mul-one q) ∙ sym e ∙ ap (λ (x : ℕ). m * x) (pow-succ' 2 c) ∙ mul_left_comm m 2 (2 ^ c))
no_float m q (suc c) (suc k) h l o e =
    no_float m q c k h l o
    (eq_of_mul-eq-mul_right 2 (zero-lt-suc 1) (m * 2 ^ c) (q * 2 ^ k) (mul_assoc m (2 ^ c) 2 ∙ ap (λ (x : ℕ). m * x) (sym (pow-suc 2 c)) ∙ e ∙ ap (λ (x : ℕ). q * x) (pow-suc 2 k) ∙ sym (mul_assoc q (2 ^ k) 2)))

-- the digits of an f64
digits : (s : Bool) (m : ℕ) (e : ℤ) → T (fits binary64 (fin s m e)) → m < 2 ^ 53
unfolding fits
digits s zero e t = lit< tt
digits s (suc m) e t =
    let a : Bool = eqb (suc m % 2) 1 in
    let b : Bool = ltb (suc m) (2 ^ 53) in
    let c : Bool = leb (down e) (2 ^ 1074) in
    let d : Bool = ltb (suc m * up e) (2 ^ 1024 * down e) in
    ltb→lt (suc m) (2 ^ 53) (and_r a b (and_l (a && b) c (and_l (a && b && c) d t)))

equal_size : (s : Bool) (m : ℕ) (e : ℤ) (n : ℤ) → T (eq (fin s m e) (unrounded n)) → m * up e ≡ nat_abs n * down e
unfolding eq
equal_size s m e n t =
    sym (mul-one (m * up e))
    ∙ eqb→eq (m * up e * 1) (nat_abs n * 1 * down e) (and_l (eqb (m * up e * 1) (nat_abs n * 1 * down e)) (beq s (sign n) || eqb (m * up e * 1) 0) t)
    ∙ ap (λ (k : ℕ). k * down e) (mul-one (nat_abs n))

no_int : (n : ℤ) (q k : ℕ) → 2 ^ 53 ≤ q → q % 2 ≡ 1 → q * 2 ^ k ≡ nat_abs n → (x : Float) → EqualsInt x n → ⊥
unfolding eq
no_int n q k l o e nan i = i.equal
no_int n q k l o e (inf s) i = i.equal
no_int n q k l o e (fin s m (pos c)) i = no_float m q c k (digits s m (pos c) i.f64) l o (equal_size s m (pos c) n i.equal ∙ mul-one (nat_abs n) ∙ sym e)
no_int n q k l o e (fin s m (negsuc c)) i =
    no_float m q 0 (k + suc c) (digits s m (negsuc c) i.f64) l o
    (equal_size s m (negsuc c) n i.equal ∙ ap (λ (x : ℕ). x * 2 ^ suc c) (sym e) ∙ mul_assoc q (2 ^ k) (2 ^ suc c) ∙ ap (λ (x : ℕ). q * x) (sym (pow-add 2 k (suc c))))

too_long : (n z : ℤ) (k : ℕ) → SFits w64 n → Scaled n z k → 2 ^ 53 ≤ nat_abs z → (x : Float) → EqualsInt x n → ⊥
too_long n z k f s l = go (eq-or-lt_of_le s.most)
  where
    go : (k ≡ 11) ⊎ (k < 11) → (x : Float) → EqualsInt x n → ⊥
    go (inl i) x j =
        let g : nat_abs z * 2 ^ 11 ≡ nat_abs n = rw i at s.size in
        let b = size_fits n f in absurd (omega (arith, g, b, l))
    go (inr i) x j = no_int n (nat_abs z) k l (s.odd i) s.size x j

-- ---- What the functions ensure

pub shift_of : (n : ℤ) (u k : ℕ) (m : ℤ) → SFits w64 n → u ≡ nat_abs (read_back n) → k ≡ min (count_trailing_zeros 64 u) 11 → m ≡ shr_z n (2 ^ k) → Scaled n m k
shift_of n u k m f a b e =
    let l : 11 ≤ 64 = omega arith in
    let i : k ≡ count_trailing_zeros 11 (nat_abs n) = b ∙ counted 11 64 u l ∙ ap (count_trailing_zeros 11) (a ∙ ap nat_abs (to_z-of_z f)) in
    subst (λ (z : ℤ). Scaled n z k) (sym e) (subst (λ (j : ℕ). Scaled n (shr_z n (2 ^ j)) j) (sym i) (scaled n))

-- the test of m
abbrev pub inside : ℤ → Bool
inside z = lt_z (neg_ℤ (pos (2 ^ 53))) z && lt_z z (pos (2 ^ 53))

inside_is : (z : ℤ) → inside z ≡ ltb (nat_abs z) (2 ^ 53)
inside_is (pos n) = refl
inside_is (negsuc n) = and-true _ ∙ sym (leb-suc-suc (suc n) (2 ^ 53 - 1))

below : (z : ℤ) → inside z ≡ true → nat_abs z < 2 ^ 53
below z h = ltb→lt (nat_abs z) (2 ^ 53) (subst T (sym h ∙ inside_is z) tt)

examples_hold : Examples
unfolding int_as_f64 eq of_int round of_bits
examples_hold = record { power = refl; least = refl; odd = refl; greatest = refl }

abbrev pub Ensured : ℤ → Option Float → Type 0
Ensured n r =
    let some : Type 0 = (r ≡ Some (of_int binary64 n)) in
    (r ≡ int_as_f64 n)
    × (((x : Float) → r ≡ Some x → EqualsInt x n)
    × (((x : Float) → EqualsInt x n → some) × ((nat_abs n ≤ 2 ^ 53 → some) × ((nat_abs n % 1024 ≡ 0 → some) × Examples))))

pub given : (n z : ℤ) (k : ℕ) → Scaled n z k → inside z ≡ true → Ensured n (Some (mul binary64 (of_int binary64 z) (of_int binary64 (pos (1 * 2 ^ k % 2 ^ 64)))))
unfolding int_as_f64
given n z k s t =
    let h = below z t in
    let m = s.most in
    let l : k ≤ 63 = omega (arith, m) in
    let i = equals_nearest n (scaled_value n (nat_abs z) k h l s.size) in
    let r = ap Some (product_is n z k s h) in (
      r ∙ rw (is_true (eq (of_int binary64 n) (unrounded n)) i.equal),
      (λ x p. let j : of_int binary64 n ≡ x = cc in subst (λ (y : Float). EqualsInt y n) j i, (λ x j. r, (λ l. r, (λ l. r, examples_hold)))),
    )

no_value : (n : ℤ) → ((x : Float) → EqualsInt x n → ⊥) → None ≡ int_as_f64 n
unfolding int_as_f64
no_value n none = go (eq (of_int binary64 n) (unrounded n)) refl
  where
    go : (b : Bool) → eq (of_int binary64 n) (unrounded n) ≡ b → None ≡ cond b (Some (of_int binary64 n)) None
    go true h = absurd (none (of_int binary64 n) (record { f64 = of_int-fits binary64 n; equal = rw h tt }))
    go false h = refl

pub not_given : (n z : ℤ) (k : ℕ) → SFits w64 n → Scaled n z k → inside z ≡ false → Ensured n None
not_given n z k f s t =
    let none = too_long n z k f s (nltb→le (nat_abs z) (2 ^ 53) (rw (sym (inside_is z) ∙ t) tt)) in
    let no_nearest : HasValue (of_int binary64 n) (sign n) (nat_abs n) 1 → ⊥ = λ v. none (of_int binary64 n) (equals_nearest n v) in (
      no_value n none,
      (
        λ x p. let z : ◌≡◌ {A = ℕ} 0 1 = cc in absurd (omega arith),
        (λ x j. absurd (none x j), (λ l. absurd (no_nearest (int_value n l)), (λ l. absurd (no_nearest (counter_value n f l)), examples_hold))),
      ),
    )
