-- What `remainder` rests on: floats in units of the smallest value, of which 2 ^ 1074 are one, and remainders of whole numbers.
use Rattle.std.proofs.Common.{◌≡◌, ℕ, zero, suc, ◌+◌, ◌-◌, ◌*◌, ◌/◌, ◌%◌, ◌^◌, ◌<◌, ◌≤◌, Bool, true, false, cond, T, eqb, leb, sym, refl, ap, ◌∙◌, subst, true≢false, le_trans, lt_of_lt_of_le, le-add_right, add-zero, lt_irrefl, mul-le-mul_right, mod-lt, mod-eq_of_lt, zero-lt-suc, mul_assoc, mul_comm, mul-lt-mul_of_pos_right, mul-pos, div-add-mod', zero-add, zero-mul, mul-one, mul-add, mul_right_comm, mul_left_comm, arith, lit<, eqb→eq, pow_pos, pow_mono, pow-add, shl_lt}
use mathlib.Core.Path.{subst⁻¹}
use mathlib.Core.Bool.{false≢true}
use native.Mathlib.Nat.{add-mul-mod_self_right}
use native.Mathlib.Decide.{ℕ_discrete}
use lib.Dec.{not_T}
use lib.Arith.{digits_div, digits_mod, lt→nleb}
use lib.Pow.{pow-lt}
use lib.Ieee.{Float, nan, inf, fin, binary64, up, down, odd, round, neg, mul, rem, fits, of_fields, of_bits}
use lib.Ieee.Bits.{is_false, cond_no}
use lib.Ieee.Exact.{HasValue, odd_sign, round_exact}
use lib.Ieee.Fits.{down_pos, up_pos, round-fits, eq→eqb}
use lib.Ieee.Scale.{round_same}
use Rattle.ieee.specs.Bits.{bits_of}
use Rattle.ieee.specs.Finite.{finite_of}
use Rattle.ieee.specs.Parts.{PartsOf}
use Rattle.ieee.proofs.Bits.{fields_of, same_value}
use Rattle.ieee.proofs.Values.{neg_round}

-- ---- remainders of whole numbers

factor : (q b r k : ℕ) → (q * b + r) * k ≡ q * (b * k) + r * k
factor q b r k = omega arith

pub mod_scale : (a b k : ℕ) → 0 < b → 0 < k → a * k % (b * k) ≡ a % b * k
mod_scale a b k B K =
    ap (λ (z : ℕ). z * k % (b * k)) (sym (div-add-mod' a b))
    ∙ ap (λ (z : ℕ). z % (b * k)) (factor (a / b) b (a % b) k)
    ∙ digits_mod (a / b) (mul-lt-mul_of_pos_right (mod-lt a B) K)

turned : (q b r k : ℕ) → (q * b + r) * k ≡ r * k + q * k * b
turned q b r k = omega arith

pub mod_shift : (a b k : ℕ) → a % b * k % b ≡ a * k % b
mod_shift a b k =
    sym
    (ap (λ (z : ℕ). z * k % b) (sym (div-add-mod' a b))
    ∙ ap (λ (z : ℕ). z % b) (turned (a / b) b (a % b) k)
    ∙ add-mul-mod_self_right (a % b * k) (a / b * k) b)

join : (p q : ℕ) → q ≤ p → p - q + q ≡ p
join p q h = omega arith

pub power_split : (a p q : ℕ) → q ≤ p → a * 2 ^ p ≡ a * 2 ^ (p - q) * 2 ^ q
power_split a p q h = ap (λ (z : ℕ). a * 2 ^ z) (sym (join p q h)) ∙ ap (λ (z : ℕ). a * z) (pow-add 2 (p - q) q) ∙ sym (mul_assoc a (2 ^ (p - q)) (2 ^ q))

-- digits of y: x * y from the product with those above
pub product_digits : (x y b : ℕ) → (x * (y / 1024) % b * 1024 + x * (y % 1024)) % b ≡ x * y % b
product_digits x y b =
    let u = x * (y / 1024) in
    let v = x * (y % 1024) in
    sym (ap (λ (z : ℕ). (z * 1024 + v) % b) (sym (div-add-mod' u b)) ∙ ap (λ (z : ℕ). z % b) (apart (u / b) (u % b)) ∙ add-mul-mod_self_right (u % b * 1024 + v) (u / b * 1024) b)
    ∙ ap (λ (z : ℕ). z % b) (ap (λ (z : ℕ). z + v) (mul_assoc x (y / 1024) 1024) ∙ sym (mul-add x (y / 1024 * 1024) (y % 1024)) ∙ ap (λ (z : ℕ). x * z) (div-add-mod' y 1024))
  where
    apart : (q r : ℕ) → (q * b + r) * 1024 + x * (y % 1024) ≡ r * 1024 + x * (y % 1024) + q * 1024 * b
    apart q r = omega arith

pub factor_mod : (x y b : ℕ) → x * (y % b) % b ≡ x * y % b
factor_mod x y b = ap (λ (z : ℕ). z % b) (mul_comm x (y % b)) ∙ mod_shift y b x ∙ ap (λ (z : ℕ). z % b) (mul_comm y x)

-- 2 ^ k from half of it
pub square : (h k b : ℕ) → h ≡ 2 ^ (k / 2) % b → h * (h * 2 ^ (k % 2)) % b ≡ 2 ^ k % b
square h k b e =
    let p = 2 ^ (k / 2) in
    let c = 2 ^ (k % 2) in
    ap (λ (z : ℕ). z * (z * c) % b) e
    ∙ mod_shift p b (p % b * c)
    ∙ ap (λ (z : ℕ). z % b) (mul_left_comm p (p % b) c)
    ∙ mod_shift p b (p * c)
    ∙ ap (λ (z : ℕ). z % b) (ap (λ (z : ℕ). p * z) (sym (pow-add 2 (k / 2) (k % 2))) ∙ sym (pow-add 2 (k / 2) (k / 2 + k % 2)) ∙ ap (λ (z : ℕ). 2 ^ z) (halves k))
  where
    halves : (k : ℕ) → k / 2 + (k / 2 + k % 2) ≡ k
    halves k = omega arith

pub powers : (a b p q : ℕ) → 0 < b → q ≤ p → a * 2 ^ p % (b * 2 ^ q) ≡ a * 2 ^ (p - q) % b * 2 ^ q
powers a b p q B h = ap (λ (z : ℕ). z % (b * 2 ^ q)) (power_split a p q h) ∙ mod_scale (a * 2 ^ (p - q)) b (2 ^ q) B (pow_pos q)

more : (p q : ℕ) → p < q → 53 + p ≤ 52 + q
more p q h = omega arith

-- a smaller exponent is less, beside one with its leading digit
pub below : (a b p q : ℕ) → a < 2 ^ 53 → 2 ^ 52 ≤ b → p < q → a * 2 ^ p < b * 2 ^ q
below a b p q A B h =
    lt_of_lt_of_le (shl_lt 53 p A)
    (le_trans (pow_mono (more p q h)) (subst⁻¹ (λ (z : ℕ). z ≤ b * 2 ^ q) (pow-add 2 52 q) (mul-le-mul_right (2 ^ q) B)))

-- ---- floats by their value

room : (p : ℕ) → p < 2046 → 53 + p ≤ 2098
room p h = omega arith

pub rounds_to_itself : (x : Float) (s : Bool) (m e : ℕ) → T (fits binary64 x) → PartsOf x s m e → round binary64 s (m * 2 ^ e) (2 ^ 1074) ≡ x
rounds_to_itself x s m e F p =
    same_value (round binary64 s (m * 2 ^ e) (2 ^ 1074)) x s (m * 2 ^ e) (2 ^ 1074) (pow_pos 1074) (round-fits binary64 s (m * 2 ^ e) (2 ^ 1074)) F
    (round_exact binary64 s (m * 2 ^ e) (2 ^ 1074) m e (pow_pos 1074) p.digits (lt_of_lt_of_le (shl_lt 53 e p.digits) (pow_mono (room e p.exponent))) refl)
    p.value

-- a * b, each as a fraction
pub product : (x y : Float) (a c b d : ℕ) → 0 < c → 0 < d → HasValue x false a c → HasValue y false b d → mul binary64 x y ≡ round binary64 false (a * b) (c * d)
unfolding mul
product nan y a c b d C D v w = absurd v
product (inf s) y a c b d C D v w = absurd v
product (fin true m e) y a c b d C D v w = absurd (true≢false v.0)
product (fin false m e) nan a c b d C D v w = absurd w
product (fin false m e) (inf t) a c b d C D v w = absurd w
product (fin false m e) (fin true n g) a c b d C D v w = absurd (true≢false w.0)
product (fin false m e) (fin false n g) a c b d C D v w =
    round_same binary64 false (m * up e * (n * up g)) (down e * down g) (a * b) (c * d) (mul-pos (down_pos e) (down_pos g)) (mul-pos C D)
    (crossed (m * up e) (n * up g) (down e) (down g) v.1 w.1)
  where
    crossed : (x y p q : ℕ) → x * c ≡ a * p → y * d ≡ b * q → x * y * (c * d) ≡ a * b * (p * q)
    crossed x y p q h k = omega (arith, ap (λ (z : ℕ). z * (y * d)) h, ap (λ (z : ℕ). a * p * z) k)

positive_part : (x y : ℕ) → 0 < x * y → 0 < x
positive_part zero y h = absurd (lt_irrefl 0 (subst (λ (z : ℕ). 0 < z) (zero-mul y) h))
positive_part (suc x) y h = zero-lt-suc x

-- the remainder of floats of a and b units, b above 0, is that of a by b
pub rem_units : (x y : Float) (s t : Bool) (a b : ℕ) → 0 < b → HasValue x s a (2 ^ 1074) → HasValue y t b (2 ^ 1074) → rem binary64 x y ≡ round binary64 s (a % b) (2 ^ 1074)
unfolding rem
rem_units nan y s t a b B v w = absurd v
rem_units (inf _) y s t a b B v w = absurd v
rem_units (fin _ m e) nan s t a b B v w = absurd w
rem_units (fin _ m e) (inf _) s t a b B v w = absurd w
rem_units (fin u m e) (fin _ n g) s t a b B v w =
    ap (λ (z : Bool). cond z nan (round binary64 u (m * up e * down g % (n * up g * down e)) (down e * down g))) (no_zero n (positive_part n (up g) N))
    ∙ ap (λ (z : Bool). round binary64 z (m * up e * down g % (n * up g * down e)) (down e * down g)) v.0
    ∙ round_same binary64 s (m * up e * down g % (n * up g * down e)) (down e * down g) (a % b) (2 ^ 1074) (mul-pos (down_pos e) (down_pos g)) (pow_pos 1074)
    (crossed (m * up e) (n * up g) (down e) (down g) (2 ^ 1074) (pow_pos 1074) (down_pos e) (down_pos g) N v.1 w.1)
  where
    N : 0 < n * up g
    N = positive_part (n * up g) (2 ^ 1074) (subst⁻¹ (λ (z : ℕ). 0 < z) w.1 (mul-pos B (down_pos g)))

    no_zero : (n : ℕ) → 0 < n → eqb n 0 ≡ false
    no_zero n h = is_false (eqb n 0) (not_T (eqb n 0) (λ k. lt_irrefl 0 (subst (λ (z : ℕ). 0 < z) (eqb→eq n 0 k) h)))

    crossed : (x y p q l : ℕ) → 0 < l → 0 < p → 0 < q → 0 < y → x * l ≡ a * p → y * l ≡ b * q → x * q % (y * p) * l ≡ a % b * (p * q)
    crossed x y p q l L P Q Y h k =
        sym (mod_scale (x * q) (y * p) l (mul-pos Y P) L)
        ∙ ap (λ (z : ℕ). z % (y * p * l)) (mul_right_comm x q l ∙ ap (λ (z : ℕ). z * q) h ∙ mul_assoc a p q)
        ∙ ap (λ (z : ℕ). a * (p * q) % z) (mul_right_comm y p l ∙ ap (λ (z : ℕ). z * p) k ∙ mul_assoc b q p ∙ ap (λ (z : ℕ). b * z) (mul_comm q p))
        ∙ mod_scale a b (p * q) B (mul-pos P Q)

-- by a zero
pub rem_zero : (x y : Float) (s t : Bool) (a : ℕ) → HasValue x s a (2 ^ 1074) → HasValue y t 0 (2 ^ 1074) → rem binary64 x y ≡ nan
unfolding rem
rem_zero nan y s t a v w = absurd v
rem_zero (inf _) y s t a v w = absurd v
rem_zero (fin _ m e) nan s t a v w = absurd w
rem_zero (fin _ m e) (inf _) s t a v w = absurd w
rem_zero (fin u m e) (fin _ zero g) s t a v w = refl
rem_zero (fin u m e) (fin _ (suc n) g) s t a v w =
    absurd (lt_irrefl 0 (subst (λ (z : ℕ). 0 < z) (w.1 ∙ zero-mul (down g)) (mul-pos (mul-pos (zero-lt-suc n) (up_pos g)) (pow_pos 1074))))

-- ---- floats by their fields

small_digits : (t : ℕ) → t < 2 ^ 52 → t < 2 ^ 53
small_digits t h = omega arith

lead_digits : (t : ℕ) → t < 2 ^ 52 → 2 ^ 52 + t < 2 ^ 53
lead_digits t h = omega arith

low_parts : (s : Bool) (t : ℕ) → t < 2 ^ 52 → PartsOf (of_fields binary64 s 0 t) s t 0
unfolding of_fields
low_parts s t h = record { value = odd_sign 53 s t 0 1074; digits = small_digits t h; leading = λ z. absurd (lt_irrefl 0 z); exponent = lit< tt }

field_exponent : (f : ℕ) → suc f < 2048 → (suc f ≡ 2047 → ⊥) → f < 2046
field_exponent f h k = omega arith

high_parts : (s : Bool) (f t : ℕ) → suc f < 2048 → t < 2 ^ 52 → finite_of (of_fields binary64 s (suc f) t) ≡ true → PartsOf (of_fields binary64 s (suc f) t) s (2 ^ 52 + t) f
unfolding of_fields finite_of
high_parts s f t F H = go (eqb (suc f) 2047) (eqb→eq (suc f) 2047) (λ k. eq→eqb k)
  where
    special : (b : Bool) → finite_of (cond b (inf s) nan) ≡ true → ⊥
    special true h = false≢true h
    special false h = false≢true h

    go : (b : Bool) → (T b → suc f ≡ 2047) → (suc f ≡ 2047 → T b) → finite_of (cond b (cond (eqb t 0) (inf s) nan) (odd 53 s (2 ^ 52 + t) f 1074)) ≡ true
        → PartsOf (cond b (cond (eqb t 0) (inf s) nan) (odd 53 s (2 ^ 52 + t) f 1074)) s (2 ^ 52 + t) f
    go true l k h = absurd (special (eqb t 0) h)
    go false l k h = record { value = odd_sign 53 s (2 ^ 52 + t) f 1074; digits = lead_digits t H; leading = λ z. le-add_right (2 ^ 52) t; exponent = field_exponent f F k }

pub parts_low : (x : Float) → T (fits binary64 x) → (n : ℕ) → n ≡ bits_of x → n % 2 ^ 63 / 2 ^ 52 ≡ 0 → PartsOf x (leb (2 ^ 63) n) (n % 2 ^ 52) 0
parts_low x F n h z =
    subst⁻¹ (λ (y : Float). PartsOf y (leb (2 ^ 63) n) (n % 2 ^ 52) 0) (fields_of x F n h ∙ ap (λ (f : ℕ). of_fields binary64 (leb (2 ^ 63) n) f (n % 2 ^ 52)) z)
    (low_parts (leb (2 ^ 63) n) (n % 2 ^ 52) (mod-lt n (pow_pos 52)))

pub parts_high :
    (x : Float) →
    T (fits binary64 x) →
    finite_of x ≡ true →
    (n : ℕ) →
    n ≡ bits_of x →
    (n % 2 ^ 63 / 2 ^ 52 ≡ 0 → ⊥) →
    PartsOf x (leb (2 ^ 63) n) (2 ^ 52 + n % 2 ^ 52) (n % 2 ^ 63 / 2 ^ 52 - 1)
parts_high x F G n h z =
    let f = n % 2 ^ 63 / 2 ^ 52 - 1 in
    let field : n % 2 ^ 63 / 2 ^ 52 ≡ suc f = omega arith in
    let small : suc f < 2048 = omega arith in
    let e : x ≡ of_fields binary64 (leb (2 ^ 63) n) (suc f) (n % 2 ^ 52) = fields_of x F n h ∙ ap (λ (g : ℕ). of_fields binary64 (leb (2 ^ 63) n) g (n % 2 ^ 52)) field in
    subst⁻¹ (λ (y : Float). PartsOf y (leb (2 ^ 63) n) (2 ^ 52 + n % 2 ^ 52) f) e
    (high_parts (leb (2 ^ 63) n) f (n % 2 ^ 52) small (mod-lt n (pow_pos 52)) (sym (ap finite_of e) ∙ G))

-- every finite f64 has parts
pub record HasParts (x : Float) : Type 0 where
  pub negative : Bool
  pub significand : ℕ
  pub exponent : ℕ
  pub parts : PartsOf x negative significand exponent

pub has_parts : (x : Float) → T (fits binary64 x) → finite_of x ≡ true → HasParts x
has_parts x F G = let n = bits_of x in elim (ℕ_discrete (n % 2 ^ 63 / 2 ^ 52) 0) [
  | yes z ↦ record { negative = leb (2 ^ 63) n; significand = n % 2 ^ 52; exponent = 0; parts = parts_low x F n refl z }
  | no z ↦ record { negative = leb (2 ^ 63) n; significand = 2 ^ 52 + n % 2 ^ 52; exponent = n % 2 ^ 63 / 2 ^ 52 - 1; parts = parts_high x F G n refl z }
]

-- what bits without a sign are read as
read : (f t : ℕ) → f < 2 ^ 11 → t < 2 ^ 52 → of_bits binary64 (f * 2 ^ 52 + t) ≡ of_fields binary64 false f t
unfolding of_bits
read f t F H =
    let n = f * 2 ^ 52 + t in
    let small : n < 2 ^ 63 = omega arith in
    ap (λ (b : Bool). of_fields binary64 b (n % 2 ^ 63 / 2 ^ 52) (n % 2 ^ 52)) (is_false (leb (2 ^ 63) n) (lt→nleb (2 ^ 63) n small))
    ∙ ap (λ (z : ℕ). of_fields binary64 false (z / 2 ^ 52) (n % 2 ^ 52)) (mod-eq_of_lt small)
    ∙ ap (λ (z : ℕ). of_fields binary64 false z (n % 2 ^ 52)) (digits_div f H)
    ∙ ap (λ (z : ℕ). of_fields binary64 false f z) (digits_mod f H)

pub read_low : (e : ℕ) → e < 52 → HasValue (of_bits binary64 (2 ^ e)) false (2 ^ e) (2 ^ 1074)
read_low e h =
    subst⁻¹ (λ (z : Float). HasValue z false (2 ^ e) (2 ^ 1074)) (ap (of_bits binary64) (sym (zero-add (2 ^ e))) ∙ read 0 (2 ^ e) (lit< tt) (pow-lt h))
    (subst (λ (z : ℕ). HasValue (of_fields binary64 false 0 (2 ^ e)) false z (2 ^ 1074)) (mul-one (2 ^ e)) (low_parts false (2 ^ e) (pow-lt h)).value)

normal : (f t : ℕ) → suc f < 2047 → of_fields binary64 false (suc f) t ≡ odd 53 false (2 ^ 52 + t) f 1074
unfolding of_fields
normal f t h = cond_no (eqb (suc f) 2047) (cond (eqb t 0) (inf false) nan) (odd 53 false (2 ^ 52 + t) f 1074) (not_T (eqb (suc f) 2047) (λ k. lt_irrefl 2047 (subst (λ (z : ℕ). z < 2047) (eqb→eq (suc f) 2047 k) h)))

pub read_normal : (f t : ℕ) → suc f < 2047 → t < 2 ^ 52 → HasValue (of_bits binary64 (suc f * 2 ^ 52 + t)) false ((2 ^ 52 + t) * 2 ^ f) (2 ^ 1074)
read_normal f t h H = subst⁻¹ (λ (z : Float). HasValue z false ((2 ^ 52 + t) * 2 ^ f) (2 ^ 1074)) (read (suc f) t (omega arith) H ∙ normal f t h) (odd_sign 53 false (2 ^ 52 + t) f 1074)

pub read_high : (e : ℕ) → 52 ≤ e → e < 2046 → HasValue (of_bits binary64 ((e - 51) * 2 ^ 52)) false (2 ^ e) (2 ^ 1074)
read_high e l h =
    subst (λ (z : ℕ). HasValue (of_bits binary64 ((z - 51) * 2 ^ 52)) false (2 ^ z) (2 ^ 1074)) (rest e l)
    (subst⁻¹ (λ (z : ℕ). HasValue (of_bits binary64 (z * 2 ^ 52)) false (2 ^ (52 + (e - 52))) (2 ^ 1074)) (next (e - 52))
    (subst (λ (z : ℕ). HasValue (of_bits binary64 z) false (2 ^ (52 + (e - 52))) (2 ^ 1074)) (add-zero (suc (e - 52) * 2 ^ 52))
    (subst⁻¹ (λ (z : ℕ). HasValue (of_bits binary64 (suc (e - 52) * 2 ^ 52 + 0)) false z (2 ^ 1074)) (pow-add 2 52 (e - 52)) (read_normal (e - 52) 0 (omega arith) (lit< tt)))))
  where
    rest : (e : ℕ) → 52 ≤ e → 52 + (e - 52) ≡ e
    rest e h = omega arith

    next : (f : ℕ) → 52 + f - 51 ≡ suc f
    next f = omega arith

-- ---- the remainder of finite floats

pub rem_below : (x y : Float) (s t : Bool) (m e n g : ℕ) → T (fits binary64 x) → PartsOf x s m e → PartsOf y t n g → e < g → x ≡ rem binary64 x y
rem_below x y s t m e n g F p q h =
    let leading : 2 ^ 52 ≤ n = q.leading (omega arith) in
    let small : m * 2 ^ e < n * 2 ^ g = below m n e g p.digits leading h in
    sym
    (rem_units x y s t (m * 2 ^ e) (n * 2 ^ g) (mul-pos (lt_of_lt_of_le (pow_pos 52) leading) (pow_pos g)) p.value q.value
    ∙ ap (λ (z : ℕ). round binary64 s z (2 ^ 1074)) (mod-eq_of_lt small)
    ∙ rounds_to_itself x s m e F p)

-- r is the whole numbers' remainder, v its float, which takes x's sign
module _
    (x y : Float) (s t : Bool) (m e n g r : ℕ) (v : Float)
    (p : PartsOf x s m e)
    (q : PartsOf y t n g)
    (N : n ≡ 0 → ⊥)
    (G : g ≤ e)
    (R : r ≡ m * 2 ^ (e - g) % n)
    (W : v ≡ round binary64 false (r * 2 ^ g) (2 ^ 1074)) where
  by_units : round binary64 s (r * 2 ^ g) (2 ^ 1074) ≡ rem binary64 x y
  by_units =
      let positive : 0 < n = omega arith in
      ap (λ (z : ℕ). round binary64 s (z * 2 ^ g) (2 ^ 1074)) R
      ∙ sym
      (rem_units x y s t (m * 2 ^ e) (n * 2 ^ g) (mul-pos positive (pow_pos g)) p.value q.value
      ∙ ap (λ (z : ℕ). round binary64 s z (2 ^ 1074)) (powers m n e g positive G))

  pub rem_positive : s ≡ false → v ≡ rem binary64 x y
  rem_positive S = W ∙ ap (λ (b : Bool). round binary64 b (r * 2 ^ g) (2 ^ 1074)) (sym S) ∙ by_units

  pub rem_negative : s ≡ true → neg v ≡ rem binary64 x y
  rem_negative S = ap neg W ∙ neg_round binary64 false (r * 2 ^ g) (2 ^ 1074) ∙ ap (λ (b : Bool). round binary64 b (r * 2 ^ g) (2 ^ 1074)) (sym S) ∙ by_units

pub rem_by_zero : (x y : Float) (s t : Bool) (m e n g : ℕ) → PartsOf x s m e → PartsOf y t n g → n ≡ 0 → nan ≡ rem binary64 x y
rem_by_zero x y s t m e n g p q z =
    sym (rem_zero x y s t (m * 2 ^ e) p.value (subst (λ (k : ℕ). HasValue y t k (2 ^ 1074)) (ap (λ (k : ℕ). k * 2 ^ g) z ∙ zero-mul (2 ^ g)) q.value))
