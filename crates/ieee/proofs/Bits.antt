-- The bits of a float and its value determine each other, all NaNs being one.
use Rattle.std.proofs.Common.{◌≡◌, ℕ, ◌+◌, ◌-◌, ◌*◌, ◌/◌, ◌%◌, ◌^◌, ◌<◌, Bool, false, cond, not, T, leb, sym, refl, ap, ◌∙◌, subst, mul_right_comm}
use mathlib.Core.Path.{subst⁻¹}
use lib.Ieee.{Float, nan, inf, fin, binary64, low, up, down, size, fits, is_nan, of_fields, of_bits, to_bits}
use lib.Ieee.Bits.{of_bits-to_bits, to_bits-of_bits, to_bits-lt}
use lib.Ieee.Exact.{HasValue}
use lib.Ieee.Fits.{down_pos}
use lib.Ieee.Nearest.{div_same}
use Rattle.ieee.specs.Bits.{bits_of}

pub bits_ieee : (x : Float) → bits_of x ≡ to_bits binary64 x
unfolding bits_of is_nan to_bits
bits_ieee nan = refl
bits_ieee (inf s) = refl
bits_ieee (fin s m e) = refl

pub bits_of_lt : (x : Float) → T (fits binary64 x) → bits_of x < 2 ^ 64
bits_of_lt x h = subst⁻¹ (λ (n : ℕ). n < 2 ^ 64) (bits_ieee x) (to_bits-lt binary64 x h)

pub of_bits_bits_of : (x : Float) → T (fits binary64 x) → of_bits binary64 (bits_of x) ≡ x
of_bits_bits_of x h = ap (of_bits binary64) (bits_ieee x) ∙ of_bits-to_bits binary64 x h

-- a float that was read and is no NaN has the bits that it was read from
pub bits_of_of_bits : {x : Float} (n : ℕ) → n < 2 ^ 64 → x ≡ of_bits binary64 n → is_nan x ≡ false → bits_of x ≡ n
bits_of_of_bits n h e k =
    ap bits_of e ∙ bits_ieee (of_bits binary64 n) ∙ to_bits-of_bits binary64 n h (subst (λ (b : Bool). T (not b)) (sym k ∙ ap is_nan e) tt)

-- the fields of a float's bits
pub fields_of : (x : Float) → T (fits binary64 x) → (n : ℕ) → n ≡ bits_of x → x ≡ of_fields binary64 (leb (2 ^ 63) n) (n % 2 ^ 63 / 2 ^ 52) (n % 2 ^ 52)
unfolding of_bits
fields_of x F n h = sym (of_bits_bits_of x F) ∙ ap (of_bits binary64) (sym h)

-- ---- The float of a sign and a size

-- the bits of the sign s and n units of the smallest value
abbrev bits : Bool → ℕ → ℕ
bits s n = cond s (2 ^ 63) 0 + (size n - 53) * 2 ^ 52 + n / 2 ^ (size n - 53)

bits_of_lem : (x : Float) (s : Bool) (a c : ℕ) → 0 < c → HasValue x s a c → to_bits binary64 x ≡ bits s (a * 2 ^ low binary64 / c)
unfolding to_bits
bits_of_lem nan s a c C v = absurd v
bits_of_lem (inf t) s a c C v = absurd v
bits_of_lem (fin t m e) s a c C v =
    ap (bits t)
    (div_same (m * up e * 2 ^ low binary64) (down e) (a * 2 ^ low binary64) c (down_pos e) C
    (mul_right_comm (m * up e) (2 ^ low binary64) c ∙ ap (λ (z : ℕ). z * 2 ^ low binary64) v.1 ∙ mul_right_comm a (down e) (2 ^ low binary64)))
    ∙ ap (λ (b : Bool). bits b (a * 2 ^ low binary64 / c)) v.0

-- sign and size determine a float
pub same_value : (x y : Float) (s : Bool) (a c : ℕ) → 0 < c → T (fits binary64 x) → T (fits binary64 y) → HasValue x s a c → HasValue y s a c → x ≡ y
same_value x y s a c C F G v w =
    sym (of_bits-to_bits binary64 x F) ∙ ap (of_bits binary64) (bits_of_lem x s a c C v ∙ sym (bits_of_lem y s a c C w)) ∙ of_bits-to_bits binary64 y G
