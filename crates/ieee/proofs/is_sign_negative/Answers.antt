-- `ieee::is_sign_negative` meets its contract. A float is that of its fields, and the first of these is its sign.
use Rattle.std.proofs.Common.{◌≡◌, ℕ, zero, suc, ◌+◌, ◌/◌, ◌%◌, ◌^◌, Bool, true, false, cond, T, eqb, leb, sym, refl, ap, ◌∙◌}
use denote.Floats.{passes}
use lib.Ieee.{Float, nan, inf, fin, binary64, fits, is_nan, odd, of_fields, prec, low, hid, ones}
use Rattle.ieee.specs.Bits.{bits_of}
use Rattle.ieee.specs.Signs.{is_sign_minus}
use Rattle.ieee.proofs.Bits.{fields_of}
use Rattle.ieee.proofs.is_sign_negative.Goals as goal

digits : (d : ℕ) (s : Bool) (q k l : ℕ) → is_sign_minus (odd d s q k l) ≡ s
unfolding odd
digits d s zero k l = refl
digits d s (suc q) k l = refl

special : (s b z : Bool) (y : Float) → is_sign_minus y ≡ s → is_nan (cond b (cond z (inf s) nan) y) ≡ false → is_sign_minus (cond b (cond z (inf s) nan) y) ≡ s
unfolding is_nan
special s true true y h i = refl
special s true false y h i = cc
special s false z y h i = h

fields : (s : Bool) (e t : ℕ) → is_nan (of_fields binary64 s e t) ≡ false → is_sign_minus (of_fields binary64 s e t) ≡ s
unfolding of_fields
fields s zero t i = digits (prec binary64) s t 0 (low binary64)
fields s (suc e) t i =
    special s (eqb (suc e) (ones binary64)) (eqb t 0) _
    (digits (prec binary64) s (hid binary64 + t) e (low binary64)) i

of_number : (x : Float) (n : ℕ) → T (fits binary64 x) → n ≡ bits_of x → is_nan x ≡ false → leb (2 ^ 63) n ≡ is_sign_minus x
of_number x n F h i =
    let e = fields_of x F n h in
    sym (ap is_sign_minus e ∙ fields (leb (2 ^ 63) n) (n % 2 ^ 63 / 2 ^ 52) (n % 2 ^ 52) (sym (ap is_nan e) ∙ i))

sign_bit : (x : Float) (n : ℕ) → T (fits binary64 x) → n ≡ bits_of x → leb (2 ^ 63) n ≡ is_sign_minus x
unfolding bits_of is_nan
sign_bit nan n F h = ap (leb (2 ^ 63)) h
sign_bit (inf s) n F h = of_number (inf s) n F h refl
sign_bit (fin s m e) n F h = of_number (fin s m e) n F h refl

pub returns : goal.returns
returns c = sign_bit _ _ (passes _ c.well_formed.0.1) c.to_bits.ensures
