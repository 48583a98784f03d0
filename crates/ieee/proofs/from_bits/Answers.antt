-- `ieee::from_bits` meets its contract.
use Rattle.std.proofs.Common.{◌≡◌, ℕ, ◌≤◌, Bool, not, T, ltb, sym, refl, ap, ◌∙◌, subst, arith, lt→ltb}
use lib.Arith.{le→nltb}
use lib.Bits.{bit_and, and_mask}
use lib.Ieee.{Float, nan, inf, fin, binary64, of_bits, is_nan, nan_bits}
use lib.Ieee.Bits.{nan_bits_is, nan_bits_above}
use Rattle.ieee.proofs.Bits.{bits_of_of_bits}
use Rattle.ieee.proofs.from_bits.Goals as goal

-- the code's test
test : (n : ℕ) → ltb 0x7ff0_0000_0000_0000 (bit_and n 0x7fff_ffff_ffff_ffff) ≡ nan_bits binary64 n
test n = ap (ltb 0x7ff0_0000_0000_0000) (and_mask n 63) ∙ sym (nan_bits_above binary64 n)

no_nan : (n : ℕ) → bit_and n 0x7fff_ffff_ffff_ffff ≤ 0x7ff0_0000_0000_0000 → T (not (nan_bits binary64 n))
no_nan n h = subst (λ (b : Bool). T (not b)) (test n) (le→nltb _ _ h)

the_nan : (x : Float) → T (is_nan x) → of_bits binary64 0x7ff8_0000_0000_0000 ≡ x
unfolding is_nan of_bits
the_nan nan t = refl
the_nan (inf s) t = absurd t
the_nan (fin s m e) t = absurd t

pub float_from_bits-result : goal.float_from_bits-result
float_from_bits-result c = no_nan c.args.bits (omega (arith, c.if-bits-gt-INFINITY.false))

pub returns-then-bits-gt-INFINITY : goal.returns-then-bits-gt-INFINITY
returns-then-bits-gt-INFINITY c =
    let e = the_nan _ (subst T (test c.args.bits ∙ nan_bits_is binary64 c.args.bits) (lt→ltb _ _ c.if-bits-gt-INFINITY.true)) in
    record { value = e; back = bits_of_of_bits _ (omega arith) e }

pub returns-else-bits-gt-INFINITY : goal.returns-else-bits-gt-INFINITY
returns-else-bits-gt-INFINITY c = record { value = refl; back = bits_of_of_bits _ (omega arith) refl }
