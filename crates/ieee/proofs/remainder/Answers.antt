-- `ieee::remainder` meets its contract.
use Rattle.std.proofs.Common.{◌≡◌, true, false, sym, refl, ◌∙◌, true≢false}
use mathlib.Core.Bool.{false≢true}
use lib.Ieee.{Float, nan, inf, fin, binary64, of_bits, rem, is_nan}
use Rattle.ieee.specs.Finite.{finite_of}
use Rattle.ieee.proofs.remainder.Goals as goal

of_special : (x y : Float) → finite_of x ≡ false → of_bits binary64 0x7ff8_0000_0000_0000 ≡ rem binary64 x y
unfolding finite_of rem of_bits
of_special nan y h = refl
of_special (inf s) y h = refl
of_special (fin s m e) y h = absurd (true≢false h)

by_nan : (x y : Float) → finite_of x ≡ true → is_nan y ≡ true → y ≡ rem binary64 x y
unfolding finite_of is_nan rem
by_nan nan y h e = absurd (false≢true h)
by_nan (inf s) y h e = absurd (false≢true h)
by_nan (fin s m d) nan h e = refl
by_nan (fin s m d) (inf t) h e = absurd (false≢true e)
by_nan (fin s m d) (fin t n g) h e = absurd (false≢true e)

by_infinity : (x y : Float) → finite_of x ≡ true → finite_of y ≡ false → is_nan y ≡ false → x ≡ rem binary64 x y
unfolding finite_of is_nan rem
by_infinity nan y h k e = absurd (false≢true h)
by_infinity (inf s) y h k e = absurd (false≢true h)
by_infinity (fin s m d) nan h k e = absurd (true≢false e)
by_infinity (fin s m d) (inf t) h k e = refl
by_infinity (fin s m d) (fin t n g) h k e = absurd (true≢false k)

pub returns-then-not-is_finite : goal.returns-then-not-is_finite
returns-then-not-is_finite c = of_special _ _ (sym c.is_finite.ensures ∙ c.if-not-is_finite.true)

pub returns-then-is_nan : goal.returns-then-is_nan
returns-then-is_nan c = by_nan _ _ (sym c.is_finite.ensures ∙ c.if-not-is_finite.false) (sym c.is_nan.ensures.value ∙ c.if-is_nan.true)

pub returns-else-is_nan : goal.returns-else-is_nan
returns-else-is_nan c = by_infinity _ _ (sym c.is_finite.ensures ∙ c.if-not-is_finite.false) (sym c.is_finite-2.ensures ∙ c.if-is_finite.false) (sym c.is_nan.ensures.value ∙ c.if-is_nan.false)
