-- `ieee::is_finite` meets its contract.
use Rattle.std.proofs.Common.{◌≡◌, ◌*◌, Bool, true, false, pos, refl, ap, ◌∙◌, zero-lt-suc, mul-pos, mul-zero, zero-mul}
use lib.Ieee.{Float, nan, inf, fin, binary64, of_bits, round, mul, eq, unlike, up, down}
use lib.Ieee.Fits.{down_pos}
use lib.Ieee.Scale.{round_same}
use Rattle.ieee.specs.Finite.{finite_of}
use Rattle.ieee.proofs.is_finite.Goals as goal

test : (x : Float) → eq (mul binary64 x (of_bits binary64 0)) (of_bits binary64 0) ≡ finite_of x
unfolding eq mul of_bits finite_of
test nan = refl
test (inf s) = refl
test (fin s m e) =
    ap (λ (x : Float). eq x (fin false 0 (pos 0)))
    (round_same binary64 (unlike s false) (m * up e * 0) (down e * 1) 0 1 (mul-pos (down_pos e) (zero-lt-suc 0)) (zero-lt-suc 0) (simp (mul-zero, zero-mul)))
    ∙ either s
  where
    either : (s : Bool) → eq (round binary64 (unlike s false) 0 1) (fin false 0 (pos 0)) ≡ true
    either true = unfold round eq in refl
    either false = unfold round eq in refl

pub returns : goal.returns
returns c = test c.args.x
