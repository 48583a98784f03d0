-- `extended::abs_float` meets its contract.
use mathlib.Core.Path.{◌≡◌, refl, sym, ◌∙◌}
use mathlib.Core.Bool.{true, false, cond}
use lib.Ieee.{Float, nan, inf, fin, neg}
use Rattle.ieee.specs.Signs.{is_sign_minus}
use Rattle.extended.specs.Extended.{abs_float}
use Rattle.extended.proofs.abs_float.Goals as goal

absolute : (x : Float) → cond (is_sign_minus x) (neg x) x ≡ abs_float x
unfolding neg
absolute nan = refl
absolute (inf true) = refl
absolute (inf false) = refl
absolute (fin true m e) = refl
absolute (fin false m e) = refl

pub returns-then-is_sign_negative : goal.returns-then-is_sign_negative
returns-then-is_sign_negative c = rw (sym c.is_sign_negative.ensures ∙ c.if-is_sign_negative.true) at (absolute c.args.x)

pub returns-else-is_sign_negative : goal.returns-else-is_sign_negative
returns-else-is_sign_negative c = rw (sym c.is_sign_negative.ensures ∙ c.if-is_sign_negative.false) at (absolute c.args.x)
