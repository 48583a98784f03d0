-- `text::Text::is_decimal` meets its contract.
use lib.IntN.{ℤ, pos, nat_abs}
use lib.Signed.{lt_z}
use native.Mathlib.Omega.{arith}
use mathlib.Core.Path.{sym, ◌∙◌, ap}
use mir.Facts.{to_z-of_z}
use Rattle.text.proofs.Digits.{below_zero, zero_text_lem, above_zero}
use Rattle.text.proofs.Decimals.{told}
use Rattle.text.proofs.Text.is_decimal.Goals as goal

pub returns-then-n-lt0 : goal.returns-then-n-lt0
returns-then-n-lt0 c =
    let r = told c.args.self.low c.args.self.high c.args.n (c.is_negated.ensures ∙ below_zero _ _ _ (omega arith) (omega arith) _ (ap (λ (z : ℤ). lt_z z (pos 0)) (sym (to_z-of_z c.ranges.n)) ∙ c.if-n-lt0.true) (c.unsigned_abs-size.ensures.value ∙ ap nat_abs (to_z-of_z c.ranges.n))) in
    record { equal = r.0; plain = r.1.0; long = r.1.1 }

pub returns-then-size-eq0 : goal.returns-then-size-eq0
returns-then-size-eq0 c =
    let r = told c.args.self.low c.args.self.high c.args.n (c.eq.ensures ∙ zero_text_lem _ _ _ (omega arith) (omega arith) _ (ap (λ (z : ℤ). lt_z z (pos 0)) (sym (to_z-of_z c.ranges.n)) ∙ c.if-n-lt0.false) (c.unsigned_abs-size.ensures.value ∙ ap nat_abs (to_z-of_z c.ranges.n)) c.if-size-eq0.true) in
    record { equal = r.0; plain = r.1.0; long = r.1.1 }

pub returns : goal.returns
returns c =
    let r = told c.args.self.low c.args.self.high c.args.n (c.is_digits.ensures ∙ above_zero _ _ _ (omega arith) (omega arith) _ (ap (λ (z : ℤ). lt_z z (pos 0)) (sym (to_z-of_z c.ranges.n)) ∙ c.if-n-lt0.false) (c.unsigned_abs-size.ensures.value ∙ ap nat_abs (to_z-of_z c.ranges.n)) c.if-size-eq0.false) in
    record { equal = r.0; plain = r.1.0; long = r.1.1 }
