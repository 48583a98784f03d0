-- `text::Text::is_negated` meets its contract.
use native.Mathlib.Omega.{arith}
use mathlib.Core.Path.{◌∙◌}
use Rattle.text.proofs.Digits.{no_minus, after_minus}
use Rattle.text.proofs.Text.is_negated.Goals as goal

pub returns-then-self-ne-MINUS_SIGN : goal.returns-then-self-ne-MINUS_SIGN
returns-then-self-ne-MINUS_SIGN c = no_minus _ _ _ (omega arith) (omega arith) c.if-self-ne-MINUS_SIGN.true

pub returns : goal.returns
returns c = c.is_digits.ensures ∙ after_minus _ _ _ (omega arith) (omega arith) c.if-self-ne-MINUS_SIGN.false
