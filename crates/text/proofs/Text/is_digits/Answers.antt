-- `text::Text::is_digits` meets its contract.
use native.Mathlib.Omega.{arith}
use mathlib.Core.Path.{◌∙◌}
use Rattle.text.proofs.Digits.{begin, next, all, too_long}
use Rattle.text.proofs.Text.is_digits.Goals as goal

pub loop-rest-init : goal.loop-rest-init
loop-rest-init c = begin _

pub returns-then-digits-ge-TOP : goal.returns-then-digits-ge-TOP
returns-then-digits-ge-TOP c = too_long _ _ _ _ _ _ (omega arith) (omega arith) c.loop-rest-test.true c.if-digits-ge-TOP.true c.loop-rest.invariant

pub loop-rest-preserved : goal.loop-rest-preserved
loop-rest-preserved c = next _ _ _ _ c.loop-rest-test.true c.if-digits-ge-TOP.false c.loop-rest.invariant

pub returns : goal.returns
returns c = c.eq.ensures ∙ all _ _ _ _ _ _ (omega arith) (omega arith) c.loop-rest-test.false c.loop-rest.invariant
