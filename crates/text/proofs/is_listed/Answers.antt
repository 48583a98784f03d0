-- `text::is_listed` meets its contract.
use borrow.Author.Tests.{lt-leb, le-leb}
use native.Mathlib.Omega.{arith}
use mathlib.Core.Path.{◌≡◌, refl, sym, ◌∙◌}
use Rattle.text.specs.Listed.{are_chars, is_listed_text}
use Rattle.text.proofs.Listed.{one_wrong, one_right}
use Rattle.text.proofs.is_listed.Goals as goal

pub returns-then-length-gt-MAX_LENGTH : goal.returns-then-length-gt-MAX_LENGTH
unfolding is_listed_text
returns-then-length-gt-MAX_LENGTH c = rw (← c.from-length.ensures, lt-leb _ _ c.if-length-gt-MAX_LENGTH.true)

pub loop-i-init : goal.loop-i-init
unfolding are_chars
loop-i-init c = refl

pub returns-then-not-is_char : goal.returns-then-not-is_char
unfolding is_listed_text
returns-then-not-is_char c = rw (← c.from-length.ensures, le-leb _ _ c.if-length-gt-MAX_LENGTH.false) (sym (one_wrong _ 16 c.loop-i.i _ _ (omega arith) (sym c.is_char.ensures ∙ c.if-not-is_char.true)))

pub loop-i-preserved : goal.loop-i-preserved
loop-i-preserved c = one_right _ _ _ _ c.loop-i.invariant (sym c.is_char.ensures ∙ c.if-not-is_char.false)

pub returns : goal.returns
unfolding is_listed_text
returns c = let e : c.loop-i.i ≡ 16 = omega arith in rw (← c.from-length.ensures, le-leb _ _ c.if-length-gt-MAX_LENGTH.false) (sym (rw e at c.loop-i.invariant))
