-- `text::Text::length_of` meets its contract.
use native.Mathlib.Omega.{arith}
use mathlib.Core.Path.{◌∙◌, ap}
use Prim.Native.Nat.{ℕ, ◌+◌}
use Rattle.text.proofs.Lengths.{one_word, two_words}
use Rattle.text.proofs.Text.length_of.Goals as goal

pub returns-then-self-eq0 : goal.returns-then-self-eq0
returns-then-self-eq0 c = c.word_length.ensures.0 ∙ one_word _ _ (omega arith) c.if-self-eq0.true

pub returns : goal.returns
returns c = ap (λ (k : ℕ). 8 + k) c.word_length-2.ensures.0 ∙ two_words _ _ (omega arith) c.if-self-eq0.false
