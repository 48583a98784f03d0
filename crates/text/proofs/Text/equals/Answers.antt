-- `text::Text::equals` meets its contract.
use native.Mathlib.Omega.{arith}
use mathlib.Core.Path.{◌∙◌}
use Rattle.text.proofs.Texts.{same_text}
use Rattle.text.proofs.Text.equals.Goals as goal

pub returns : goal.returns
returns c = c.eq.ensures ∙ same_text _ _ _ _ (omega arith) (omega arith) (omega arith) (omega arith)
