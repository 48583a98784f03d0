-- `encoding::values::read_value` meets its contract.
use native.Mathlib.Omega.{arith}
use mathlib.Core.Path.{◌∙◌, ap}
use Rattle.encoding.specs.Values.{value_size}
use Rattle.encoding.proofs.TextAgain.{text_read}
use Rattle.encoding.proofs.values.read_value.Goals as goal

pub returns : goal.returns
returns c = record {
  value = c.value_of.ensures ∙ c.read_words.ensures;
  text = λ t. text_read _ _ (λ i. omega (arith, c.type_inv.s i)) (omega (arith, c.requires.1, ap value_size t));
}
