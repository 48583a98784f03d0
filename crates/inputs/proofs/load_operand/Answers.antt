-- `inputs::load_operand` meets its contract.
use mathlib.Core.Path.{sym, ◌∙◌}
use Rattle.model.specs.Inputs.{property}
use Rattle.inputs.proofs.Locations.{operand_is}
use Rattle.inputs.proofs.load_operand.Goals as goal

pub returns-in_default : goal.returns-in_default
unfolding property
returns-in_default c i l h = c.get.ensures ∙ sym (l.by_property c.in_default.is h ∙ operand_is _)
