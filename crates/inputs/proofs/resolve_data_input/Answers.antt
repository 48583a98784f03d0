-- `inputs::resolve_data_input` meets its contract.
use mathlib.Core.Path.{refl, ◌∙◌}
use borrow.Author.Rules.{rules}
use Rattle.inputs.proofs.Ports.{data_port, keeps, property_by}
use Rattle.inputs.proofs.resolve_data_input.Goals as goal

pub returns-in_default : goal.returns-in_default
returns-in_default c = keeps c.resolve_input-input.result (search rules) _ ∙ data_port c.requires.0 _ _ _ _ _ c.resolve_input-input.ensures refl

pub returns-in_default-get : goal.returns-in_default-get
returns-in_default-get c =
    property_by c.get.result (rw c.in_default-get.is refl)
    ∙ rw (← c.in-Unwired.is) (data_port c.requires.0 _ _ _ _ _ c.resolve_input-input.ensures c.get.ensures)

pub returns : goal.returns
returns c =
    property_by c.get.result (rw c.in-Some.is refl)
    ∙ rw (← c.in-Unwired.is) (data_port c.requires.0 _ _ _ _ _ c.resolve_input-input.ensures c.get.ensures)
