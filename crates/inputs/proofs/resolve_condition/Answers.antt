-- `inputs::resolve_condition` meets its contract.
use native.Mathlib.Omega.{arith}
use mathlib.Core.Path.{ap, ◌∙◌}
use Rattle.conversions.specs.Conversions.{truthy_of}
use Rattle.inputs.proofs.Conditions.{has_cell_lem}
use Rattle.inputs.proofs.Locations.{few, condition_covered, condition_uncovered, condition_unresolved}
use Rattle.inputs.proofs.resolve_condition.Goals as goal

pub returns-in_default : goal.returns-in_default
returns-in_default c = condition_unresolved _ c.args.class _ (c.locate.ensures.unresolved c.in_default.is)

pub covers-requires : goal.covers-requires
covers-requires c = has_cell_lem {y = 0} {z = 0} c.requires.2 (few (c.locate.ensures.found _ c.in-Some.is)) (omega arith) (omega arith)

pub returns-then-covers : goal.returns-then-covers
returns-then-covers c =
    let f = c.locate.ensures.found _ c.in-Some.is in
    condition_covered _ _ f (c.covers.ensures.rows _ c.requires.1) c.if-covers.true (c.truthy.ensures ∙ ap truthy_of (c.operand_at-operand.ensures _ f))

pub returns-else-covers : goal.returns-else-covers
returns-else-covers c =
    let f = c.locate.ensures.found _ c.in-Some.is in
    condition_uncovered _ _ f (c.covers.ensures.rows _ c.requires.1) c.if-covers.false
