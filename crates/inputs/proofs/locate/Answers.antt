-- `inputs::locate` meets its contract.
use mathlib.Core.Path.{refl, ◌∙◌}
use Rattle.model.specs.Inputs.{property}
use Rattle.model.specs.declared.Resolved.{Resolved}
use Rattle.inputs.proofs.Ports.{wired, few, data_port, single_port}
use Rattle.inputs.proofs.Chains.{port_says, resolve_none, resolve_many}
use Rattle.inputs.proofs.Conditions.{has_input}
use Rattle.inputs.proofs.Locations.{same_input, same_lookup, finds, finds_none}
use Rattle.inputs.proofs.locate.Goals as goal

pub locate_source-requires : goal.locate_source-requires
locate_source-requires c =
    let p = c.requires in
    (port_says (wired p.0) _ _ (few p.0 p.1) p.2 c.feeds_of.ensures c.in-One.is).0

pub returns-in-None : goal.returns-in-None
unfolding property
returns-in-None c =
    let p = c.requires in
    let s = port_says (wired p.0) _ _ (few p.0 p.1) p.2 c.feeds_of.ensures c.in-None.is in
    finds (same_input (data_port p.0 _ _ _ Resolved.Unwired _ (resolve_none _ s) refl ∙ has_input _ c.if-has.true) (c.locate_property.ensures _))

pub returns-in-One : goal.returns-in-One
returns-in-One c =
    let p = c.requires in
    let s = port_says (wired p.0) _ _ (few p.0 p.1) p.2 c.feeds_of.ensures c.in-One.is in
    same_lookup (single_port p.0 _ _ _ s.1 ∙ has_input _ c.if-has.true) (c.locate_source.ensures _)

pub returns-in-Many : goal.returns-in-Many
returns-in-Many c =
    let p = c.requires in
    let s = port_says (wired p.0) _ _ (few p.0 p.1) p.2 c.feeds_of.ensures c.in-Many.is in
    same_lookup (data_port p.0 _ _ _ Resolved.Unresolved _ (resolve_many _ s) refl ∙ has_input _ c.if-has.true) (finds_none refl)
