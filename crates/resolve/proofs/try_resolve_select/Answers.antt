-- `resolve::try_resolve_select` meets its contract.
use mathlib.Core.Path.{refl}
use borrow.Author.Rules.{rules}
use Rattle.inputs.proofs.Ports.{wired, few}
use Rattle.inputs.proofs.Chains.{port_says}
use Rattle.resolve.proofs.Trials.{inputs, no_select, not_single, short_circuits, short_circuits_known}
use Rattle.resolve.proofs.try_resolve_select.Goals as goal

pub returns-in_default : goal.returns-in_default
returns-in_default c = no_select _ _ _ c.resolve_condition.ensures c.in_default.is

pub returns-in_default-feeds_of : goal.returns-in_default-feeds_of
returns-in_default-feeds_of c =
    let p = c.requires in
    not_single _ _ _ c.resolve_condition.ensures c.in-Some.is c.chosen_port.ensures.0 c.feeds_of.result p.0.wires_part
    (port_says (wired (inputs p.0)) _ _ (few (inputs p.0) p.2) c.chosen_port.ensures.1 c.feeds_of.ensures refl) (search rules)

pub source_value-requires : goal.source_value-requires
source_value-requires c =
    let p = c.requires in
    (port_says (wired (inputs p.0)) _ _ (few (inputs p.0) p.2) c.chosen_port.ensures.1 c.feeds_of.ensures c.in-One.is).0

pub returns-in_default-source_value : goal.returns-in_default-source_value
returns-in_default-source_value c =
    let p = c.requires in
    short_circuits _ _ _ c.resolve_condition.ensures c.in-Some.is c.chosen_port.ensures.0 c.feeds_of.result p.0.wires_part
    (port_says (wired (inputs p.0)) _ _ (few (inputs p.0) p.2) c.chosen_port.ensures.1 c.feeds_of.ensures refl) c.in-One.is c.source_value.result c.source_value.ensures c.in_default-source_value.is

pub returns : goal.returns
returns c =
    let p = c.requires in
    short_circuits_known _ _ _ c.resolve_condition.ensures c.in-Some.is c.chosen_port.ensures.0 c.feeds_of.result p.0.wires_part
    (port_says (wired (inputs p.0)) _ _ (few (inputs p.0) p.2) c.chosen_port.ensures.1 c.feeds_of.ensures refl) c.in-One.is c.source_value.result c.source_value.ensures c.in-Some-source_value.is
