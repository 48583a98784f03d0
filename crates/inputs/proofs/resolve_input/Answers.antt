-- `inputs::resolve_input` meets its contract.
use mathlib.Core.Path.{refl}
use Rattle.inputs.proofs.Chains.{port_says, resolve_none, resolve_one, resolve_many}
use Rattle.inputs.proofs.Ports.{carried_by}
use Rattle.inputs.proofs.resolve_input.Goals as goal

pub source_value-requires : goal.source_value-requires
source_value-requires c =
    let p = c.requires in
    (port_says p.0 _ _ p.1 p.2 c.feeds_of.ensures c.in-One.is).0

pub returns-in-None : goal.returns-in-None
returns-in-None c =
    let p = c.requires in
    resolve_none _ (port_says p.0 _ _ p.1 p.2 c.feeds_of.ensures c.in-None.is)

pub returns-in_default : goal.returns-in_default
returns-in_default c =
    let p = c.requires in
    resolve_one _ c.source_value.result (port_says p.0 _ _ p.1 p.2 c.feeds_of.ensures c.in-One.is).1 c.source_value.ensures (carried_by _ (rw c.in_default.is refl))

pub returns-in-Some : goal.returns-in-Some
returns-in-Some c =
    let p = c.requires in
    resolve_one _ c.source_value.result (port_says p.0 _ _ p.1 p.2 c.feeds_of.ensures c.in-One.is).1 c.source_value.ensures (carried_by _ (rw c.in-Some.is refl))

pub returns-in-Many : goal.returns-in-Many
returns-in-Many c =
    let p = c.requires in
    resolve_many _ (port_says p.0 _ _ p.1 p.2 c.feeds_of.ensures c.in-Many.is)
