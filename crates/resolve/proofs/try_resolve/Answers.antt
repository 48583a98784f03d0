-- `resolve::try_resolve` meets its contract.
use mathlib.Core.Path.{◌∙◌, ap}
use lib.ListN.{get_or}
use borrow.Author.Rules.{rules}
use Rattle.ir.specs.Classes.{has_rows}
use Rattle.inputs.proofs.Ports.{wired_port_lem}
use Rattle.model.specs.declared.Resolved.{Resolved}
use Rattle.model.specs.Offer.{value_offer}
use Rattle.model.specs.Inputs.{size, property}
use Rattle.model.specs.Own.{set_nothing}
use Rattle.resolve.specs.Gives.{microchip_offer}
use Rattle.resolve.proofs.Trials.{inputs, gate_rows, listed, gives, never_folded, never, literal, microchip, select, branch, any_gate}
use Rattle.resolve.proofs.GateValues.{by_inputs}
use Rattle.resolve.proofs.try_resolve.Goals as goal

pub node-node-requires : goal.node-node-requires
unfolding size
node-node-requires c = c.requires.1

pub returns-then-is_nofold : goal.returns-then-is_nofold
returns-then-is_nofold c =
    (never_folded _ _ _ _ c.requires.1 c.node-node.ensures c.is_nofold.ensures c.if-is_nofold.true, tt)

pub try_resolve_select-requires : goal.try_resolve_select-requires
try_resolve_select-requires c =
    let p = c.requires in
    (p.0, listed c.folding_of-folding.ensures (ap has_rows c.in-Select.is), p.1)

pub try_resolve_branch-requires : goal.try_resolve_branch-requires
try_resolve_branch-requires c =
    let p = c.requires in
    (p.0, listed c.folding_of-folding.ensures (ap has_rows c.in-Branch.is), p.1)

pub try_resolve_gate-requires : goal.try_resolve_gate-requires
try_resolve_gate-requires c =
    let p = c.requires in
    let f = c.folding_of-folding.result in
    (p.0, p.1, listed c.folding_of-folding.ensures (gate_rows f (search rules)))

pub returns-in-Never : goal.returns-in-Never
returns-in-Never c =
    (never _ _ _ _ c.requires.1 c.node-node.ensures c.is_nofold.ensures c.if-is_nofold.false c.folding_of-folding.ensures c.in-Never.is, tt)

pub returns-in-Literal : goal.returns-in-Literal
unfolding property
returns-in-Literal c =
    gives _ _ _ _ (c.try_resolve_literal.ensures _ _)
    (ap value_offer c.get.ensures
    ∙ literal _ _ _ _ c.requires.1 c.node-node.ensures c.is_nofold.ensures c.if-is_nofold.false c.folding_of-folding.ensures c.in-Literal.is)

pub returns-in-Microchip : goal.returns-in-Microchip
returns-in-Microchip c =
    gives _ _ _ _ (c.try_resolve_microchip.ensures _)
    (ap (λ (r : Resolved). microchip_offer c.node-node.result.class (get_or c.args.own.now c.args.n set_nothing) r) (c.resolve_input.ensures ∙ wired_port_lem (inputs c.requires.0) _ _ _)
    ∙ microchip _ _ _ _ c.requires.1 c.node-node.ensures c.is_nofold.ensures c.if-is_nofold.false c.folding_of-folding.ensures c.in-Microchip.is)

pub returns-in-Select : goal.returns-in-Select
returns-in-Select c =
    gives _ _ _ _ c.try_resolve_select.ensures
    (select _ _ _ _ c.requires.1 c.node-node.ensures c.is_nofold.ensures c.if-is_nofold.false c.folding_of-folding.ensures c.in-Select.is)

pub returns-in-Branch : goal.returns-in-Branch
returns-in-Branch c =
    gives _ _ _ _ c.try_resolve_branch.ensures
    (branch _ _ _ _ c.requires.1 c.node-node.ensures c.is_nofold.ensures c.if-is_nofold.false c.folding_of-folding.ensures c.in-Branch.is)

pub returns-in_default : goal.returns-in_default
returns-in_default c =
    let f = c.folding_of-folding.result in
    gives _ _ _ _ (by_inputs _ _ _ _ _ f (search rules) c.input_count-count.ensures c.try_resolve_gate.ensures)
    (any_gate _ _ _ _ c.requires.1 c.node-node.ensures c.is_nofold.ensures c.if-is_nofold.false c.folding_of-folding.ensures (search rules))
