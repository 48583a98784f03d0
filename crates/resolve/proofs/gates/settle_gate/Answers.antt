-- `resolve::gates::settle_gate` meets its contract.
use Rattle.inputs.specs.Reading.{graph_in}
use mathlib.Core.Path.{sym}
use Rattle.resolve.proofs.Trials.{no_literal, becomes_literal}
use Rattle.resolve.proofs.GateValues.{annihilator_none, annihilator_some, settles_inputs}
use Rattle.resolve.proofs.gates.settle_gate.Goals as goal

pub returns-in_default : goal.returns-in_default
returns-in_default c =
    let g = graph_in c.args.reads.now in
    no_literal g _ (sym (annihilator_none g c.requires.0.counts _ _ c.annihilator.ensures c.in_default.is _))

pub returns-in_default-annihilate : goal.returns-in_default-annihilate
returns-in_default-annihilate c =
    let g = graph_in c.args.reads.now in
    let e = annihilator_some g c.requires.0.counts _ _ c.annihilator.ensures c.in-Some.is in
    settles_inputs g _ _ _ e c.resolve_data_input-a.ensures c.input_if-b.ensures c.input_if-c.ensures c.annihilate.ensures (no_literal g _ c.in_default-annihilate.is)

pub returns : goal.returns
returns c =
    let g = graph_in c.args.reads.now in
    let e = annihilator_some g c.requires.0.counts _ _ c.annihilator.ensures c.in-Some.is in
    settles_inputs g _ _ _ e c.resolve_data_input-a.ensures c.input_if-b.ensures c.input_if-c.ensures c.annihilate.ensures (becomes_literal g _ c.in-Some-annihilate.is)
