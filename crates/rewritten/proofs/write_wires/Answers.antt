-- `rewritten::write_wires` meets its contract.
use mathlib.Core.Path.{◌≡◌, ◌∙◌}
use native.Mathlib.Omega.{arith}
use Rattle.graph.specs.Decode.{graph_of}
use Rattle.model.specs.Inputs.{size}
use Rattle.propagation.proofs.Accepted.{nodes_are}
use Rattle.folding.proofs.Stages.{ready_at, wires_at_lem}
use Rattle.rewritten.proofs.Stages.{refuse_many, wrote}
use Rattle.rewritten.proofs.write_wires.Goals as goal
use Rattle.rewritten.proofs.write_wires.Goals.{After-wires-wires}

nodes : (c : After-wires-wires) → c.wires-wires.result.nodes ≡ size (graph_of c.args.records.now.input.now)
nodes c = c.wires-wires.ensures.nodes ∙ nodes_are _ _ c.args.records.now.accepts

pub returns-then-count-gt-WIRES : goal.returns-then-count-gt-WIRES
returns-then-count-gt-WIRES c = record { law = λ own kinds words pops S. refuse_many S c.requires.rewrote.counted (omega (arith, c.if-count-gt-WIRES.true)) }

pub write_wires-requires : goal.write_wires-requires
write_wires-requires c =
    let P = c.requires in
    let S = P.rewrote.worked.settled in
    let e = nodes (goal.at.write_wires-requires c).After-wires-wires in
    let l = c.if-count-gt-WIRES.false in
    record {
      ready = ready_at S P.rewrote.counted l _ _ e c.wires-wires.ensures.wires P.rewrote.rewritable;
      room = omega (arith, l, P.long, wires_at_lem S P.rewrote.counted l _ _ e c.wires-wires.ensures.wires);
    }

pub returns : goal.returns
returns c =
    let P = c.requires in
    record { law = λ own kinds words pops S. wrote S P.rewrote.counted c.if-count-gt-WIRES.false _ _ (nodes (goal.at.returns c).After-wires-wires) c.wires-wires.ensures.wires c.write_wires.ensures }
