-- `folding::write_answer` meets its contract.
use mathlib.Core.Path.{refl, sym, ◌∙◌}
use Prim.Native.Nat.{◌+◌, ◌*◌, ◌≤◌}
use native.Mathlib.Omega.{arith}
use lib.ListN.{length}
use borrow.Author.Tests.{leb-true, leb-false}
use Rattle.answer.specs.Nodes.{known_records, fate_records}
use Rattle.propagation.proofs.Accepted.{nodes_are}
use Rattle.folding.proofs.Stages.{nodes_room, refuse_many, long_at, ready_at, wires_at_lem, folded_at}
use Rattle.folding.proofs.write_answer.Goals as goal
use Rattle.folding.proofs.write_answer.Goals.{Else-not-holds, then-count-gt-WIRES-via-then-count-gt-WIRES, then-count-gt-WIRES-via-else-count-gt-WIRES+then-not-holds}

-- there is room for all of it
room : (c : Else-not-holds) → length (known_records c.args.known.now.kinds c.args.known.now.words c.wires-wires.result.nodes) + length (fate_records c.args.known.now.kinds c.args.known.now.words c.args.plan.now.actions c.wires-wires.result.nodes) + 7 * c.args.count ≤ length c.args.out.now
room c = leb-true _ _ (sym (c.holds.ensures c.args.known.now.words) ∙ c.if-not-holds.false)

pub holds-requires : goal.holds-requires
holds-requires c = (c.wires-wires.result.bounded.few_nodes, c.if-count-gt-WIRES.false, c.requires.worked.settled.finished.holds.kinds_listed)

pub returns-then-count-gt-WIRES : goal.returns-then-count-gt-WIRES
returns-then-count-gt-WIRES c =
    let P = c.requires in
    let e = c.wires-wires.ensures.nodes ∙ nodes_are _ _ P.worked.settled.accepts in
    elim c.then-count-gt-WIRES.branch [
      | then-count-gt-WIRES-via-then-count-gt-WIRES w ↦ record { law = λ own S. refuse_many S P.counted w.if-count-gt-WIRES.true }
      | then-count-gt-WIRES-via-else-count-gt-WIRES+then-not-holds w ↦
          record { law = λ own S. long_at S P.counted w.if-count-gt-WIRES.false c.wires-wires.result.nodes _ e refl refl (leb-false _ _ (sym (w.holds.ensures c.args.known.now.words) ∙ w.if-not-holds.true)) }
    ]

pub write_nodes-past-requires : goal.write_nodes-past-requires
write_nodes-past-requires c = (c.wires-wires.result.bounded.few_nodes, omega (arith, room (goal.at.write_nodes-past-requires c).Else-not-holds), c.requires.worked.settled.finished.holds.kinds_listed)

pub write_wires-length-requires : goal.write_wires-length-requires
write_wires-length-requires c =
    let P = c.requires in
    let e = c.wires-wires.ensures.nodes ∙ nodes_are _ _ P.worked.settled.accepts in
    let l = c.if-count-gt-WIRES.false in
    let R = room (goal.at.write_wires-length-requires c).Else-not-holds in
    let a = c.args in
    let w = nodes_room a.known.now.kinds a.known.now.words a.plan.now.actions c.wires-wires.result.nodes (7 * a.count) c.write_nodes-past.ensures R in
    record {
      ready = ready_at P.worked.settled P.counted l _ _ e c.wires-wires.ensures.wires P.rewritable;
      room = omega (arith, w, wires_at_lem P.worked.settled P.counted l _ _ e c.wires-wires.ensures.wires);
    }

pub returns : goal.returns
returns c =
    let P = c.requires in
    let e = c.wires-wires.ensures.nodes ∙ nodes_are _ _ P.worked.settled.accepts in
    record { law = λ own S. folded_at S P.counted c.if-count-gt-WIRES.false _ _ e c.wires-wires.ensures.wires (room (goal.at.returns c).Else-not-holds) c.write_nodes-past.ensures c.write_wires-length.ensures }
