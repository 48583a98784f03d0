-- `swept::write_swept` meets its contract.
use Prim.Native.Nat.{◌*◌}
use native.Mathlib.Omega.{arith}
use mathlib.Core.Path.{sym, ◌∙◌}
use lib.ListN.{length}
use Rattle.propagation.proofs.Accepted.{nodes_are}
use Rattle.folding.proofs.Stages.{nodes_room}
use Rattle.swept.proofs.Stages.{nodes_in, few_left, fit, refuse_long, folded}
use Rattle.swept.proofs.write_swept.Goals as goal

pub holds-requires : goal.holds-requires
holds-requires c =
    let P = c.requires in
    ((nodes_in P.emitted).1, omega (arith, c.count-left.ensures, few_left P), P.emitted.worked.finished.holds.kinds_listed)

pub returns-then-not-holds : goal.returns-then-not-holds
returns-then-not-holds c =
    let P = c.requires in
    refuse_long P _ _ (nodes_are _ _ P.emitted.worked.accepts) c.count-left.ensures (sym (c.holds.ensures c.args.known.now.words) ∙ c.if-not-holds.true)

pub write_nodes-past-requires : goal.write_nodes-past-requires
write_nodes-past-requires c = ((nodes_in c.requires.emitted).1, omega (arith, fit c.requires _ _ (nodes_are _ _ c.requires.emitted.worked.accepts) c.count-left.ensures (length c.args.out.now) (c.holds.ensures c.args.known.now.words) c.if-not-holds.false), c.requires.emitted.worked.finished.holds.kinds_listed)

pub write-length-requires : goal.write-length-requires
write-length-requires c =
    let w = nodes_room c.args.known.now.kinds c.args.known.now.words c.args.swept.now c.args.records.now.counts.nodes (7 * c.count-left.result) c.write_nodes-past.ensures (fit c.requires _ _ (nodes_are _ _ c.requires.emitted.worked.accepts) c.count-left.ensures (length c.args.out.now) (c.holds.ensures c.args.known.now.words) c.if-not-holds.false) in
    omega (arith, w, c.count-left.ensures)

pub returns : goal.returns
returns c =
    folded c.requires _ _ (nodes_are _ _ c.requires.emitted.worked.accepts) c.count-left.ensures (fit c.requires _ _ (nodes_are _ _ c.requires.emitted.worked.accepts) c.count-left.ensures (length c.args.out.now) (c.holds.ensures c.args.known.now.words) c.if-not-holds.false) c.write_nodes-past.ensures c.write-length.ensures
