-- `swept::rewrite_graph` meets its contract.
use mathlib.Core.Path.{refl}
use Rattle.propagation.proofs.Accepted.{accepted_graph}
use Rattle.rewritten.proofs.Stages.{refused_as}
use Rattle.rewritten.proofs.Entries.{refuse_wires}
use Rattle.sweep.specs.Swept.{swept_bytes}
use Rattle.swept.proofs.Stages.{front_inside, emitted_at}
use Rattle.swept.proofs.rewrite_graph.Goals as goal

pub rewrite_graph-requires : goal.rewrite_graph-requires
rewrite_graph-requires c = record { own = _; kinds = c.args.known.now.kinds; words = c.args.known.now.words; pops = c.args.pops; settled = c.requires.0; long = c.requires.1 }

pub answer_swept-requires : goal.answer_swept-requires
answer_swept-requires c =
    let P = c.requires in
    let R = rw c.in-Ok.is at (c.rewrite_graph.ensures.law _ _ _ _ P.0) in
    (emitted_at P.0 R P.1 refl, front_inside P.0 R P.1)

pub returns-in-Ok : goal.returns-in-Ok
returns-in-Ok c = c.answer_swept.ensures

pub returns-in-Err : goal.returns-in-Err
returns-in-Err c =
    let P = c.requires in
    refuse_wires swept_bytes (accepted_graph _ _ P.0.accepts) _ (refused_as (rw c.in-Err.is at (c.rewrite_graph.ensures.law _ _ _ _ P.0)))
