-- `folding::write_kept` meets its contract.
use mathlib.Core.Path.{refl}
use Prim.Native.Nat.{◌*◌}
use native.Mathlib.Omega.{arith}
use Rattle.propagation.proofs.Accepted.{bounded_at}
use Rattle.folding.proofs.Stages.{nodes_room, section_records, wires_are, kept_folded}
use Rattle.folding.proofs.write_kept.Goals as goal

pub write_nodes-past-requires : goal.write_nodes-past-requires
write_nodes-past-requires c = ((bounded_at _ _ c.args.records.now.accepts refl).few_nodes, omega (arith, c.requires.fits), c.requires.worked.settled.finished.holds.kinds_listed)

pub write_wires-length-requires : goal.write_wires-length-requires
write_wires-length-requires c =
    let K = c.requires in
    let a = c.args in
    let n = nodes_room a.known.now.kinds a.known.now.words a.plan.now.actions a.records.now.counts.nodes (7 * a.records.now.counts.wires) c.write_nodes-past.ensures K.fits in
    record {
      records = section_records _ _ a.records.now.accepts c.wires-wires.ensures.records c.wires-wires.ensures.wires c.bytes_fit.ensures;
      bounded = c.wires-wires.result.bounded;
      room = omega (arith, n, wires_are K.worked.settled K c.wires-wires.ensures.wires);
    }

pub returns : goal.returns
returns c =
    let K = c.requires in
    record { law = λ own S. kept_folded S K c.wires-wires.ensures.wires refl c.write_nodes-past.ensures c.write_wires-length.ensures }
