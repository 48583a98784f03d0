-- `propagation::run_worklist` meets its contract.
use Rattle.propagation.proofs.Accepted.{reads_at}
use Rattle.propagation.proofs.run_worklist.Goals as goal

pub run-requires : goal.run-requires
run-requires c =
    let p = c.requires in
    let w = c.wires-wires.ensures.wires in
    rw c.make_reads-reads.ensures (reads_at c.args.records.now.accepts p.indexed w (rw w p.linked.0) c.rows.ensures.rows c.index_rows.ensures, p.linked.1, p.fresh)

pub returns : goal.returns
returns c = record { accepts = c.args.records.now.accepts; finished = rw c.make_reads-reads.ensures at c.run.ensures }
