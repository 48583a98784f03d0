-- `records::access::Records::wires` meets its contract.
use Rattle.records.proofs.Laid.{counted, bounded}
use Rattle.records.proofs.access.Records.wires.Goals as goal

pub invariant_of-result : goal.invariant_of-result
invariant_of-result c =
    let r = c.args.self.now in
    record { bounded = rw (c.wire_records.ensures.wires, counted _ _ r.accepts) (bounded r.input.now) }
