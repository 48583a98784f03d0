-- `records::access::Records::wire_records` meets its contract.
use Prim.Native.Nat.{◌*◌, ◌-◌}
use native.Mathlib.Omega.{arith}
use mathlib.Core.Path.{◌≡◌}
use Rattle.records.proofs.Laid.{room, wires_part}
use Rattle.records.proofs.access.Records.wire_records.Goals as goal

pub slice_bounds-result-end : goal.slice_bounds-result-end
slice_bounds-result-end c = omega (arith, room c.args.self.now)

pub returns-clause-wires : goal.returns-clause-wires
returns-clause-wires c =
    let r = c.args.self.now in
    let n : c.properties_offset.result - c.wires_offset.result ≡ 7 * r.counts.wires = omega arith in
    rw (n, c.wires_offset.ensures) (wires_part _ _ r.accepts)
