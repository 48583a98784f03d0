-- `records::access::Records::rows` meets its contract.
use Prim.Native.Nat.{◌*◌, ◌-◌}
use native.Mathlib.Omega.{arith}
use mathlib.Core.Path.{◌≡◌, refl}
use Rattle.records.proofs.Laid.{room, rows_part}
use Rattle.records.proofs.access.Records.rows.Goals as goal

pub returns : goal.returns
returns c =
    let r = c.args.self.now in
    let n : c.annihilators_offset.result - c.rows_offset.result ≡ 5 * r.counts.rows = omega (arith, room r) in
    rw (n, c.rows_offset.ensures) (record { part = refl; rows = rows_part _ _ r.accepts })
