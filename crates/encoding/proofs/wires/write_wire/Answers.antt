-- `encoding::wires::write_wire` meets its contract.
use native.Mathlib.Omega.{arith}
use Rattle.encoding.specs.Numbers.{bytes_of}
use Rattle.encoding.proofs.Splices.{written_length, written_more}
use Rattle.encoding.proofs.ReadBack.{wire_back}
use Rattle.encoding.proofs.wires.write_wire.Goals as goal

pub write_port_ref-requires : goal.write_port_ref-requires
unfolding bytes_of
write_port_ref-requires c =
    let v = c.write_byte-source.ensures in
    let w = c.write_port_ref-target.ensures in
    let first = written_length v (omega arith) in
    omega (arith, v.past, first, w.past, written_length w (omega (arith, v.past, first)))

pub returns : goal.returns
unfolding bytes_of
returns c =
    let v = c.write_byte-source.ensures in
    let w = written_more v (omega arith) (written_more c.write_port_ref-target.ensures (omega (arith, v.past, written_length v (omega arith))) c.write_port_ref.ensures) in
    record { written = w; back = wire_back c.args.wire {l = c.args.out.now} c.requires w }
