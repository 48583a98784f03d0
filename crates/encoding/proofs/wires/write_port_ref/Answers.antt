-- `encoding::wires::write_port_ref` meets its contract.
use native.Mathlib.Omega.{arith}
use Rattle.encoding.specs.Numbers.{bytes_of}
use Rattle.encoding.proofs.Splices.{written_length, written_more}
use Rattle.encoding.proofs.wires.write_port_ref.Goals as goal

pub write_byte-requires : goal.write_byte-requires
unfolding bytes_of
write_byte-requires c = let w = c.write_u16-past.ensures in omega (arith, w.past, written_length w (omega arith))

pub returns : goal.returns
unfolding bytes_of
returns c = written_more c.write_u16-past.ensures (omega arith) c.write_byte.ensures
