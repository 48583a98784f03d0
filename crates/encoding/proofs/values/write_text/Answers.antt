-- `encoding::values::write_text` meets its contract.
use native.Mathlib.Omega.{arith}
use Rattle.encoding.specs.Numbers.{bytes_of}
use Rattle.encoding.proofs.Splices.{written_length, written_more}
use Rattle.encoding.proofs.values.write_text.Goals as goal

pub write_u64-requires : goal.write_u64-requires
unfolding bytes_of
write_u64-requires c =
    let v = c.write_byte-past_length.ensures in
    let w = c.write_u64-past_low.ensures in
    omega (arith, v.past, written_length v (omega arith), w.past, written_length w (omega (arith, v.past, written_length v (omega arith))))

pub returns : goal.returns
unfolding bytes_of
returns c =
    let v = c.write_byte-past_length.ensures in
    let w = c.write_u64-past_low.ensures in
    rw (← c.length_of.ensures)
    (written_more v c.requires (written_more w (omega (arith, v.past, written_length v (omega arith))) c.write_u64.ensures))
