-- `answer::write_literal` meets its contract.
use Prim.Native.Nat.{◌+◌}
use native.Mathlib.Omega.{arith}
use mathlib.Core.Path.{ap, sym}
use mathlib.Core.List.{◌++◌}
use Rattle.encoding.specs.Numbers.{bytes_of}
use Rattle.encoding.specs.Values.{head_bytes, value_bytes}
use Rattle.encoding.specs.Words.{held_by}
use Rattle.encoding.proofs.Splices.{written_length, written_more, same_written}
use Rattle.encoding.proofs.Held.{kind_held}
use Rattle.answer.specs.Nodes.{literal_fate}
use Rattle.answer.proofs.write_literal.Goals as goal

pub write_head-next-requires : goal.write_head-next-requires
unfolding literal_fate bytes_of
write_head-next-requires c = omega (arith, c.requires.1)

pub write_bytes-requires : goal.write_bytes-requires
unfolding literal_fate bytes_of
write_bytes-requires c =
    let w = c.write_head-next.ensures in
    (c.requires.0, omega (arith, c.requires.1, w.past, written_length w (omega (arith, c.requires.1))))

pub returns : goal.returns
unfolding literal_fate bytes_of
returns c =
    let a = c.args in
    let kind = kind_held a.w.a a.w.b a.w.c a.w.d a.kind c.requires.0 in
    same_written (ap (λ k. head_bytes (0xf + k) a.i ++ value_bytes (held_by a.kind a.w)) (sym kind))
    (written_more c.write_head-next.ensures (omega (arith, c.requires.1)) c.write_bytes.ensures.written)
