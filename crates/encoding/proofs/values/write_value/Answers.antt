-- `encoding::values::write_value` meets its contract.
use native.Mathlib.Omega.{arith}
use mathlib.Core.Path.{sym, ap}
use mathlib.Core.List.{◌∷◌, ◌++◌}
use Rattle.encoding.specs.Numbers.{bytes_of}
use Rattle.encoding.specs.Values.{head_bytes, value_bytes}
use Rattle.encoding.specs.Words.{held_by}
use Rattle.encoding.proofs.Splices.{written_length, written_more, same_written}
use Rattle.encoding.proofs.Held.{kind_held}
use Rattle.encoding.proofs.ReadBack.{property_back}
use Rattle.encoding.proofs.values.write_value.Goals as goal

pub write_head-past_node-requires : goal.write_head-past_node-requires
unfolding bytes_of
write_head-past_node-requires c = omega (arith, c.requires.1)

pub returns : goal.returns
unfolding bytes_of
returns c =
    let a = c.args in
    let kind = kind_held a.words.a a.words.b a.words.c a.words.d a.kind c.requires.0 in
    let v = c.write_head-past_node.ensures in
    let w = c.write_byte-past_port.ensures in
    let given = c.write_bytes.ensures in
    let first = written_length v (omega (arith, c.requires.1)) in
    let all =
    same_written (ap (λ k. head_bytes k a.node ++ (a.port ∷ value_bytes (held_by a.kind a.words))) (sym kind))
    (written_more v (omega (arith, c.requires.1)) (written_more w (omega (arith, c.requires.1, v.past, first)) given.written)) in
    record { written = all; back = property_back c.requires.1 all {past = c.write_byte-past_port.result} (omega (arith, v.past, w.past)) _ kind given.back }
