-- `encoding::values::write_bytes` meets its contract.
use native.Mathlib.Omega.{arith}
use mathlib.Core.Path.{sym, ap, ◌∙◌}
use mathlib.Core.List.{[], ◌∷◌}
use lib.ListN.{length}
use Rattle.encoding.specs.Numbers.{bytes_of}
use Rattle.encoding.specs.Values.{value_bytes}
use Rattle.encoding.proofs.Sizes.{property_kind, is_text_lem}
use Rattle.encoding.proofs.Splices.{same_written}
use Rattle.encoding.proofs.Held.{int_bytes, float_bytes_lem, bool_bytes, text_bytes_lem, held_other, flag_byte}
use Rattle.encoding.proofs.ReadBack.{held_back}
use Rattle.encoding.proofs.values.write_bytes.Goals as goal

pub write_u64-requires : goal.write_u64-requires
unfolding bytes_of
write_u64-requires c = let w = c.args.words in omega (arith, c.requires.1, ap length (int_bytes c.args.kind w.a w.b w.c w.d c.in-3.is (omega arith)))

pub returns-in-3 : goal.returns-in-3
returns-in-3 c =
    let w = c.args.words in
    let h = held_back (omega arith) (omega arith) (omega arith) (omega arith) c.args.kind c.requires.0 c.requires.1 (same_written (int_bytes c.args.kind w.a w.b w.c w.d c.in-3.is (omega arith)) c.write_u64.ensures) in
    record { written = h.0; back = h.1 }

pub write_float-requires : goal.write_float-requires
unfolding bytes_of
write_float-requires c = let w = c.args.words in omega (arith, c.requires.1, ap length (float_bytes_lem c.args.kind w.a w.b w.c w.d c.in-4.is))

pub returns-in-4 : goal.returns-in-4
returns-in-4 c =
    let w = c.args.words in
    let h = held_back (omega arith) (omega arith) (omega arith) (omega arith) c.args.kind c.requires.0 c.requires.1 (same_written (float_bytes_lem c.args.kind w.a w.b w.c w.d c.in-4.is) c.write_float.ensures) in
    record { written = h.0; back = h.1 }

pub write_byte-requires : goal.write_byte-requires
write_byte-requires c = let w = c.args.words in omega (arith, c.requires.1, ap length (bool_bytes c.args.kind w.a w.b w.c w.d c.in-5.is))

pub returns-in-5 : goal.returns-in-5
returns-in-5 c =
    let w = c.args.words in
    let h = held_back (omega arith) (omega arith) (omega arith) (omega arith) c.args.kind c.requires.0 c.requires.1 (same_written (ap (λ x. x ∷ []) (c.from.ensures ∙ flag_byte _) ∙ bool_bytes c.args.kind w.a w.b w.c w.d c.in-5.is) c.write_byte.ensures) in
    record { written = h.0; back = h.1 }

pub write_composite-requires : goal.write_composite-requires
write_composite-requires c =
    let w = c.args.words in
    (omega (arith, (property_kind c.args.kind c.requires.0).least), omega (arith, c.if-kind-le-COLOR.true), omega (arith, c.requires.1, ap (λ v. length (value_bytes v)) (held_other c.args.kind w.a w.b w.c w.d (omega arith) (omega arith) (omega arith))))

pub returns-in_default : goal.returns-in_default
returns-in_default c =
    let w = c.args.words in
    let h = held_back (omega arith) (omega arith) (omega arith) (omega arith) c.args.kind c.requires.0 c.requires.1 (same_written (ap value_bytes (sym (held_other c.args.kind w.a w.b w.c w.d (omega arith) (omega arith) (omega arith)))) c.write_composite.ensures) in
    record { written = h.0; back = h.1 }

pub write_text-requires : goal.write_text-requires
unfolding bytes_of
write_text-requires c =
    let w = c.args.words in
    omega (arith, c.requires.1, ap length (text_bytes_lem c.args.kind w.a w.b w.c w.d (is_text_lem c.args.kind c.requires.0 c.if-kind-le-COLOR.false)))

pub returns-in_default-2 : goal.returns-in_default-2
returns-in_default-2 c =
    let w = c.args.words in
    let h = held_back (omega arith) (omega arith) (omega arith) (omega arith) c.args.kind c.requires.0 c.requires.1 (same_written (text_bytes_lem c.args.kind w.a w.b w.c w.d (is_text_lem c.args.kind c.requires.0 c.if-kind-le-COLOR.false)) c.write_text.ensures) in
    record { written = h.0; back = h.1 }
