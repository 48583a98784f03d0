-- `encoding::values::write_composite` meets its contract.
use Prim.Native.Nat.{ℕ, ◌+◌, ◌≤◌}
use native.Mathlib.Omega.{arith}
use mathlib.Core.Path.{ap}
use mathlib.Core.List.{List}
use lib.ListN.{length}
use lib.Ieee.{Float, of_bits, binary64}
use Rattle.encoding.specs.Numbers.{bytes_of, Written}
use Rattle.encoding.specs.Values.{float_bytes, three_bytes}
use Rattle.encoding.proofs.Splices.{written_length, written_more, same_written}
use Rattle.encoding.proofs.Held.{three_held, four_held, three_least}
use Rattle.encoding.proofs.values.write_composite.Goals as goal

-- where the second and the third float go, and all three
next : (x : Float) {at second : ℕ} {l m : List ℕ} → at + 24 ≤ length l → Written (float_bytes x) l m at second → second + 16 ≤ length m
unfolding bytes_of
next x room u = omega (arith, u.past, written_length u (omega arith))

last : (x y : Float) {at second third : ℕ} {l m n : List ℕ} → at + 24 ≤ length l → Written (float_bytes x) l m at second → Written (float_bytes y) m n second third → third + 8 ≤ length n
unfolding bytes_of
last x y room u v = omega (arith, next x room u, v.past, written_length v (omega (arith, next x room u)))

three : (x y z : Float) {at second third fourth : ℕ} {l m n o : List ℕ} → at + 24 ≤ length l → Written (float_bytes x) l m at second → Written (float_bytes y) m n second third → Written (float_bytes z) n o third fourth → Written (three_bytes x y z) l o at fourth
unfolding bytes_of
three x y z room u v w = written_more u room (written_more v (next x room u) w)

pub write_float-second-requires : goal.write_float-second-requires
write_float-second-requires c = let w = c.args.words in omega (arith, c.requires.2, three_least c.args.kind w.a w.b w.c w.d c.requires.0 c.requires.1)

pub write_float-third-requires : goal.write_float-third-requires
write_float-third-requires c =
    let w = c.args.words in
    omega (arith, next (of_bits binary64 w.a) (omega (arith, c.requires.2, three_least c.args.kind w.a w.b w.c w.d c.requires.0 c.requires.1)) c.write_float-second.ensures)

pub write_float-fourth-requires : goal.write_float-fourth-requires
write_float-fourth-requires c =
    let w = c.args.words in
    last (of_bits binary64 w.a) (of_bits binary64 w.b) (omega (arith, c.requires.2, three_least c.args.kind w.a w.b w.c w.d c.requires.0 c.requires.1)) c.write_float-second.ensures c.write_float-third.ensures

pub returns-then-kind-le-ROTATOR : goal.returns-then-kind-le-ROTATOR
returns-then-kind-le-ROTATOR c =
    let w = c.args.words in
    same_written (three_held c.args.kind w.a w.b w.c w.d c.requires.0 c.if-kind-le-ROTATOR.true)
    (three (of_bits binary64 w.a) (of_bits binary64 w.b) (of_bits binary64 w.c) (omega (arith, c.requires.2, three_least c.args.kind w.a w.b w.c w.d c.requires.0 c.requires.1)) c.write_float-second.ensures c.write_float-third.ensures c.write_float-fourth.ensures)

pub write_float-requires : goal.write_float-requires
unfolding bytes_of
write_float-requires c =
    let w = c.args.words in
    let room = three_least c.args.kind w.a w.b w.c w.d c.requires.0 c.requires.1 in
    let t = three (of_bits binary64 w.a) (of_bits binary64 w.b) (of_bits binary64 w.c) (omega (arith, c.requires.2, room)) c.write_float-second.ensures c.write_float-third.ensures c.write_float-fourth.ensures in
    omega (arith, t.past, written_length t (omega (arith, c.requires.2, room)), c.requires.2, ap length (four_held c.args.kind w.a w.b w.c w.d (omega (arith, c.if-kind-le-ROTATOR.false)) c.requires.1))

pub returns : goal.returns
returns c =
    let w = c.args.words in
    let e = four_held c.args.kind w.a w.b w.c w.d (omega (arith, c.if-kind-le-ROTATOR.false)) c.requires.1 in
    let t = three (of_bits binary64 w.a) (of_bits binary64 w.b) (of_bits binary64 w.c) (omega (arith, c.requires.2, three_least c.args.kind w.a w.b w.c w.d c.requires.0 c.requires.1)) c.write_float-second.ensures c.write_float-third.ensures c.write_float-fourth.ensures in
    same_written e (written_more t (omega (arith, ap length e, c.requires.2)) c.write_float.ensures)
