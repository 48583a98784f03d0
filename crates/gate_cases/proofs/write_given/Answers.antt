-- `gate_cases::write_given` meets its contract.
use Prim.Native.Nat.{ℕ}
use native.Mathlib.Omega.{arith}
use mathlib.Core.Path.{◌≡◌, ap, ◌∙◌}
use lib.ListN.{length}
use Rattle.ir.specs.Kinds.{role_of}
use Rattle.value.specs.declared.Value.{Value}
use Rattle.encoding.specs.Values.{kind_of, value_bytes}
use Rattle.encoding.specs.Words.{held_by}
use Rattle.encoding.specs.declared.words.Words.{Words}
use Rattle.encoding.proofs.Held.{kind_role}
use Rattle.encoding.proofs.Splices.{written_length}
use Rattle.gate_cases.proofs.Sizes.{value_length}
use Rattle.gate_cases.proofs.write_given.Goals as goal

-- the words hold what is given
same : {k : ℕ} {v : Value} (w : Words) → k ≡ kind_of v → held_by (kind_of v) w ≡ v → held_by k w ≡ v
same w e h = rw e h

pub write_bytes-requires : goal.write_bytes-requires
write_bytes-requires c =
    let v = c.in-Some.v in
    (ap role_of c.kind_of.ensures ∙ kind_role v, omega (arith, written_length c.write_byte.ensures (omega arith), value_length v, ap (λ u. length (value_bytes u)) (same c.words_of.result c.kind_of.ensures c.words_of.ensures)))

pub returns-in-Some : goal.returns-in-Some
returns-in-Some c = rw (c.in-Some.is, c.write_bytes.ensures.written.wrote, same c.words_of.result c.kind_of.ensures c.words_of.ensures, c.write_byte.ensures.wrote, c.variant_of.ensures, c.requires)
