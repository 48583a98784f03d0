-- Wires that were written are read back.
use mathlib.Core.Path.{◌≡◌, refl, sym, ap, ◌∙◌}
use mathlib.Core.List.{List, [], ◌∷◌, ◌++◌}
use Prim.Native.Nat.{ℕ, zero, suc, ◌+◌, ◌*◌, ◌<◌}
use native.Mathlib.Omega.{arith}
use lib.ListN.{length, get_or, take, drop, length-append}
use lib.Seq.{take_all, take_at, drop_at, get_or-append-add}
use Rattle.ir.specs.declared.Wire.{Wire}
use Rattle.encoding.specs.Numbers.{byte, number_at, bytes_of, splice, Written}
use Rattle.encoding.specs.Wires.{wire_at, wire_bytes}
use Rattle.encoding.proofs.ReadBack.{wire_back}
use Rattle.records.specs.Access.{wires_of, no_wire, Bounded}
use Rattle.records.proofs.Runs.{wires_run}
use Rattle.model.specs.Answer.{each}
use Rattle.model.proofs.Each.{wires_size}

seven : (w : Wire) → length (wire_bytes w) ≡ 7
unfolding bytes_of
seven w = refl

-- a record past the first is read in the rest
byte_past : (a r : List ℕ) (k : ℕ) → length a ≡ 7 → byte (a ++ r) (7 + k) ≡ byte r k
byte_past a r k e = ap (λ (m : ℕ). byte (a ++ r) (m + k)) (sym e) ∙ get_or-append-add a r k 0

byte_at : (a r : List ℕ) (i m : ℕ) → length a ≡ 7 → i ≡ 7 + m → byte (a ++ r) i ≡ byte r m
byte_at a r i m e f = ap (byte (a ++ r)) f ∙ byte_past a r m e

wire_past : (a r : List ℕ) (k : ℕ) → length a ≡ 7 → wire_at (a ++ r) (7 + k) ≡ wire_at r k
unfolding number_at
wire_past a r k e =
    rw (
      byte_at a r (7 + k + 1) (k + 1) e (omega arith),
      byte_at a r (7 + k + 1 + 1) (k + 1 + 1) e (omega arith),
      byte_at a r (7 + k + 3) (k + 3) e (omega arith),
      byte_at a r (7 + k + 4) (k + 4) e (omega arith),
      byte_at a r (7 + k + 4 + 1) (k + 4 + 1) e (omega arith),
      byte_at a r (7 + k + 6) (k + 6) e (omega arith),
    )

wire_first : (w : Wire) (r : List ℕ) → w.source.node_id < 65536 → w.target.node_id < 65536 → wire_at (wire_bytes w ++ r) 0 ≡ w
unfolding splice
wire_first w r a b =
    let e : splice (wire_bytes w ++ r) 0 (wire_bytes w) ≡ wire_bytes w ++ r = ap (λ (x : List ℕ). wire_bytes w ++ x) (drop_at (wire_bytes w) r (0 + length (wire_bytes w)) (omega arith)) in
    wire_back w {l = wire_bytes w ++ r} {s = wire_bytes w ++ r} {at = 0} {next = 0 + length (wire_bytes w)} (omega (arith, length-append (wire_bytes w) r, seven w)) (record { wrote = sym e; past = refl }) a b

reads : (ws : List Wire) → ((i : ℕ) → i < length ws → ((get_or ws i no_wire).source.node_id < 65536) × ((get_or ws i no_wire).target.node_id < 65536)) → (j : ℕ) → j < length ws → get_or ws j no_wire ≡ wire_at (each wire_bytes ws) (0 + 7 * j)
unfolding each
reads [] h j l = absurd (omega arith)
reads (w ∷ ws) h zero l = sym (wire_first w (each wire_bytes ws) (h 0 (omega arith)).0 (h 0 (omega arith)).1)
reads (w ∷ ws) h (suc j) l =
    let e : 0 + 7 * suc j ≡ 7 + (0 + 7 * j) = omega arith in
    reads ws (λ i k. h (suc i) (omega arith)) j (omega arith) ∙ sym (ap (wire_at (wire_bytes w ++ each wire_bytes ws)) e ∙ wire_past (wire_bytes w) (each wire_bytes ws) (0 + 7 * j) (seven w))

pub wires_back : (ws : List Wire) (n : ℕ) → Bounded ws n → wires_of (each wire_bytes ws) ≡ ws
wires_back ws n b =
    ap wires_of (sym (take_all (7 * length ws) (each wire_bytes ws) (omega (arith, wires_size ws))))
    ∙ wires_run (each wire_bytes ws) 0 ws (omega (arith, wires_size ws)) (reads ws (λ i l. (omega (arith, b.few_nodes, (b.named i l).source), omega (arith, b.few_nodes, (b.named i l).target))))

-- the front of a buffer that they were written to
pub front_back : (ws : List Wire) (n : ℕ) {before after : List ℕ} {past : ℕ} → Bounded ws n → Written (each wire_bytes ws) before after 0 past → take past after ≡ each wire_bytes ws
unfolding splice
front_back ws n {before} {after} {past} b w =
    ap (take past) w.wrote ∙ take_at (each wire_bytes ws) (drop (0 + length (each wire_bytes ws)) before) past (omega (arith, w.past))
