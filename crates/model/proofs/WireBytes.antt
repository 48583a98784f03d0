-- The bytes of wires that stay as they are.
use Prim.Native.Nat.{ℕ, suc, ◌+◌, ◌*◌, ◌<◌}
use native.Mathlib.Omega.{arith}
use mathlib.Core.Path.{◌≡◌, refl, sym, ap, ap₂, ◌∙◌}
use mathlib.Core.List.{List, [], ◌∷◌, ◌++◌}
use lib.ListN.{length, get_or, take, drop}
use lib.Seq.{drop-drop, take-add}
use Rattle.ir.specs.declared.Wire.{Wire}
use Rattle.encoding.specs.Numbers.{byte}
use Rattle.encoding.specs.Wires.{wire_bytes}
use Rattle.graph.specs.Decode.{graph_of}
use Rattle.graph.specs.declared.Counts.{Counts}
use Rattle.records.specs.Access.{no_wire, Accepts, wires_offset}
use Rattle.records.proofs.Laid.{counted, wire_bytes_lem}
use Rattle.model.specs.Answer.{each}

-- a run of records of 7 bytes, each the bytes of its wire
run_bytes_lem : (ws : List Wire) (r : List ℕ) → ((j : ℕ) → j < length ws → take 7 (drop (7 * j) r) ≡ wire_bytes (get_or ws j no_wire)) → take (7 * length ws) r ≡ each wire_bytes ws
unfolding each
run_bytes_lem [] r h = refl
run_bytes_lem (w ∷ ws) r h =
    let one : (j : ℕ) → 7 + 7 * j ≡ 7 * suc j = λ j. omega arith in
    let rest : (j : ℕ) → j < length ws → take 7 (drop (7 * j) (drop 7 r)) ≡ wire_bytes (get_or ws j no_wire) =
    λ j l. ap (take 7) (drop-drop (7 * j) 7 r ∙ ap (λ (k : ℕ). drop k r) (one j)) ∙ h (suc j) (omega arith) in
    ap (λ (k : ℕ). take k r) (sym (one (length ws)))
    ∙ (take-add 7 (7 * length ws) r
    ∙ ap₂ (λ (a b : List ℕ). a ++ b) (h 0 (omega arith)) (run_bytes_lem ws (drop 7 r) rest))

-- THE LAW: the wire records of an accepted input are the bytes of its wires
pub section_bytes : (s : List ℕ) (c : Counts) → Accepts s c → ((k : ℕ) → byte s k < 256) → take (7 * c.wires) (drop (wires_offset c) s) ≡ each wire_bytes (graph_of s).wires
section_bytes s c a small =
    let from = 3 * length (graph_of s).nodes in
    rw (counted s c a) (run_bytes_lem (graph_of s).wires (drop from s) (λ j l. ap (take 7) (drop-drop (7 * j) from s) ∙ wire_bytes_lem s small j l))
