-- The wires that stay, and the copy of all where nothing is planned.
use mathlib.Core.Path.{◌≡◌, refl, sym, ap, ◌∙◌, subst}
use mathlib.Core.Bool.{cond}
use mathlib.Core.List.{List, [], ◌∷◌, ◌++◌}
use Prim.Native.Nat.{ℕ, ◌+◌, ◌≤◌, ◌<◌}
use native.Mathlib.Numerals.{add-one}
use native.Mathlib.Omega.{arith}
use lib.Dec.{eqb}
use lib.ListN.{length, get_or, set, take, length-append}
use lib.Seq.{take-suc, take_all, length-take-le}
use borrow.Author.Tests.{ne_eqb}
use Rattle.ir.specs.Ports.{output}
use Rattle.encoding.specs.Numbers.{Written}
use Rattle.encoding.proofs.Splices.{written_length, written_more, stored_1}
use Rattle.answer.proofs.Fill.{written_none}
use Rattle.encoding.specs.Wires.{wire_bytes}
use Rattle.ir.specs.declared.Wire.{Wire}
use Rattle.records.specs.Access.{wires_of, no_wire}
use Rattle.model.specs.Answer.{each}
use Rattle.model.specs.Maps.{up_to}
use Rattle.model.proofs.Each.{each_append, wires_size}
use Rattle.rewrite.specs.Tallied.{kept_wire, kept_wires}
use Rattle.rewrite.proofs.KeptTargets.{kept_few, all_kept}
use Rattle.emit.specs.Emit.{KeepsAll}
use Rattle.emit.proofs.Writing.{by_number}

-- the first i bytes are copied, of those that fit
pub record Copying (bs l m : List ℕ) (at i : ℕ) : Type 0 where
  pub within : i ≤ length bs
  pub room : at + length bs ≤ length l
  pub wrote : Written (take i bs) l m at (at + i)

pub copy_start : (bs l : List ℕ) (at : ℕ) → at + length bs ≤ length l → Copying bs l l at 0
copy_start bs l at h = record { within = omega arith; room = h; wrote = record { wrote = (written_none l at (omega arith)).wrote; past = omega arith } }

module _ {bs l m : List ℕ} {at i : ℕ} (s : Copying bs l m at i) where
  pub copy_long : length m ≡ length l
  copy_long = written_length s.wrote (omega (arith, s.room, s.within, length-take-le i bs s.within))

  pub copy_next : i < length bs → Copying bs l (set m (at + i) (get_or bs i 0)) at (i + 1)
  copy_next h =
      let e : take (i + 1) bs ≡ take i bs ++ (get_or bs i 0 ∷ []) = ap (λ (k : ℕ). take k bs) (add-one i) ∙ take-suc bs i 0 h in
      let long : length (take i bs ++ (get_or bs i 0 ∷ [])) ≡ i + 1 = length-append (take i bs) (get_or bs i 0 ∷ []) ∙ omega (arith, length-take-le i bs s.within) in
      let w = written_more s.wrote (omega (arith, s.room, long)) (stored_1 m (at + i) (get_or bs i 0) (omega (arith, s.room, copy_long))) in
      record { within = omega arith; room = s.room; wrote = record { wrote = rw e w.wrote; past = rw e (omega (arith, long)) } }

  pub copy_end : length bs ≤ i → Written bs l m at (at + length bs)
  copy_end h =
      let e : i ≡ length bs = omega (arith, s.within, h) in
      rw e at (rw (take_all i bs h) at s.wrote)

-- ---- the wires that stay

module _ (actions : List ℕ) {v w : Wire} (e : v ≡ w) where
  pub wire_goes : (get_or actions v.target.node_id 0 ≡ 0 → ⊥) → kept_wire actions w ≡ []
  unfolding kept_wire
  wire_goes h = rw (← e, ne_eqb (get_or actions v.target.node_id 0) 0 h) refl

  pub wire_stays : {port : ℕ} → get_or actions v.target.node_id 0 ≡ 0 → port ≡ cond (eqb (get_or actions v.source.node_id 0) 0) v.source.port output
      → kept_wire actions w ≡ record { source = record { node_id = v.source.node_id; port = port }; target = v.target } ∷ []
  unfolding kept_wire
  wire_stays h p = rw (← e, h, p) refl

module _ {wires : List ℕ} {n at size : ℕ} (K : KeepsAll wires n at size) where
  pub copy_room : at + length wires ≤ size
  copy_room = omega (arith, K.room, ap length K.records, wires_size (wires_of wires))

  -- nothing is planned
  pub copied : (actions : List ℕ) → ((m : ℕ) → m < n → get_or actions m 0 ≤ 0) → {before after : List ℕ} {past : ℕ} → Written wires before after at past → Written (each wire_bytes (kept_wires actions (wires_of wires))) before after at past
  copied actions low {before} {after} {past} w =
      subst (λ (l : List ℕ). Written l before after at past) (K.records ∙ ap (each wire_bytes) (sym (all_kept actions n (λ m l. omega (arith, low m l)) (wires_of wires) K.bounded.named))) w

  -- the bytes of the wires that stay, by the numbers of all
  kept_bytes : (actions : List ℕ) (ws : List Wire) → each (λ w. each wire_bytes (kept_wire actions w)) ws ≡ each wire_bytes (kept_wires actions ws)
  unfolding each kept_wires
  kept_bytes actions [] = refl
  kept_bytes actions (w ∷ ws) = ap (λ (l : List ℕ). each wire_bytes (kept_wire actions w) ++ l) (kept_bytes actions ws) ∙ sym (each_append wire_bytes (kept_wire actions w) (kept_wires actions ws))

  pub kept_each : (actions : List ℕ) → each (λ i. each wire_bytes (kept_wire actions (get_or (wires_of wires) i no_wire))) (up_to (length (wires_of wires))) ≡ each wire_bytes (kept_wires actions (wires_of wires))
  kept_each actions =
      by_number (λ w. each wire_bytes (kept_wire actions w)) (wires_of wires) (length (wires_of wires)) (omega arith)
      ∙ (ap (each (λ w. each wire_bytes (kept_wire actions w))) (take_all (length (wires_of wires)) (wires_of wires) (omega arith)) ∙ kept_bytes actions (wires_of wires))

  pub kept_room : (actions : List ℕ) → at + length (each (λ i. each wire_bytes (kept_wire actions (get_or (wires_of wires) i no_wire))) (up_to (length (wires_of wires)))) ≤ size
  kept_room actions = rw (kept_each actions) (omega (arith, K.room, wires_size (kept_wires actions (wires_of wires)), kept_few actions (wires_of wires)))
