-- From each stage to the entry's result and buffer.
use Rattle.std.specs.Prelude.{Some, Ok, Err}
use mathlib.Core.Path.{◌≡◌, refl, sym, ap, ap₂, ◌∙◌, subst, subst₂}
use mathlib.Core.Bool.{Bool, true, false, cond}
use mathlib.Core.List.{List, [], ◌∷◌, ◌++◌}
use Prim.Native.Nat.{ℕ, suc, ◌+◌, ◌*◌, ◌<◌, ◌≤◌}
use native.Mathlib.Omega.{arith}
use lib.ListN.{length, get_or, drop, replicate, length-append}
use Rattle.ir.specs.Limits.{max_nodes, max_wires}
use Rattle.ir.specs.declared.Wire.{Wire}
use Rattle.value.specs.declared.Value.{Value}
use Rattle.encoding.specs.Numbers.{byte, splice, Written}
use Rattle.encoding.specs.Wires.{wire_bytes}
use Rattle.encoding.proofs.Splices.{written_length, written_more}
use Rattle.graph.specs.Graph.{Graph}
use Rattle.graph.specs.Decode.{accepted, refused, decode, graph_of}
use Rattle.graph.specs.Refusals.{number_of, place_of}
use Rattle.graph.specs.declared.Counts.{Counts}
use Rattle.graph.specs.declared.Refusal.{Refusal}
use Rattle.records.specs.Access.{wires_of, Accepts, wire_records}
use Rattle.records.proofs.Laid.{counted, bounded}
use Rattle.model.specs.Maps.{Map, is_some}
use Rattle.model.specs.Inputs.{size}
use Rattle.model.specs.Offer.{PlanAction, literals}
use Rattle.model.specs.Trial.{State}
use Rattle.model.specs.Answer.{each}
use Rattle.model.specs.Rewrite.{rewrite_wire, rewrite_wires}
use Rattle.model.specs.TargetCounts.{cap}
use Rattle.model.specs.Outcome.{endless_index, wire_offset, Result, folds, refuses, written, fold_graph, fold_bytes, by_verdict, outcome_by, outcome}
use Rattle.model.specs.Worklist.{worklist}
use Rattle.model.specs.Own.{set_nothing, own_of}
use Rattle.model.proofs.Own.{own_zeros}
use Rattle.model.proofs.Refusals.{at_refusal}
use Rattle.model.proofs.WireBytes.{section_bytes}
use Rattle.state.specs.Planned.{shape_of, Shaped}
use Rattle.rewrite.specs.Rewritable.{Rewritable}
use Rattle.rewrite.specs.Tallied.{Stuck, Counted, kept_wires}
use Rattle.rewrite.proofs.KeptTargets.{wires_kept, kept_few, kept_counted}
use Rattle.answer.specs.Nodes.{known_records, fate_records}
use Rattle.emit.specs.Emit.{or_nil, Ready}
use Rattle.propagation.specs.Propagation.{Settled}
use Rattle.propagation.proofs.Accepted.{accepted_graph, nodes_are, bounded_at}
use Rattle.folding.specs.Entry.{Returned, Answers, fold_by, Folds, Rewrote, Kept}
use Rattle.folding.proofs.Outcomes.{bytes_in, bytes_size, fold_endless, fold_many, fold_long, fold_folds}

-- a refusal leaves the buffer
pub refuse : {fold : List ℕ → ℕ → Result} {input before : List ℕ} (e : Refusal) → fold input (length before) ≡ refuses (number_of e) (place_of e) → Answers fold input before before (Err e)
unfolding written
refuse e q = record { result = rw q (refl, refl); buffer = rw q refl }

at_accepted : (input : List ℕ) (room : ℕ) {g : Graph} → decode input ≡ accepted g → outcome input room ≡ fold_graph fold_bytes (literals g) g room
unfolding outcome_by by_verdict
at_accepted input room e = rw (e, by_verdict)

-- questions 1 to 8 and 12
pub refuse_decode : (bytes : Graph → State → List Wire → List ℕ) {input before : List ℕ} (e : Refusal) → decode input ≡ refused (number_of e) (place_of e) → Answers (outcome_by bytes) input before before (Err e)
refuse_decode bytes {input} {before} e q = refuse e (at_refusal bytes input (length before) (number_of e) (place_of e) q)

-- with nothing set, a fold of the graph is the input's outcome
pub plain : {input : List ℕ} {c : Counts} {kinds words actions details : List ℕ} {pops : ℕ} {before after : List ℕ} {r : Returned} → Settled input (own_of (graph_of input) (replicate max_nodes set_nothing)) c kinds words actions details pops → Folds input c kinds words actions details pops before after r → Answers outcome input before after r
plain {input} {c} {before = before} {after = after} {r = r} S f =
    let g = graph_of input in
    let e : fold_graph fold_bytes (own_of g (replicate max_nodes set_nothing)) g (length before) ≡ outcome input (length before) = ap (λ (own : Map Value). fold_graph fold_bytes own g (length before)) (own_zeros g max_nodes) ∙ sym (at_accepted input (length before) (accepted_graph input c S.accepts)) in
    let a = f.law _ S in
    record { result = rw e at a.result; buffer = rw e at a.buffer }

-- the records of the nodes leave the room that there was for more
pub nodes_room : (kinds words actions : List ℕ) (n more : ℕ) {l m : List ℕ} {b : ℕ} → Written (known_records kinds words n ++ fate_records kinds words actions n) l m 0 b → length (known_records kinds words n) + length (fate_records kinds words actions n) + more ≤ length l → b + more ≤ length m
nodes_room kinds words actions n more w h =
    let e = length-append (known_records kinds words n) (fate_records kinds words actions n) in
    omega (arith, h, w.past, e, written_length w (omega (arith, h, e)))

pub splice_start : (l bs : List ℕ) → splice l 0 bs ≡ bs ++ drop (length bs) l
unfolding splice
splice_start l bs = let e : 0 + length bs ≡ length bs = omega arith in ap (λ (k : ℕ). bs ++ drop k l) e

module _ {own : Map Value} {input : List ℕ} {c : Counts} {kinds words actions details : List ℕ} {pops : ℕ} (W : Settled input own c kinds words actions details pops) where
  abbrev g : Graph
  g = graph_of input

  -- question 9
  pub refuse_endless : {before : List ℕ} {index place : ℕ} → Stuck (shape_of g.wires actions details) (size g) g.wires index → place ≡ 3 * c.nodes + 7 * index → Answers (fold_by own) input before before (Err (Refusal.Endless place))
  refuse_endless {before} {index} {place} S e =
      let z : place ≡ wire_offset g (endless_index (shape_of g.wires actions details) (size g) g.wires) = e ∙ ap₂ (λ (d : Counts) (i : ℕ). 3 * d.nodes + 7 * i) (counted input c W.accepts) S.first in
      refuse (Refusal.Endless place) (fold_endless own (length before) g kinds words actions details W.finished.holds S.endless ∙ ap (refuses 9) (sym z))

module _ {own : Map Value} {input : List ℕ} {c : Counts} {kinds words actions details : List ℕ} {count pops : ℕ} (W : Settled input own c kinds words actions details pops) (C : Counted (shape_of (graph_of input).wires actions details) (size (graph_of input)) (graph_of input).wires count) where
  abbrev h : Graph
  h = graph_of input

  abbrev ws : List Wire
  ws = C.rewritten

  -- question 10: too many wires
  pub refuse_many : {before : List ℕ} → max_wires < count → Answers (fold_by own) input before before (Err Refusal.NoSpace)
  unfolding cap
  refuse_many {before} l =
      refuse Refusal.NoSpace (fold_many own (length before) h kinds words actions details W.finished.holds ws C.ends (omega (arith, C.many)))

  module _ (l : count ≤ max_wires) where
    pub exact : count ≡ length ws
    unfolding cap
    exact = omega (arith, C.many)

    whole : length (bytes_in (size h) kinds words actions ws) ≡ length (known_records kinds words (size h)) + length (fate_records kinds words actions (size h)) + 7 * count
    whole = bytes_size (size h) kinds words actions ws ∙ omega (arith, exact)

    -- question 10: too long an answer
    pub refuse_long : {before : List ℕ} {size_of : ℕ} → size_of ≡ length (known_records kinds words (size h)) + length (fate_records kinds words actions (size h)) + 7 * count → length before < size_of → Answers (fold_by own) input before before (Err Refusal.NoSpace)
    refuse_long {before} {size_of} e m =
        refuse Refusal.NoSpace (fold_long own (length before) h kinds words actions details W.finished.holds ws C.ends (omega (arith, exact)) (omega (arith, whole)))

    ws_is : or_nil (rewrite_wires (shape_of h.wires actions details) (size h) h.wires) ≡ ws
    ws_is = ap or_nil C.ends

    pub ready : {sources targets first next : List ℕ} → Rewritable h.wires (size h) actions details sources targets first next → Ready h.wires (size h) actions details sources targets first next
    ready R =
        record {
          bounded = (unfold size in bounded input);
          shaped = W.finished.holds.shaped;
          rewritable = R;
          ends = C.ends ∙ ap Some (sym ws_is);
          few = omega (arith, ap length ws_is, exact);
        }

    -- the answer
    pub folded : {before two three : List ℕ} {b r : ℕ} → length (known_records kinds words (size h)) + length (fate_records kinds words actions (size h)) + 7 * count ≤ length before
        → Written (known_records kinds words (size h) ++ fate_records kinds words actions (size h)) before two 0 b → Written (each wire_bytes (or_nil (rewrite_wires (shape_of h.wires actions details) (size h) h.wires))) two three b r
        → Answers (fold_by own) input before three (Ok (record { length = r; pops = pops }))
    unfolding written
    folded {before} {two} {three} {b} {r} m y z =
        let T : List ℕ = each wire_bytes ws in
        let z' : Written T two three b r = rw ws_is at z in
        let w = written_more y (omega (arith, m, whole)) z' in
        let e : fold_graph fold_bytes own (graph_of input) (length before) ≡ folds (bytes_in (size h) kinds words actions ws) (worklist own h).pops = fold_folds own (length before) h kinds words actions details W.finished.holds ws C.ends (omega (arith, exact)) (omega (arith, m, whole)) in
        record {
          result = rw e (w.past ∙ omega arith, W.finished.pops_are);
          buffer = rw e (w.wrote ∙ splice_start before (bytes_in (size h) kinds words actions ws));
        }

    -- the same, where the code has the number of nodes and the wires
    module _ (n : ℕ) (vs : List Wire) (e : n ≡ size h) (f : vs ≡ h.wires) where
      pub long_at : {before : List ℕ} {size_of : ℕ} → size_of ≡ length (known_records kinds words n) + length (fate_records kinds words actions n) + 7 * count → length before < size_of → Answers (fold_by own) input before before (Err Refusal.NoSpace)
      long_at {before} {size_of} q m = refuse_long {before = before} {size_of = size_of} (rw e at q) m

      pub ready_at : {sources targets first next : List ℕ} → Rewritable h.wires (size h) actions details sources targets first next → Ready vs n actions details sources targets first next
      ready_at {sources} {targets} {first} {next} R = subst₂ (λ (m : ℕ) (us : List Wire). Ready us m actions details sources targets first next) (sym e) (sym f) (ready R)

      pub wires_at_lem : length (or_nil (rewrite_wires (shape_of vs actions details) n vs)) ≡ count
      wires_at_lem = rw (e, f) (ap length ws_is ∙ sym exact)

      pub folded_at : {before two three : List ℕ} {b r : ℕ} → length (known_records kinds words n) + length (fate_records kinds words actions n) + 7 * count ≤ length before
          → Written (known_records kinds words n ++ fate_records kinds words actions n) before two 0 b → Written (each wire_bytes (or_nil (rewrite_wires (shape_of vs actions details) n vs))) two three b r
          → Answers (fold_by own) input before three (Ok (record { length = r; pops = pops }))
      folded_at m y z = folded (rw e at m) (rw e at y) (rw (e, f) at z)

-- ---- where neither a Select nor a Branch is planned

module _ {own : Map Value} {input : List ℕ} {c : Counts} {kinds words actions details : List ℕ} {pops size_of : ℕ} (W : Settled input own c kinds words actions details pops) (K : Kept input c kinds words actions details pops size_of) {vs : List Wire} (f : vs ≡ (graph_of input).wires) where
  nodes_of : c.nodes ≡ size (graph_of input)
  nodes_of = nodes_are input c W.accepts

  pub wires_are : c.wires ≡ length vs
  wires_are = ap (λ (d : Counts). d.wires) (counted input c W.accepts) ∙ sym (ap length f)

  low_at : (m : ℕ) → m < size (graph_of input) → get_or actions m 0 ≤ 1
  low_at m l = K.low m (omega (arith, nodes_of, l))

  shape : Shaped (graph_of input).wires (size (graph_of input)) actions details
  shape = W.finished.holds.shaped

  few : length (kept_wires actions (graph_of input).wires) ≤ length vs
  few = omega (arith, kept_few actions (graph_of input).wires, ap length f)

  pub few_wires : length vs ≤ max_wires
  few_wires = omega (arith, (bounded input).few_wires, ap length f)

  tallied : Counted (shape_of (graph_of input).wires actions details) (size (graph_of input)) (graph_of input).wires (length (kept_wires actions (graph_of input).wires))
  tallied =
      kept_counted (graph_of input).wires actions details (size (graph_of input)) shape low_at (graph_of input).wires (omega (arith, few, few_wires)) _ refl

  stay : or_nil (rewrite_wires (shape_of vs actions details) c.nodes vs) ≡ kept_wires actions vs
  stay = rw (nodes_of, f) (ap or_nil (wires_kept (graph_of input).wires actions details (size (graph_of input)) shape low_at (graph_of input).wires))

  pub kept_folded : {before two three : List ℕ} {b r : ℕ} → length before ≡ size_of
      → Written (known_records kinds words c.nodes ++ fate_records kinds words actions c.nodes) before two 0 b → Written (each wire_bytes (kept_wires actions vs)) two three b r
      → Answers (fold_by own) input before three (Ok (record { length = r; pops = pops }))
  kept_folded {two = two} {three = three} {b = b} {r = r} e y z =
      folded_at W tallied (omega (arith, few, few_wires)) c.nodes vs nodes_of f (omega (arith, K.fits, few, wires_are, e)) y (subst (λ (us : List Wire). Written (each wire_bytes us) two three b r) (sym stay) z)

-- ---- what each stage needs of the one before

index_low : (p : Map PlanAction) (n : ℕ) (ws : List Wire) → endless_index p n ws ≤ length ws
unfolding endless_index
index_low p n [] = omega arith
index_low p n (w ∷ ws) = go (is_some (rewrite_wire p n w)) (index_low p n ws)
  where
    go : (b : Bool) → endless_index p n ws ≤ length ws → cond b (suc (endless_index p n ws)) 0 ≤ suc (length ws)
    go true h = omega arith
    go false h = omega arith

-- the part of the input where the wire records stand is those records' bytes
pub section_records : (input : List ℕ) (c : Counts) {r : List ℕ} → Accepts input c → r ≡ wire_records input c → wires_of r ≡ (graph_of input).wires → ((k : ℕ) → byte input k < 256) → r ≡ each wire_bytes (wires_of r)
section_records input c a e f small = e ∙ (section_bytes input c a small ∙ ap (each wire_bytes) (sym f))

module _ {own : Map Value} {input : List ℕ} {c : Counts} {kinds words actions details : List ℕ} {pops : ℕ} (W : Settled input own c kinds words actions details pops) {vs : List Wire} (f : vs ≡ (graph_of input).wires) where
  nodes : c.nodes ≡ size (graph_of input)
  nodes = nodes_are input c W.accepts

  pub shaped_at : Shaped vs c.nodes actions details
  shaped_at = subst₂ (λ (m : ℕ) (us : List Wire). Shaped us m actions details) (sym nodes) (sym f) W.finished.holds.shaped

  pub stuck_at : {index : ℕ} → Stuck (shape_of vs actions details) c.nodes vs index → Stuck (shape_of (graph_of input).wires actions details) (size (graph_of input)) (graph_of input).wires index
  stuck_at {index} S = subst₂ (λ (m : ℕ) (us : List Wire). Stuck (shape_of us actions details) m us index) nodes f S

  pub small_place : {index : ℕ} → Stuck (shape_of vs actions details) c.nodes vs index → (index ≤ 4096) × (3 * c.nodes ≤ 3072)
  unfolding size
  small_place {index} S = (omega (arith, S.first, index_low (shape_of vs actions details) c.nodes vs, (bounded_at input c W.accepts f).few_wires), omega (arith, (bounded_at input c W.accepts f).few_nodes))

  pub rewrote_at : {sources targets first next : List ℕ} {count : ℕ} → Counted (shape_of vs actions details) c.nodes vs count → Rewritable vs c.nodes actions details sources targets first next → Rewrote input c kinds words actions details sources targets first next count pops
  rewrote_at {sources} {targets} {first} {next} {count} C R =
      record {
        worked = record { own = own; settled = W };
        rewritable = subst₂ (λ (m : ℕ) (us : List Wire). Rewritable us m actions details sources targets first next) nodes f R;
        counted = subst₂ (λ (m : ℕ) (us : List Wire). Counted (shape_of us actions details) m us count) nodes f C;
      }
