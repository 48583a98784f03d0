-- What the stage finds is what the model's `rewritten` says; and what its front of the buffer then has.
use Rattle.std.specs.Prelude.{Option, None, Some, Ok, Err}
use mathlib.Core.Path.{◌≡◌, refl, sym, ap, ap₂, ◌∙◌, subst}
use mathlib.Core.Bool.{Bool, true, false, cond}
use mathlib.Core.List.{List}
use Prim.Native.Nat.{ℕ, ◌+◌, ◌*◌, ◌/◌, ◌<◌, ◌≤◌}
use native.Mathlib.Omega.{arith}
use lib.Dec.{leb}
use lib.ListN.{length, get_or, take, drop, replicate, length-append}
use lib.Seq.{take_at}
use borrow.Author.Tests.{le-leb, lt-leb, leb-true}
use Rattle.ir.specs.Limits.{max_nodes, max_wires}
use Rattle.ir.specs.declared.Wire.{Wire}
use Rattle.value.specs.declared.Value.{Value}
use Rattle.encoding.specs.Numbers.{Written}
use Rattle.encoding.specs.Wires.{wire_bytes}
use Rattle.graph.specs.Graph.{Graph}
use Rattle.graph.specs.Decode.{graph_of}
use Rattle.graph.specs.Refusals.{number_of, place_of}
use Rattle.graph.specs.declared.Counts.{Counts}
use Rattle.graph.specs.declared.Refusal.{Refusal}
use Rattle.records.specs.Access.{wires_of, Bounded}
use Rattle.records.proofs.Laid.{counted, bounded}
use Rattle.model.specs.Maps.{Map}
use Rattle.model.specs.Inputs.{size}
use Rattle.model.specs.Offer.{PlanAction, literals}
use Rattle.model.specs.Own.{own_of}
use Rattle.model.proofs.Own.{own_zeros}
use Rattle.model.specs.Worklist.{worklist}
use Rattle.model.specs.Rewrite.{rewrite_wires}
use Rattle.model.specs.Answer.{each}
use Rattle.model.specs.TargetCounts.{cap}
use Rattle.model.specs.Outcome as Outcomes
use Rattle.model.specs.Outcome.{endless_index, wire_offset, ending, rewritten}
use Rattle.state.specs.Planned.{shape_of}
use Rattle.rewrite.specs.Tallied.{Stuck, Counted, kept_wires}
use Rattle.rewrite.proofs.KeptTargets.{wires_kept, kept_few}
use Rattle.emit.specs.Emit.{or_nil}
use Rattle.model.proofs.Each.{wires_size}
use Rattle.propagation.specs.Propagation.{Settled}
use Rattle.propagation.proofs.Accepted.{nodes_are}
use Rattle.folding.proofs.Outcomes.{plan_same, index_of}
use Rattle.folding.proofs.Stages.{exact, splice_start}
use Rattle.rewritten.specs.Rewritten.{IsCase, records_of, fronted, RewritesBy}
use Rattle.rewritten.proofs.Named.{rewritten_bounded}
use Rattle.rewritten.proofs.Back.{wires_back}

module _ {own : Map Value} {input : List ℕ} {c : Counts} {kinds words actions details : List ℕ} {pops : ℕ} (W : Settled input own c kinds words actions details pops) where
  abbrev g : Graph
  g = graph_of input

  abbrev plan : Map PlanAction
  plan = (worklist own g).state.plan

  abbrev shape : Map PlanAction
  shape = shape_of g.wires actions details

  at_wires : (o : Option (List Wire)) → rewrite_wires shape (size g) g.wires ≡ o → rewritten g plan ≡ ending g plan o
  unfolding rewritten
  at_wires o e = ap (ending g plan) (plan_same own 0 g kinds words actions details W.finished.holds (size g) g.wires ∙ e)

  refuse : {before : List ℕ} (e : Refusal) → rewritten g plan ≡ Outcomes.stops (number_of e) (place_of e) → RewritesBy g plan before before (Err e)
  refuse e q = record { result = rw q (refl, refl); buffer = rw q refl }

  -- question 9
  pub refuse_endless : {before : List ℕ} {index place : ℕ} → Stuck shape (size g) g.wires index → place ≡ 3 * c.nodes + 7 * index → RewritesBy g plan before before (Err (Refusal.Endless place))
  unfolding ending
  refuse_endless {before} {index} {place} S e =
      let z : place ≡ wire_offset g (endless_index shape (size g) g.wires) = e ∙ ap₂ (λ (d : Counts) (i : ℕ). 3 * d.nodes + 7 * i) (counted input c W.accepts) S.first in
      refuse (Refusal.Endless place) (at_wires None S.endless ∙ ap (λ (i : ℕ). Outcomes.stops 9 (wire_offset g i)) (index_of own 0 g kinds words actions details W.finished.holds (size g) g.wires) ∙ ap (Outcomes.stops 9) (sym z))

  -- the records of the wires, and how many there are
  wrote_wires : (ws : List Wire) → rewrite_wires shape (size g) g.wires ≡ Some ws → length ws ≤ max_wires → {count : ℕ} → count ≡ length ws → {before after : List ℕ} {past : ℕ} → Written (each wire_bytes ws) before after 0 past → RewritesBy g plan before after (Ok count)
  unfolding ending Outcomes.counted
  wrote_wires ws e few many {before} w =
      let are : rewritten g plan ≡ Outcomes.wires ws = at_wires (Some ws) e ∙ rw (le-leb (length ws) max_wires few) refl in
      record { result = rw are many; buffer = rw are (w.wrote ∙ splice_start before (each wire_bytes ws)) }

  module _ {count : ℕ} (C : Counted shape (size g) g.wires count) where
    -- question 10 of their count
    pub refuse_many : {before : List ℕ} → max_wires < count → RewritesBy g plan before before (Err Refusal.NoSpace)
    unfolding cap ending Outcomes.counted
    refuse_many l = refuse Refusal.NoSpace (at_wires (Some C.rewritten) C.ends ∙ rw (lt-leb (length C.rewritten) max_wires (omega (arith, C.many))) refl)

    -- their records, where the code has the number of nodes and the wires
    pub wrote : count ≤ max_wires → (n : ℕ) (vs : List Wire) → n ≡ size g → vs ≡ g.wires → {before after : List ℕ} {past : ℕ} → Written (each wire_bytes (or_nil (rewrite_wires (shape_of vs actions details) n vs))) before after 0 past → RewritesBy g plan before after (Ok count)
    wrote l n vs e f w =
        let z : or_nil (rewrite_wires (shape_of vs actions details) n vs) ≡ C.rewritten = rw (e, f) (ap or_nil C.ends) in
        wrote_wires C.rewritten C.ends (omega (arith, exact W C l)) (exact W C l) (rw z at w)

  -- the wires of a graph in which neither a Select nor a Branch is planned
  pub wrote_kept : ((m : ℕ) → m < c.nodes → get_or actions m 0 ≤ 1) → (vs : List Wire) → vs ≡ g.wires → {before after : List ℕ} {past : ℕ} → Written (each wire_bytes (kept_wires actions vs)) before after 0 past → RewritesBy g plan before after (Ok (past / 7))
  wrote_kept low vs f {past = past} w =
      let e : rewrite_wires shape (size g) g.wires ≡ Some (kept_wires actions g.wires) = wires_kept g.wires actions details (size g) W.finished.holds.shaped (λ m l. low m (omega (arith, l, nodes_are input c W.accepts))) g.wires in
      let v : Written (each wire_bytes (kept_wires actions g.wires)) _ _ 0 past = rw f at w in
      let many : past ≡ 7 * length (kept_wires actions g.wires) = omega (arith, v.past, wires_size (kept_wires actions g.wires)) in
      wrote_wires (kept_wires actions g.wires) e (omega (arith, kept_few actions g.wires, (bounded input).few_wires)) (omega (arith, many)) v

-- ---- what follows from the result and the buffer

-- the rewritten wires, as they stand at the front of the buffer
pub record Fronts (g : Graph) (p : Map PlanAction) (after : List ℕ) (count : ℕ) : Type 0 where
  pub wires : List Wire
  pub are : rewritten g p ≡ Outcomes.wires wires
  pub ends : rewrite_wires p (size g) g.wires ≡ Some wires
  pub many : count ≡ length wires
  pub front : take (7 * count) after ≡ each wire_bytes wires
  pub bounded : Bounded wires (size g)
  pub read : wires_of (take (7 * count) after) ≡ wires
  pub inside : 7 * count ≤ length after

module _ {own : Map Value} {input : List ℕ} {c : Counts} {kinds words actions details : List ℕ} {pops : ℕ} (W : Settled input own c kinds words actions details pops) {before after : List ℕ} {count : ℕ} (R : RewritesBy (graph_of input) (worklist own (graph_of input)).state.plan before after (Ok count)) (long : length before ≡ 7 * max_wires) where
  abbrev h : Graph
  h = graph_of input

  abbrev q : Map PlanAction
  q = (worklist own h).state.plan

  front_of : (ws : List Wire) → rewritten h q ≡ Outcomes.wires ws → rewrite_wires q (size h) h.wires ≡ Some ws → length ws ≤ max_wires → Fronts h q after count
  front_of ws e s few_wires =
      let many : count ≡ length ws = rw e at R.result in
      let b : Bounded ws (size h) = rewritten_bounded (size h) h.wires actions details (unfold size in bounded input) W.finished.holds.shaped ws (sym (plan_same own 0 h kinds words actions details W.finished.holds (size h) h.wires) ∙ s) few_wires in
      let is : after ≡ fronted (each wire_bytes ws) before = R.buffer ∙ ap (λ (x : Outcomes.Rewriting). fronted (records_of x) before) e in
      let f : take (7 * count) after ≡ each wire_bytes ws = ap (take (7 * count)) is ∙ take_at (each wire_bytes ws) (drop (length (each wire_bytes ws)) before) (7 * count) (omega (arith, wires_size ws, many)) in
      record {
        wires = ws;
        are = e;
        ends = s;
        many = many;
        front = f;
        bounded = b;
        read = ap wires_of f ∙ wires_back ws (size h) b;
        inside = omega (arith, ap length is, length-append (each wire_bytes ws) (drop (length (each wire_bytes ws)) before), wires_size ws, many);
      }

  counted_is : (ws : List Wire) (b : Bool) → leb (length ws) max_wires ≡ b → Outcomes.counted ws ≡ cond b (Outcomes.wires ws) (Outcomes.stops 10 0)
  unfolding Outcomes.counted
  counted_is ws b e = rw e refl

  ending_is : (o : Option (List Wire)) → rewrite_wires q (size h) h.wires ≡ o → rewritten h q ≡ ending h q o
  unfolding rewritten
  ending_is o e = ap (ending h q) e

  stops_none : {X : Type 0} {n p : ℕ} → rewritten h q ≡ Outcomes.stops n p → X
  stops_none e = absurd (rw e at R.result)

  some_at : (ws : List Wire) → rewrite_wires q (size h) h.wires ≡ Some ws → (b : Bool) → leb (length ws) max_wires ≡ b → Fronts h q after count
  unfolding ending
  some_at ws s true e = front_of ws (ending_is (Some ws) s ∙ counted_is ws true e) s (leb-true (length ws) max_wires e)
  some_at ws s false e = stops_none (ending_is (Some ws) s ∙ counted_is ws false e)

  fronts_at : (o : Option (List Wire)) → rewrite_wires q (size h) h.wires ≡ o → Fronts h q after count
  unfolding ending
  fronts_at None s = stops_none (ending_is None s)
  fronts_at (Some ws) s = some_at ws s _ refl

  pub fronts : Fronts h q after count
  fronts = fronts_at _ refl

-- a refusal is the model's
pub refused_as : {g : Graph} {p : Map PlanAction} {before after : List ℕ} {e : Refusal} → RewritesBy g p before after (Err e) → rewritten g p ≡ Outcomes.stops (number_of e) (place_of e)
refused_as {g} {p} {e = e} R = go (rewritten g p) refl R.result
  where
    go : (x : Outcomes.Rewriting) → rewritten g p ≡ x → IsCase x (Err e) → rewritten g p ≡ Outcomes.stops (number_of e) (place_of e)
    go (Outcomes.wires ws) q r = absurd r
    go (Outcomes.stops m j) q r = q ∙ ap₂ Outcomes.stops (sym r.0) (sym r.1)

-- with nothing set, the nodes are by themselves what their Values say
pub settled_plain : {input : List ℕ} {c : Counts} {kinds words actions details : List ℕ} {pops : ℕ} → Settled input (own_of (graph_of input) (replicate max_nodes 0)) c kinds words actions details pops → Settled input (literals (graph_of input)) c kinds words actions details pops
settled_plain {input} {c} {kinds} {words} {actions} {details} {pops} S = subst (λ (own : Map Value). Settled input own c kinds words actions details pops) (own_zeros (graph_of input) max_nodes) S
