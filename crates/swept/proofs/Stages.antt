-- From each stage to the entry's result and buffer.
use Rattle.std.specs.Prelude.{Option, Ok, Err}
use mathlib.Core.Path.{◌≡◌, refl, sym, ap, ap₂, ◌∙◌, subst, fun_ext}
use mathlib.Core.Bool.{Bool, true, false, cond, not}
use mathlib.Core.List.{List, ◌++◌}
use Prim.Native.Nat.{ℕ, zero, suc, ◌+◌, ◌-◌, ◌*◌, ◌<◌, ◌≤◌}
use native.Mathlib.Nat.{sub-zero}
use native.Mathlib.Omega.{arith}
use lib.Dec.{leb}
use lib.ListN.{length, get_or, take}
use borrow.Author.Tests.{leb-true, leb-false}
use Rattle.ir.specs.Limits.{max_nodes, max_wires}
use Rattle.ir.specs.declared.Wire.{Wire}
use Rattle.value.specs.declared.Value.{Value}
use Rattle.encoding.specs.Numbers.{Written}
use Rattle.encoding.specs.Wires.{wire_bytes}
use Rattle.encoding.proofs.Splices.{written_more}
use Rattle.graph.specs.Graph.{Graph}
use Rattle.graph.specs.Decode.{accepted, decode, graph_of}
use Rattle.graph.specs.declared.Counts.{Counts}
use Rattle.graph.specs.declared.Refusal.{Refusal}
use Rattle.records.specs.Access.{wires_of, Bounded}
use Rattle.records.proofs.Laid.{few_nodes}
use Rattle.model.specs.Maps.{Map, up_to, keep}
use Rattle.model.specs.Inputs.{size}
use Rattle.model.specs.Offer.{PlanAction, literals}
use Rattle.model.specs.Answer.{each, known_bytes, fate_bytes}
use Rattle.model.specs.Outcome as Outcomes
use Rattle.model.specs.Demands.{fold_of, plan_of}
use Rattle.model.proofs.Lists.{length_keep, count_length}
use Rattle.model.proofs.Each.{each_up}
use Rattle.answer.specs.Nodes.{known_records, fate_by, fate_records}
use Rattle.propagation.specs.Propagation.{Settled}
use Rattle.propagation.proofs.Accepted.{accepted_graph, nodes_are}
use Rattle.folding.specs.Entry.{Answers}
use Rattle.folding.proofs.Outcomes.{fate_same, bytes_in, bytes_size}
use Rattle.rewritten.specs.Rewritten.{RewritesBy}
use Rattle.rewritten.proofs.Stages.{Fronts, fronts}
use Rattle.rewritten.proofs.Entries as entries
use Rattle.sweep.specs.Removals.{is_taken, wires_left}
use Rattle.sweep.specs.Eligible.{eligible}
use Rattle.sweep.specs.Queue.{eligible_in, eligible_at, stays_in, Marked}
use Rattle.sweep.specs.Swept.{taken_of, swept_fate, swept_answer, swept_bytes}
use Rattle.sweep.proofs.Marks.{eligible_is, eligible_within}
use Rattle.sweep.proofs.Lists.{keep_same}
use Rattle.swept.specs.Entry.{swept_outcome, Emitted, Removes, Swept}

-- ---- the bytes

pub each_below : (f h : ℕ → List ℕ) (n : ℕ) → ((i : ℕ) → i < n → f i ≡ h i) → each f (up_to n) ≡ each h (up_to n)
unfolding up_to each
each_below f h zero e = refl
each_below f h (suc n) e = each_up f n ∙ (ap₂ (λ (a b : List ℕ). a ++ b) (each_below f h n (λ i l. e i (omega arith))) (e n (omega arith)) ∙ sym (each_up h n))

-- a node that goes has the fate of its new action
swept_fate_lem : (b : Bool) (i action : ℕ) (p : Option PlanAction) (o : Option Value) → fate_bytes i p ≡ fate_by i action o → swept_fate b i p ≡ fate_by i (cond b 2 action) o
unfolding swept_fate fate_by
swept_fate_lem true i action p o e = refl
swept_fate_lem false i action p o e = e

module _ {input : List ℕ} {c : Counts} {kinds words swept wires : List ℕ} {marks : List Bool} {pops : ℕ} (S : Swept input c kinds words swept wires marks pops) where
  abbrev g : Graph
  g = graph_of input

  abbrev E : Emitted input c kinds words S.actions S.details wires pops
  E = S.emitted

  abbrev W : Settled input (literals g) c kinds words S.actions S.details pops
  W = E.worked

  abbrev left : List Wire
  left = keep (stays_in marks) (wires_of wires)

  abbrev taken : ℕ → Bool
  taken = taken_of g (plan_of g) (wires_of wires)

  few : size g ≤ max_nodes
  unfolding size
  few = few_nodes input

  fates_same : (i : ℕ) → i < size g → swept_fate (taken i) i (plan_of g i) ≡ fate_by i (get_or swept i 0) ((fold_of g).state.known i)
  fates_same i l =
      swept_fate_lem (taken i) i (get_or S.actions i 0) (plan_of g i) ((fold_of g).state.known i)
      (ap (λ (p : Map PlanAction). fate_bytes i (p i)) W.finished.holds.plan ∙ fate_same g.wires (fold_of g).state.known S.actions S.details i (W.finished.holds.shaped.listed i))
      ∙ ap (λ (a : ℕ). fate_by i a ((fold_of g).state.known i)) (sym (S.removes.actions_are i (omega (arith, few)) ∙ ap (λ (b : Bool). cond b 2 (get_or S.actions i 0)) (S.removes.marked i)))

  wires_same_left : wires_left taken (wires_of wires) ≡ left
  wires_same_left = keep_same (λ w. not (taken w.target.node_id)) (stays_in marks) (λ w. ap not (sym (S.removes.marked w.target.node_id))) (wires_of wires)

  answer_same : swept_bytes g (fold_of g).state (wires_of wires) ≡ bytes_in (size g) kinds words swept left
  unfolding swept_answer
  answer_same =
      ap₂ (λ (a b : List ℕ). a ++ b)
      (ap₂ (λ (a b : List ℕ). a ++ b)
      (each_below (λ i. known_bytes i ((fold_of g).state.known i)) _ (size g) (λ i l. ap (λ (m : Map Value). known_bytes i (m i)) W.finished.holds.known))
      (each_below (λ i. swept_fate (taken i) i (plan_of g i)) _ (size g) (λ i l. fates_same i l ∙ ap (λ (m : Map Value). fate_by i (get_or swept i 0) (m i)) W.finished.holds.known)))
      (ap (each wire_bytes) wires_same_left)

  read : decode input ≡ accepted g
  read = accepted_graph input c W.accepts

  pub few_left : length left ≤ max_wires
  few_left = omega (arith, length_keep (stays_in marks) (wires_of wires), count_length (stays_in marks) (wires_of wires), E.bounded.few_wires)

  -- where the code has the number of nodes and how many wires are left
  module _ (n count : ℕ) (e : n ≡ size g) (f : count ≡ length left) where
    sizes : length (swept_bytes g (fold_of g).state (wires_of wires)) ≡ length (known_records kinds words n) + length (fate_records kinds words swept n) + 7 * count
    sizes = ap length answer_same ∙ rw (e, f) (bytes_size (size g) kinds words swept left)

    -- what `holds` says
    pub fit : (room : ℕ) {b : Bool} → b ≡ leb (length (known_records kinds words n) + length (fate_records kinds words swept n) + 7 * count) room → b ≡ true → length (known_records kinds words n) + length (fate_records kinds words swept n) + 7 * count ≤ room
    fit room p q = leb-true (length (known_records kinds words n) + length (fate_records kinds words swept n) + 7 * count) room (sym p ∙ q)

    -- question 10: too long an answer
    pub refuse_long : {before : List ℕ} → leb (length (known_records kinds words n) + length (fate_records kinds words swept n) + 7 * count) (length before) ≡ false → Answers swept_outcome input before before (Err Refusal.NoSpace)
    refuse_long {before} q = entries.refuse_long swept_bytes read E.rewrote (omega (arith, sizes, leb-false (length (known_records kinds words n) + length (fate_records kinds words swept n) + 7 * count) (length before) q))

    -- the answer
    pub folded : {before two three : List ℕ} {b r : ℕ} → length (known_records kinds words n) + length (fate_records kinds words swept n) + 7 * count ≤ length before
        → Written (known_records kinds words n ++ fate_records kinds words swept n) before two 0 b → Written (each wire_bytes left) two three b r
        → Answers swept_outcome input before three (Ok (record { length = r; pops = pops }))
    folded {before} {two} {three} {b} {r} m y z =
        let w : Written (bytes_in (size g) kinds words swept left) before three 0 r = written_more (rw e at y) (omega (arith, m, sizes, ap length answer_same)) z in
        entries.answer_written swept_bytes read E.rewrote (omega (arith, m, sizes)) (subst (λ (l : List ℕ). Written l before three 0 r) (sym answer_same) w) W.finished.pops_are

-- ---- the rewritten wires at the front of the buffer

module _ {input : List ℕ} {c : Counts} {kinds words actions details : List ℕ} {pops : ℕ} (W : Settled input (literals (graph_of input)) c kinds words actions details pops) {before after : List ℕ} {count : ℕ} (R : RewritesBy (graph_of input) (plan_of (graph_of input)) before after (Ok count)) (long : length before ≡ 7 * max_wires) where
  F : Fronts (graph_of input) (plan_of (graph_of input)) after count
  F = fronts W R long

  pub front_inside : 7 * count ≤ length after
  front_inside = F.inside

  pub emitted_at : {front : List ℕ} → front ≡ take (7 * count) after → Emitted input c kinds words actions details front pops
  emitted_at {front} e =
      let z : wires_of front ≡ F.wires = ap wires_of e ∙ F.read in
      record {
        worked = W;
        rewrote = F.are ∙ ap Outcomes.wires (sym z);
        bounded = subst (λ (us : List Wire). Bounded us (size (graph_of input))) (sym z) F.bounded;
      }

-- as the code takes it
pub emitted_front : {input : List ℕ} {c : Counts} {kinds words actions details : List ℕ} {pops : ℕ} (buffer : List ℕ) (k : ℕ) → Emitted input c kinds words actions details (take k buffer) pops → Emitted input c kinds words actions details (take (k - 0) buffer) pops
emitted_front {input} {c} {kinds} {words} {actions} {details} {pops} buffer k E = subst (λ (m : ℕ). Emitted input c kinds words actions details (take m buffer) pops) (sym (sub-zero k)) E

-- ---- the nodes that go

module _ {input : List ℕ} {c : Counts} {kinds words actions details wires : List ℕ} {pops : ℕ} (E : Emitted input c kinds words actions details wires pops) where
  nodes_of : c.nodes ≡ size (graph_of input)
  nodes_of = nodes_are input c E.worked.accepts

  pub nodes_in : (c.nodes ≡ length (graph_of input).nodes) × (c.nodes ≤ max_nodes)
  unfolding size
  nodes_in = (nodes_of, omega (arith, nodes_of, few_nodes input))

  pub bounded_in : Bounded (wires_of wires) c.nodes
  bounded_in = rw nodes_of E.bounded

  module _ (marked : List Bool) (m : (n : ℕ) → eligible_in marked n ≡ eligible_at (graph_of input) actions n) where
    by_plan : (n : ℕ) → eligible_in marked n ≡ eligible (graph_of input) (plan_of (graph_of input)) n
    by_plan n = m n ∙ eligible_is E.worked.finished.holds n

    pub within : (n : ℕ) → eligible_in marked n ≡ true → n < c.nodes
    within n e = omega (arith, nodes_of, eligible_within (graph_of input) (plan_of (graph_of input)) n (sym (by_plan n) ∙ e))

    pub removes : {taken : List Bool} {swept : List ℕ} → Marked c.nodes (wires_of wires) marked taken → ((n : ℕ) → n < max_nodes → get_or swept n 0 ≡ cond (get_or taken n false) 2 (get_or actions n 0)) → Removes input actions wires swept taken
    removes k f =
        record {
          marked = λ n. k.marked n ∙ ap₂ (λ (h : ℕ → Bool) (j : ℕ). is_taken h j (wires_of wires) n) (fun_ext by_plan) nodes_of;
          actions_are = f;
        }
