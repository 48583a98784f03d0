-- The code's removals are a run of removals, and at its end none is left.
use mathlib.Core.Path.{◌≡◌, refl, sym, ap, subst, ◌∙◌}
use mathlib.Core.Bool.{Bool, true, false, not, ◌&&◌, true≢false, false≢true}
use mathlib.Core.List.{List, [], ◌∷◌, ◌++◌}
use mathlib.Core.Logic.{inl, inr}
use Prim.Native.Nat.{ℕ, zero, suc, ◌+◌, ◌<◌, ◌≤◌}
use native.Mathlib.Omega.{arith}
use native.Mathlib.Numerals.{add-one}
use lib.Dec.{eqb, ltb}
use lib.ListN.{length, get_or, take, replicate, length-replicate, get_or-eq_default}
use lib.Seq.{take-suc}
use borrow.Author.Tests.{eqb-true, eq-eqb, ne_eqb, ltb-true, ltb-false}
use Rattle.ir.specs.Limits.{max_nodes}
use Rattle.ir.specs.declared.Wire.{Wire}
use Rattle.graph.specs.Graph.{member}
use Rattle.model.specs.Maps.{keep, up_to}
use Rattle.model.proofs.Maps.{Same, same?, by_bool, eqb_same}
use Rattle.model.proofs.Lists.{or_right, member_up_to, length_keep, count_length}
use Rattle.wire_index.specs.Chains.{enters}
use Rattle.wire_index.specs.Linking.{leaves}
use Rattle.sweep.specs.Removals.{Left, Removable, remove, Removals, stop, next, Finished, unswept, Run}
use Rattle.sweep.specs.Queue.{eligible_in, leaving, fed_by, Queued, Fell, Sweeping, Within, Marked}
use Rattle.sweep.proofs.Lists.{clear, and_left, and_right, both, keep_same, keep_keep, count_parts, count_none, none_count, member_keep}
use Rattle.sweep.proofs.Orders.{left_nodes, left_wires, run_taken}

-- one removal more
removals_more : {eligible : ℕ → Bool} {l q : Left} {ns : List ℕ} (n : ℕ) → Removals eligible l ns q → Removable eligible q n → Removals eligible l (ns ++ (n ∷ [])) (remove q n)
removals_more n stop r = next r stop
removals_more n (next s rs) r = next s (removals_more n rs r)

member_take : (xs : List ℕ) (i k : ℕ) → i < k → i < length xs → member (get_or xs i 0) (take k xs) ≡ true
unfolding member
member_take [] i k l h = absurd (omega arith)
member_take (x ∷ xs) i zero l h = absurd (omega arith)
member_take (x ∷ xs) zero (suc k) l h = rw (eqb_same x)
member_take (x ∷ xs) (suc i) (suc k) l h = or_right (eqb x (get_or xs i 0)) _ (member_take xs i k (omega arith) (omega arith))

marked_below : (marks : List Bool) (n : ℕ) → get_or marks n false ≡ true → n < length marks
marked_below marks n e = by_bool (ltb n (length marks)) (ltb-true n (length marks)) (λ f. absurd (false≢true (sym (get_or-eq_default marks false (ltb-false n (length marks) f)) ∙ e)))

few_places : {eligible : List Bool} {degrees : List ℕ} {marks : List Bool} {order : List ℕ} {tail : ℕ} → Queued eligible degrees marks order tail → tail ≤ max_nodes
few_places {marks = marks} q = omega (arith, q.many, length_keep (λ b. b) marks, count_length (λ b. b) marks, q.marks_long)

-- the wires into a node that is left are all left
feeds_left : (ws : List Wire) (ns : List ℕ) (d : ℕ) → member d ns ≡ false → keep (enters d) (keep (λ w. not (member w.target.node_id ns)) ws) ≡ keep (enters d) ws
feeds_left ws ns d e = keep_keep (λ w. not (member w.target.node_id ns)) (enters d) ws ∙ keep_same (λ w. not (member w.target.node_id ns) && enters d w) (enters d) (λ w. go w.target.node_id (same? w.target.node_id d)) ws
  where
    go : (t : ℕ) → Same t d → (not (member t ns) && eqb t d) ≡ eqb t d
    go t (inl s) = rw (s.1, e)
    go t (inr s) = rw s (none (not (member t ns)))
      where
        none : (b : Bool) → (b && false) ≡ false
        none true = refl
        none false = refl

module _ {nodes : ℕ} {ws : List Wire} {eligible : List Bool} {degrees : List ℕ} {marks : List Bool} {order : List ℕ} {head tail : ℕ} (within : Within nodes eligible) (q : Queued eligible degrees marks order tail) (s : Sweeping nodes ws eligible degrees order head tail) where
  pub sweep_place : head < tail → head < max_nodes
  sweep_place l = omega (arith, few_places q)

  module _ (front : head < tail) where
    marked : get_or marks (get_or order head 0) false ≡ true
    marked = sym (q.listed (get_or order head 0)) ∙ member_take order head tail front (omega (arith, few_places q, q.order_long))

    pub sweep_node : get_or order head 0 < max_nodes
    sweep_node = omega (arith, marked_below marks (get_or order head 0) marked, q.marks_long)

    goes : (eligible_in eligible (get_or order head 0) && eqb (get_or degrees (get_or order head 0) 0) 0) ≡ true
    goes = sym (q.marked (get_or order head 0) sweep_node) ∙ marked

    is_eligible : eligible_in eligible (get_or order head 0) ≡ true
    is_eligible = and_left (eligible_in eligible (get_or order head 0)) _ goes

    below : get_or order head 0 < nodes
    below = within (get_or order head 0) is_eligible

    removable : Removable (eligible_in eligible) s.left (get_or order head 0)
    removable =
        record {
          there =
              ap (member (get_or order head 0)) (left_nodes s.removals)
              ∙ (member_keep (λ m. not (member m (take head order))) (get_or order head 0) (up_to nodes)
              ∙ rw (q.once head front, member_up_to (get_or order head 0) nodes below));
          allowed = is_eligible;
          no_wire =
              count_none (leaves (get_or order head 0)) s.left.wires
              (sym (length_keep (leaves (get_or order head 0)) s.left.wires) ∙ (sym (s.degree (get_or order head 0) below) ∙ eqb-true _ 0 (and_right (eligible_in eligible (get_or order head 0)) _ goes)));
        }

    -- the wires of a node are those that are left when the next goes, and those that go with it
    parts : (n : ℕ) → fed_by ws (get_or order head 0) n + leaving (keep (λ w. not (enters (get_or order head 0) w)) s.left.wires) n ≡ leaving s.left.wires n
    parts n =
        let e : keep (enters (get_or order head 0)) s.left.wires ≡ keep (enters (get_or order head 0)) ws =
        ap (keep (enters (get_or order head 0))) (left_wires s.removals) ∙ feeds_left ws (take head order) (get_or order head 0) (q.once head front) in
        omega (
          arith,
          count_parts (enters (get_or order head 0)) (leaves n) s.left.wires,
          length_keep (leaves n) (keep (enters (get_or order head 0)) s.left.wires),
          length_keep (leaves n) (keep (λ w. not (enters (get_or order head 0) w)) s.left.wires),
          length_keep (leaves n) s.left.wires,
          ap (λ (xs : List Wire). leaving xs n) e,
        )

    pub sweep_enough : (n : ℕ) → n < nodes → fed_by ws (get_or order head 0) n ≤ get_or degrees n 0
    sweep_enough n l = omega (arith, parts n, s.degree n l)

    pub sweep_more : {degrees' order' : List ℕ} {tail' : ℕ} → Fell nodes (fed_by ws (get_or order head 0)) degrees order tail degrees' order' tail' → Sweeping nodes ws eligible degrees' order' (head + 1) tail'
    unfolding remove
    sweep_more {order' = order'} f =
        record {
          left = remove s.left (get_or order head 0);
          removals = subst (λ (ns : List ℕ). Removals (eligible_in eligible) (unswept nodes ws) ns (remove s.left (get_or order head 0))) (sym taken) (removals_more (get_or order head 0) s.removals removable);
          degree = λ n l. omega (arith, f.degree n l, parts n, s.degree n l);
          until = omega (arith, f.longer.more);
        }
      where
        taken : take (head + 1) order' ≡ take head order ++ (get_or order head 0 ∷ [])
        taken = f.longer.kept (head + 1) (omega arith) ∙ (ap (λ (k : ℕ). take k order) (add-one head) ∙ take-suc order head 0 (omega (arith, few_places q, q.order_long)))

  pub sweep_ends : nodes ≤ max_nodes → tail ≤ head → Marked nodes ws eligible marks
  sweep_ends few l =
      record {
        marks_long = q.marks_long;
        marked = λ n. sym (q.listed n) ∙ (ap (λ (k : ℕ). member n (take k order)) same ∙ run_taken (eligible_in eligible) ws nodes within run n);
      }
    where
      same : tail ≡ head
      same = omega (arith, s.until)

      done : Finished (eligible_in eligible) s.left
      done n r =
          let b : n < nodes = within n r.allowed in
          let z : get_or degrees n 0 ≡ 0 = s.degree n b ∙ (length_keep (leaves n) s.left.wires ∙ none_count (leaves n) s.left.wires r.no_wire) in
          let m : member n (take head order) ≡ true =
          ap (λ (k : ℕ). member n (take k order)) (sym same) ∙ (q.listed n ∙ (q.marked n (omega arith) ∙ both (eligible_in eligible n) _ r.allowed (eq-eqb (get_or degrees n 0) 0 z))) in
          true≢false (sym (and_left _ _ (sym (member_keep (λ m. not (member m (take head order))) n (up_to nodes)) ∙ (ap (member n) (sym (left_nodes s.removals)) ∙ r.there))) ∙ ap not m)

      run : Run (eligible_in eligible) nodes ws
      run = record { taken = take head order; left = s.left; removals = s.removals; finished = done }

-- ---- the start

none_marked : (k : ℕ) → length (keep (λ b. b) (replicate k false)) ≡ 0
unfolding keep
none_marked zero = refl
none_marked (suc k) = none_marked k

pub queued_start : (k : ℕ) {eligible : List Bool} {degrees : List ℕ} → k ≡ max_nodes → length degrees ≡ max_nodes → ((n : ℕ) → n < max_nodes → 0 < get_or degrees n 0) → Queued eligible degrees (replicate k false) (replicate k 0) 0
unfolding member
queued_start k {eligible} {degrees} e long some_wire =
    record {
      degrees_long = long;
      marks_long = length-replicate {A = Bool} k false ∙ e;
      order_long = length-replicate {A = ℕ} k 0 ∙ e;
      marked = λ n l. clear k n ∙ sym (none (eligible_in eligible n) (ne_eqb (get_or degrees n 0) 0 (λ z. omega (arith, some_wire n l))));
      listed = λ n. sym (clear k n);
      once = λ i l. absurd (omega arith);
      many = sym (none_marked k);
    }
  where
    none : (b : Bool) {a : Bool} → a ≡ false → (b && a) ≡ false
    none true q = q
    none false q = refl

pub sweep_start : {nodes : ℕ} {ws : List Wire} {eligible : List Bool} {degrees₀ degrees order₀ order : List ℕ} {tail₀ tail : ℕ} → nodes ≤ max_nodes → ((n : ℕ) → n < max_nodes → get_or degrees₀ n 0 ≡ 1 + leaving ws n) → Fell nodes (λ n. 1) degrees₀ order₀ tail₀ degrees order tail → Sweeping nodes ws eligible degrees order 0 tail
sweep_start {nodes} {ws} few counts f =
    record {
      left = unswept nodes ws;
      removals = stop;
      degree = λ n l. omega (arith, f.degree n l, counts n (omega arith));
      until = omega arith;
    }
