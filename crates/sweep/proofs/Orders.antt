-- Every order of removals that goes on until none is left takes the same nodes.
use mathlib.Core.Path.{◌≡◌, refl, sym, ap, ◌∙◌}
use mathlib.Core.Bool.{Bool, true, false, cond, not, ◌&&◌, ◌||◌, true≢false, false≢true}
use mathlib.Core.List.{List, [], ◌∷◌}
use mathlib.Core.Logic.{◌⊎◌, inl, inr}
use Prim.Native.Nat.{ℕ, zero, suc, ◌+◌, ◌-◌, ◌<◌, ◌≤◌}
use native.Mathlib.Omega.{arith}
use native.Mathlib.Nat.{zero-add, suc-add}
use lib.Dec.{eqb}
use lib.ListN.{length}
use borrow.Author.Tests.{not-true}
use Rattle.ir.specs.declared.Wire.{Wire}
use Rattle.graph.specs.Graph.{member}
use Rattle.model.specs.Maps.{keep, any, up_to, All}
use Rattle.model.proofs.Maps.{Same, same?, by_bool, eqb_same}
use Rattle.model.proofs.Lists.{or_false_left, or_false_right, length_up_to, member_up_to}
use Rattle.wire_index.specs.Chains.{enters}
use Rattle.wire_index.specs.Linking.{leaves}
use Rattle.sweep.specs.Removals.{Left, Removable, remove, Removals, stop, next, Finished, taken_after, is_taken, unswept, wires_left, left_by, Loop, Run, AnyOrder}
use Rattle.sweep.proofs.Lists.{and_left, and_right, both, same_test, eqb_comm, keep_same, keep_all, keep_keep, any_keep, any_weaker, none_stronger, member_keep, keep_fewer, Found, find}

morgan : (a b : Bool) → (not a && not b) ≡ not (a || b)
morgan true b = refl
morgan false b = refl

-- what removals of a list leave
pub left_nodes : {eligible : ℕ → Bool} {l q : Left} {ns : List ℕ} → Removals eligible l ns q → q.nodes ≡ keep (λ m. not (member m ns)) l.nodes
unfolding member remove
left_nodes {l = l} stop = sym (keep_all (λ m. true) (λ m. refl) l.nodes)
left_nodes {l = l} (next {n = n} {ns = ns} r rs) =
    left_nodes rs
    ∙ (keep_keep (λ m. not (eqb n m)) (λ m. not (member m ns)) l.nodes
    ∙ keep_same (λ m. not (eqb n m) && not (member m ns)) (λ m. not (eqb n m || member m ns)) (λ m. morgan (eqb n m) (member m ns)) l.nodes)

pub left_wires : {eligible : ℕ → Bool} {l q : Left} {ns : List ℕ} → Removals eligible l ns q → q.wires ≡ keep (λ w. not (member w.target.node_id ns)) l.wires
unfolding member remove
left_wires {l = l} stop = sym (keep_all (λ w. true) (λ w. refl) l.wires)
left_wires {l = l} (next {n = n} {ns = ns} r rs) =
    left_wires rs
    ∙ (keep_keep (λ w. not (enters n w)) (λ w. not (member w.target.node_id ns)) l.wires
    ∙ keep_same (λ w. not (enters n w) && not (member w.target.node_id ns)) (λ w. not (eqb n w.target.node_id || member w.target.node_id ns)) (λ w. turned w.target.node_id (member w.target.node_id ns)) l.wires)
  where
    turned : (t : ℕ) (b : Bool) → (not (eqb t n) && not b) ≡ not (eqb n t || b)
    turned t b = rw (eqb_comm t n) (morgan (eqb n t) b)

pub fewer : {eligible : ℕ → Bool} {l q : Left} {ns : List ℕ} → Removals eligible l ns q → length ns ≤ length l.nodes
unfolding remove
fewer stop = omega arith
fewer {l = l} (next {n = n} r rs) = omega (arith, fewer rs, keep_fewer n l.nodes r.there)

module _ (eligible : ℕ → Bool) (ws : List Wire) where
  -- a wire of n into a node that has not removed after k rounds
  abbrev alive : ℕ → ℕ → Wire → Bool
  alive k n w = leaves n w && not (taken_after eligible ws k w.target.node_id)

  taken_next : (k n : ℕ) → eligible n ≡ true → any (alive k n) ws ≡ false → taken_after eligible ws (suc k) n ≡ true
  unfolding taken_after
  taken_next k n e a = rw (e, a)

  taken_eligible : (k n : ℕ) → taken_after eligible ws (suc k) n ≡ true → eligible n ≡ true
  unfolding taken_after
  taken_eligible k n e = and_left (eligible n) _ e

  taken_wires_lem : (k n : ℕ) → taken_after eligible ws (suc k) n ≡ true → any (alive k n) ws ≡ false
  unfolding taken_after
  taken_wires_lem k n e = not-true (any (alive k n) ws) (and_right (eligible n) _ e)

  none_taken : (n : ℕ) → taken_after eligible ws 0 n ≡ true → ⊥
  unfolding taken_after
  none_taken n e = false≢true e

  -- what goes stays removed
  stronger : (k n : ℕ) → ((t : ℕ) → taken_after eligible ws k t ≡ true → taken_after eligible ws (suc k) t ≡ true) → (w : Wire) → alive (suc k) n w ≡ true → alive k n w ≡ true
  stronger k n more w a =
      both (leaves n w) _ (and_left (leaves n w) _ a)
      (by_bool (taken_after eligible ws k w.target.node_id)
      (λ d. absurd (true≢false (sym (more w.target.node_id d) ∙ not-true _ (and_right (leaves n w) _ a))))
      (λ f. rw f))

  pub taken_more : (k n : ℕ) → taken_after eligible ws k n ≡ true → taken_after eligible ws (suc k) n ≡ true
  taken_more zero n e = absurd (none_taken n e)
  taken_more (suc k) n e = taken_next (suc k) n (taken_eligible k n e) (none_stronger (alive (suc k) n) (alive k n) (stronger k n (λ t. taken_more k t)) ws (taken_wires_lem k n e))

  pub taken_later : (j k n : ℕ) → taken_after eligible ws k n ≡ true → taken_after eligible ws (j + k) n ≡ true
  taken_later zero k n e = rw (zero-add k) e
  taken_later (suc j) k n e = rw (suc-add j k) (taken_more (j + k) n (taken_later j k n e))

  -- ---- what removals take goes

  -- the nodes removed so far have removed after k rounds, and the wires that are left enter none of them
  record Before (removed : List ℕ) (k : ℕ) (l : Left) : Type 0 where
    went : (m : ℕ) → member m removed ≡ true → taken_after eligible ws k m ≡ true
    wires_left_lem : l.wires ≡ keep (λ w. not (member w.target.node_id removed)) ws

  removed_taken : (removed : List ℕ) (k n : ℕ) (l : Left) → Before removed k l → Removable eligible l n → taken_after eligible ws (suc k) n ≡ true
  removed_taken removed k n l b r =
      taken_next k n r.allowed
      (none_stronger (alive k n) (λ w. not (member w.target.node_id removed) && leaves n w) weaker ws
      (sym (any_keep (λ w. not (member w.target.node_id removed)) (leaves n) ws) ∙ (ap (any (leaves n)) (sym b.wires_left_lem) ∙ r.no_wire)))
    where
      weaker : (w : Wire) → alive k n w ≡ true → (not (member w.target.node_id removed) && leaves n w) ≡ true
      weaker w a =
          both (not (member w.target.node_id removed)) (leaves n w)
          (by_bool (member w.target.node_id removed)
          (λ m. absurd (true≢false (sym (b.went w.target.node_id m) ∙ not-true _ (and_right (leaves n w) _ a))))
          (λ f. rw f))
          (and_left (leaves n w) _ a)

  before_next : (removed : List ℕ) (k n : ℕ) (l : Left) → Before removed k l → Removable eligible l n → Before (n ∷ removed) (suc k) (remove l n)
  unfolding member remove
  before_next removed k n l b r =
      record {
        went = λ m e. by_case m (same? n m) e;
        wires_left_lem =
            ap (keep (λ w. not (enters n w))) b.wires_left_lem
            ∙ (keep_keep (λ w. not (member w.target.node_id removed)) (λ w. not (enters n w)) ws
            ∙ keep_same (λ w. not (member w.target.node_id removed) && not (enters n w)) (λ w. not (eqb n w.target.node_id || member w.target.node_id removed)) (λ w. turned w.target.node_id (member w.target.node_id removed)) ws);
      }
    where
      by_case : (m : ℕ) → Same n m → (eqb n m || member m removed) ≡ true → taken_after eligible ws (suc k) m ≡ true
      by_case m (inl d) e = ap (taken_after eligible ws (suc k)) (sym d.1) ∙ removed_taken removed k n l b r
      by_case m (inr d) e = taken_more k m (b.went m (rw d at e))

      swapped : (a b : Bool) → (not b && not a) ≡ (not a && not b)
      swapped true true = refl
      swapped true false = refl
      swapped false true = refl
      swapped false false = refl

      turned : (t : ℕ) (b : Bool) → (not b && not (eqb t n)) ≡ not (eqb n t || b)
      turned t b = rw (eqb_comm t n) (swapped (eqb n t) b ∙ morgan (eqb n t) b)

  sound : (removed : List ℕ) (k : ℕ) {l q : Left} {ns : List ℕ} → Before removed k l → Removals eligible l ns q → (m : ℕ) → (member m ns || member m removed) ≡ true → taken_after eligible ws (length ns + k) m ≡ true
  unfolding member
  sound removed k b stop m e = rw (zero-add k) (b.went m e)
  sound removed k {l = l} b (next {n = n} {ns = ns} r rs) m e =
      rw (shift (length ns) k) (sound (n ∷ removed) (suc k) (before_next removed k n l b r) rs m (swap (eqb n m) (member m ns) (member m removed) e))
    where
      shift : (a k : ℕ) → suc a + k ≡ a + suc k
      shift a k = omega arith

      swap : (a b c : Bool) → ((a || b) || c) ≡ true → (b || (a || c)) ≡ true
      swap true true c e = refl
      swap true false c e = refl
      swap false b c e = e

  -- ---- what goes is taken

  module _ {ns : List ℕ} {nodes : ℕ} {q : Left} (below : (n : ℕ) → eligible n ≡ true → n < nodes) (rs : Removals eligible (unswept nodes ws) ns q) (done : Finished eligible q) where
    left_removable : (n : ℕ) → eligible n ≡ true → member n ns ≡ false → any (λ w. not (member w.target.node_id ns) && leaves n w) ws ≡ false → Removable eligible q n
    left_removable n e m a =
        record {
          there = ap (member n) (left_nodes rs) ∙ (member_keep (λ m. not (member m ns)) n (up_to nodes) ∙ rw (m, member_up_to n nodes (below n e)));
          allowed = e;
          no_wire = ap (any (leaves n)) (left_wires rs) ∙ (any_keep (λ w. not (member w.target.node_id ns)) (leaves n) ws ∙ a);
        }

    enters_left : (k n : ℕ) → ((t : ℕ) → taken_after eligible ws k t ≡ true → member t ns ≡ true) → (w : Wire) → (not (member w.target.node_id ns) && leaves n w) ≡ true → alive k n w ≡ true
    enters_left k n ih w a =
        both (leaves n w) _ (and_right (not (member w.target.node_id ns)) _ a)
        (by_bool (taken_after eligible ws k w.target.node_id)
        (λ d. absurd (true≢false (sym (ih w.target.node_id d) ∙ not-true _ (and_left _ (leaves n w) a))))
        (λ f. rw f))

    pub complete : (k n : ℕ) → taken_after eligible ws k n ≡ true → member n ns ≡ true
    complete zero n e = absurd (none_taken n e)
    complete (suc k) n e =
        by_bool (member n ns) (λ m. m)
        (λ m. absurd (done n (left_removable n (taken_eligible k n e) m
        (none_stronger (λ w. not (member w.target.node_id ns) && leaves n w) (alive k n) (enters_left k n (λ t. complete k t)) ws (taken_wires_lem k n e)))))

  pub few_removals : (nodes : ℕ) (ns : List ℕ) (q : Left) → Removals eligible (unswept nodes ws) ns q → length ns ≤ nodes
  few_removals nodes ns q rs = omega (arith, fewer rs, length_up_to nodes)

  start : (nodes : ℕ) → Before [] 0 (unswept nodes ws)
  unfolding member
  start nodes = record { went = λ m e. absurd (false≢true e); wires_left_lem = sym (keep_all (λ w. true) (λ w. refl) ws) }

  listed_taken : (nodes : ℕ) {ns : List ℕ} {q : Left} → Removals eligible (unswept nodes ws) ns q → (m : ℕ) → member m ns ≡ true → taken_after eligible ws nodes m ≡ true
  unfolding member
  listed_taken nodes {ns} {q} rs m e =
      let d : (j : ℕ) × (nodes ≡ j + (length ns + 0)) = (nodes - length ns, omega (arith, few_removals nodes ns q rs)) in
      rw d.1 (taken_later d.0 (length ns + 0) m (sound [] 0 (start nodes) rs m (rw e)))

  -- ---- a run

  Going : Left → Type 0
  Going l = (ns : List ℕ) × (q : Left) × Removals eligible l ns q × Finished eligible q

  removable? : Left → ℕ → Bool
  removable? l n = eligible n && not (any (leaves n) l.wires)

  found : (l : Left) (f : Found (removable? l) l.nodes) → Removable eligible l f.at
  unfolding removable?
  found l f = record { there = f.within; allowed = and_left (eligible f.at) _ f.passes; no_wire = not-true _ (and_right (eligible f.at) _ f.passes) }

  none_found : (l : Left) → ((n : ℕ) → member n l.nodes ≡ true → removable? l n ≡ false) → Going l
  unfolding Going removable?
  none_found l h = ([], l, stop, λ n r. true≢false (sym (both (eligible n) _ r.allowed (rw r.no_wire)) ∙ h n r.there))

  fewer_nodes : (l : Left) (n : ℕ) → Removable eligible l n → length (remove l n).nodes < length l.nodes
  unfolding remove
  fewer_nodes l n r = keep_fewer n l.nodes r.there

  finish : (k : ℕ) (l : Left) → length l.nodes ≤ k → Going l
  unfolding Going
  finish zero l h = go (find (removable? l) l.nodes)
    where
      go : Found (removable? l) l.nodes ⊎ ((n : ℕ) → member n l.nodes ≡ true → removable? l n ≡ false) → Going l
      go (inl f) = absurd (omega (arith, fewer_nodes l f.at (found l f)))
      go (inr n) = none_found l n
  finish (suc k) l h = go (find (removable? l) l.nodes) (λ m. finish k m)
    where
      go : Found (removable? l) l.nodes ⊎ ((n : ℕ) → member n l.nodes ≡ true → removable? l n ≡ false) → ((m : Left) → length m.nodes ≤ k → Going m) → Going l
      go (inl f) ih =
          let r = ih (remove l f.at) (omega (arith, fewer_nodes l f.at (found l f))) in
          (f.at ∷ r.0, r.1, next (found l f) r.2, r.3)
      go (inr n) ih = none_found l n

  -- ---- pure loops

  loop_stays : (ns : List ℕ) → Loop ws ns → (k n : ℕ) → member n ns ≡ true → taken_after eligible ws k n ≡ false
  unfolding taken_after
  loop_stays ns loop zero n m = refl
  loop_stays ns loop (suc k) n m = stuck (eligible n) (any_weaker (λ w. leaves n w && member w.target.node_id ns) (alive k n) (on (λ t. loop_stays ns loop k t)) ws (loop n m))
    where
      on : ((t : ℕ) → member t ns ≡ true → taken_after eligible ws k t ≡ false) → (w : Wire) → (leaves n w && member w.target.node_id ns) ≡ true → alive k n w ≡ true
      on ih w a = both (leaves n w) _ (and_left (leaves n w) _ a) (rw (ih w.target.node_id (and_right (leaves n w) _ a)))

      stuck : (b : Bool) → any (alive k n) ws ≡ true → (b && not (any (alive k n) ws)) ≡ false
      stuck true e = rw e
      stuck false e = refl

  -- ---- all of it

  module _ (nodes : ℕ) (below : (n : ℕ) → eligible n ≡ true → n < nodes) where
    a_run : Run eligible nodes ws
    unfolding Going
    a_run =
        let r = finish nodes (unswept nodes ws) (omega (arith, length_up_to nodes)) in
        record { taken = r.0; left = r.1; removals = r.2; finished = r.3 }

    pub run_taken : (r : Run eligible nodes ws) (n : ℕ) → member n r.taken ≡ is_taken eligible nodes ws n
    run_taken r n = same_test (member n r.taken) _ (listed_taken nodes r.removals n) (complete below r.removals r.finished nodes n)

    pub run_left : (r : Run eligible nodes ws) → r.left ≡ left_by (is_taken eligible nodes ws) (unswept nodes ws)
    unfolding left_by
    run_left r =
        let n : r.left.nodes ≡ keep (λ m. not (is_taken eligible nodes ws m)) (up_to nodes) =
        left_nodes r.removals ∙ keep_same (λ m. not (member m r.taken)) (λ m. not (is_taken eligible nodes ws m)) (λ m. ap not (run_taken r m)) (up_to nodes) in
        let w : r.left.wires ≡ keep (λ w. not (is_taken eligible nodes ws w.target.node_id)) ws =
        left_wires r.removals ∙ keep_same (λ w. not (member w.target.node_id r.taken)) (λ w. not (is_taken eligible nodes ws w.target.node_id)) (λ w. ap not (run_taken r w.target.node_id)) ws in
        both_fields r.left n w
      where
        made : List ℕ → List Wire → Left
        made x y = record { nodes = x; wires = y }

        both_fields : (l : Left) {ns : List ℕ} {vs : List Wire} → l.nodes ≡ ns → l.wires ≡ vs → l ≡ record { nodes = ns; wires = vs }
        both_fields l {ns} {vs} n w = ap (λ (x : List ℕ). made x l.wires) n ∙ ap (λ (y : List Wire). made ns y) w

    -- one round more takes no more
    settled : (n : ℕ) → taken_after eligible ws (suc nodes) n ≡ taken_after eligible ws nodes n
    settled n =
        same_test (taken_after eligible ws (suc nodes) n) (taken_after eligible ws nodes n)
        (λ e. sym (run_taken a_run n) ∙ complete below a_run.removals a_run.finished (suc nodes) n e) (taken_more nodes n)

    exact : (n : ℕ) → is_taken eligible nodes ws n ≡ (eligible n && not (any (λ w. leaves n w && not (is_taken eligible nodes ws w.target.node_id)) ws))
    unfolding taken_after
    exact n = sym (settled n)

    no_wire_of : (vs : List Wire) → ((n : ℕ) → is_taken eligible nodes ws n ≡ true → any (λ w. leaves n w && not (is_taken eligible nodes ws w.target.node_id)) vs ≡ false)
        → All (λ w. (is_taken eligible nodes ws w.source.node_id ≡ false) × (is_taken eligible nodes ws w.target.node_id ≡ false)) (wires_left (is_taken eligible nodes ws) vs)
    unfolding keep any
    no_wire_of [] h = tt
    no_wire_of (w ∷ vs) h = go (is_taken eligible nodes ws w.target.node_id) refl (no_wire_of vs (λ n d. or_false_right (leaves n w && not (is_taken eligible nodes ws w.target.node_id)) _ (h n d)))
      where
        here : is_taken eligible nodes ws w.target.node_id ≡ false → is_taken eligible nodes ws w.source.node_id ≡ false
        here f = by_bool (is_taken eligible nodes ws w.source.node_id) (λ d. absurd (true≢false (sym (both (leaves w.source.node_id w) (not (is_taken eligible nodes ws w.target.node_id)) (eqb_same w.source.node_id) (rw f)) ∙ or_false_left _ _ (h w.source.node_id d)))) (λ e. e)

        go : (b : Bool) → is_taken eligible nodes ws w.target.node_id ≡ b → All (λ w. (is_taken eligible nodes ws w.source.node_id ≡ false) × (is_taken eligible nodes ws w.target.node_id ≡ false)) (wires_left (is_taken eligible nodes ws) vs)
            → All (λ w. (is_taken eligible nodes ws w.source.node_id ≡ false) × (is_taken eligible nodes ws w.target.node_id ≡ false)) (cond (not b) (w ∷ wires_left (is_taken eligible nodes ws) vs) (wires_left (is_taken eligible nodes ws) vs))
        go true q r = r
        go false q r = ((here q, q), r)

    pub any_order : AnyOrder eligible nodes ws
    any_order =
        record {
          ends = few_removals nodes;
          runs = a_run;
          taken = run_taken;
          left = run_left;
          exactly = exact;
          clean = no_wire_of ws (λ n d. not-true _ (and_right (eligible n) _ (sym (exact n) ∙ d)));
          loops = λ ns loop n m. loop_stays ns loop nodes n m;
        }
