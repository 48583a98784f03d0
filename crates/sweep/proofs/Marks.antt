-- The eligible nodes, by the arrays and by the plan.
use Rattle.std.specs.Prelude.{Option}
use mathlib.Core.Path.{◌≡◌, refl, sym, ap, subst, ◌∙◌}
use mathlib.Core.Bool.{Bool, true, false, cond, not, ◌&&◌}
use mathlib.Core.List.{List, [], ◌∷◌}
use mathlib.Core.Logic.{inl, inr}
use Prim.Native.Nat.{ℕ, zero, suc, ◌+◌, ◌<◌, ◌≤◌}
use native.Mathlib.Omega.{arith}
use native.Mathlib.Decide.{ℕ_discrete}
use lib.Dec.{eqb, ltb}
use lib.ListN.{length, get_or, set, replicate, length-set, length-replicate}
use lib.Seq.{get_or-set_same, get_or-set_other}
use borrow.Author.Tests.{eqb-false, ne_eqb, ltb-true, ltb-false, lt-ltb, le-ltb}
use Rattle.ir.specs.Limits.{max_nodes}
use Rattle.ir.specs.Flags.{nofold, labelled}
use Rattle.value.specs.declared.Value.{Value}
use Rattle.graph.specs.Graph.{Graph}
use Rattle.graph.specs.declared.Node.{Node}
use Rattle.records.specs.Access.{no_node}
use Rattle.model.specs.Maps.{Map, is_some}
use Rattle.model.specs.Inputs.{size, node_of}
use Rattle.model.specs.Offer.{PlanAction}
use Rattle.model.specs.Trial.{State}
use Rattle.model.proofs.Maps.{Same, same?, by_bool, some_true}
use Rattle.state.specs.Planned.{shape_at, shape_of, literal_of, valued, plan_of, Holds}
use Rattle.sweep.specs.Eligible.{is_pure, is_pure_by, eligible}
use Rattle.sweep.specs.Queue.{eligible_in, eligible_by, eligible_at}
use Rattle.sweep.proofs.Lists.{clear, and_left}

get_d_within : {A : Type 0} (xs : List A) (i : ℕ) (d e : A) → i < length xs → get_or xs i d ≡ get_or xs i e
get_d_within [] i d e l = absurd (omega arith)
get_d_within (x ∷ xs) zero d e l = refl
get_d_within (x ∷ xs) (suc i) d e l = get_d_within xs i d e (omega arith)

-- a node's record is the graph's node
pub node_read : (g : Graph) (actions : List ℕ) (n : ℕ) (v : Node) (b : Bool) → n < length g.nodes → v ≡ get_or g.nodes n no_node → b ≡ eligible_by v.class v.flags (get_or actions n 0) → b ≡ eligible_at g actions n
unfolding eligible_at node_of size
node_read g actions n v b l e f = f ∙ (ap (λ (m : Node). eligible_by m.class m.flags (get_or actions n 0)) (e ∙ get_d_within g.nodes n no_node (record { class = 0; flags = 1 }) l) ∙ rw (lt-ltb n (length g.nodes) l) refl)

-- past the last node none is eligible
pub none_past : (g : Graph) (actions : List ℕ) (n : ℕ) → length g.nodes ≤ n → eligible_at g actions n ≡ false
unfolding eligible_at size
none_past g actions n l = rw (le-ltb n (length g.nodes) l) refl

-- ---- one node

module _ (class flags action : ℕ) where
  pub by_nofold : {b : Bool} → b ≡ nofold flags → b ≡ true → false ≡ eligible_by class flags action
  by_nofold e t = rw (sym e ∙ t)

  module _ {b : Bool} (nofolds : b ≡ nofold flags) (folds : b ≡ false) where
    pub by_label : {c : Bool} → c ≡ labelled flags → c ≡ true → false ≡ eligible_by class flags action
    by_label e t = rw (sym nofolds ∙ folds, sym e ∙ t)

    module _ {c : Bool} (labels : c ≡ labelled flags) (unlabelled : c ≡ false) where
      pub by_kept : {r : Bool} → action ≡ 0 → r ≡ is_pure class → r ≡ eligible_by class flags action
      by_kept a p = p ∙ rw (sym nofolds ∙ folds, sym labels ∙ unlabelled, a)

      pub by_literal : (action ≡ 0 → ⊥) → eqb action 1 ≡ eligible_by class flags action
      by_literal a = rw (sym nofolds ∙ folds, sym labels ∙ unlabelled, ne_eqb action 0 a)

-- ---- marking

pub record Marking (g : Graph) (actions : List ℕ) (i : ℕ) (marks : List Bool) : Type 0 where
  pub long : length marks ≡ max_nodes
  pub done : (n : ℕ) → n < i → get_or marks n false ≡ eligible_at g actions n
  pub rest : (n : ℕ) → i ≤ n → get_or marks n false ≡ false

pub marking_start : (g : Graph) (actions : List ℕ) (k : ℕ) → k ≡ max_nodes → Marking g actions 0 (replicate k false)
marking_start g actions k e = record { long = length-replicate {A = Bool} k false ∙ e; done = λ n l. absurd (omega arith); rest = λ n l. clear k n }

pub marking_more : {g : Graph} {actions : List ℕ} {i : ℕ} {marks : List Bool} {b : Bool} → Marking g actions i marks → i < max_nodes → b ≡ eligible_at g actions i → Marking g actions (i + 1) (set marks i b)
marking_more {g} {actions} {i} {marks} {b} m h e =
    record {
      long = length-set marks i b ∙ m.long;
      done = λ n k. go n k (same? i n);
      rest = λ n k. get_or-set_other marks i n b false (λ x. omega arith) ∙ m.rest n (omega arith);
    }
  where
    lower : (n : ℕ) → n < i + 1 → (i ≡ n → ⊥) → n < i
    lower n k ne = omega arith

    go : (n : ℕ) → n < i + 1 → Same i n → get_or (set marks i b) n false ≡ eligible_at g actions n
    go n k (inl s) = subst (λ (j : ℕ). get_or (set marks i b) j false ≡ eligible_at g actions j) s.1 (get_or-set_same marks i b false (omega (arith, m.long)) ∙ e)
    go n k (inr s) = get_or-set_other marks i n b false (λ x. eqb-false i n s (sym x)) ∙ m.done n (lower n k (eqb-false i n s))

pub marking_ends : {g : Graph} {actions : List ℕ} {i : ℕ} {marks : List Bool} → Marking g actions i marks → length g.nodes ≤ i → (n : ℕ) → eligible_in marks n ≡ eligible_at g actions n
marking_ends {g} {actions} {i} {marks} m l n =
    by_bool (ltb n i) (λ t. m.done n (ltb-true n i t)) (λ f. let k : i ≤ n = ltb-false n i f in m.rest n k ∙ sym (none_past g actions n (omega arith)))

-- ---- the arrays hold the plan

module _ {g : Graph} {kinds words actions details : List ℕ} {s : State} (h : Holds g kinds words actions details s) where
  by_action : (n a d class : ℕ) → a ≤ 3 → get_or actions n 0 ≡ a → is_pure_by class (valued (shape_at g.wires a d n) (s.known n)) ≡ cond (eqb a 0) (is_pure class) (eqb a 1)
  unfolding shape_at valued
  by_action n a d class l e = go (ℕ_discrete a 0) (ℕ_discrete a 1) (ℕ_discrete a 2)
    where
      literal : (o : Option Value) → is_some o ≡ true → is_pure_by class (literal_of o) ≡ true
      literal o t = let v = some_true o t in rw v.1

      go : Dec (a ≡ 0) → Dec (a ≡ 1) → Dec (a ≡ 2) → is_pure_by class (valued (shape_at g.wires a d n) (s.known n)) ≡ cond (eqb a 0) (is_pure class) (eqb a 1)
      go (yes p) q r = rw p
      go (no p) (yes q) r = rw q (literal (s.known n) (h.literal n (e ∙ q)))
      go (no p) (no q) (yes r) = rw r
      go (no p) (no q) (no r) = let z : a ≡ 3 = omega arith in rw z

  pub eligible_is : (n : ℕ) → eligible_at g actions n ≡ eligible g s.plan n
  unfolding eligible_at eligible plan_of shape_of
  eligible_is n =
      ap (λ (b : Bool). ltb n (size g) && (not (nofold (node_of g n).flags) && (not (labelled (node_of g n).flags) && b)))
      (sym (ap (λ (p : Map PlanAction). is_pure_by (node_of g n).class (p n)) h.plan ∙ by_action n (get_or actions n 0) (get_or details n 0) (node_of g n).class (h.shaped.listed n) refl))

-- no node past the last is eligible, whatever is planned
pub eligible_within : (g : Graph) (p : Map PlanAction) (n : ℕ) → eligible g p n ≡ true → n < size g
unfolding eligible
eligible_within g p n e = ltb-true n (size g) (and_left (ltb n (size g)) _ e)

-- ---- the actions of nodes that go

pub record Removing (marks : List Bool) (actions : List ℕ) (i : ℕ) (swept : List ℕ) : Type 0 where
  pub long : length swept ≡ max_nodes
  pub done : (n : ℕ) → n < i → get_or swept n 0 ≡ cond (get_or marks n false) 2 (get_or actions n 0)

pub removing_start : (marks : List Bool) (actions : List ℕ) (k : ℕ) → k ≡ max_nodes → Removing marks actions 0 (replicate k 0)
removing_start marks actions k e = record { long = length-replicate {A = ℕ} k 0 ∙ e; done = λ n l. absurd (omega arith) }

pub removing_more : {marks : List Bool} {actions : List ℕ} {i : ℕ} {swept : List ℕ} {a : ℕ} → Removing marks actions i swept → i < max_nodes → a ≡ cond (get_or marks i false) 2 (get_or actions i 0) → Removing marks actions (i + 1) (set swept i a)
removing_more {marks} {actions} {i} {swept} {a} m l e = record { long = length-set swept i a ∙ m.long; done = λ n k. go n k (same? i n) }
  where
    lower : (n : ℕ) → n < i + 1 → (i ≡ n → ⊥) → n < i
    lower n k ne = omega arith

    go : (n : ℕ) → n < i + 1 → Same i n → get_or (set swept i a) n 0 ≡ cond (get_or marks n false) 2 (get_or actions n 0)
    go n k (inl s) = subst (λ (j : ℕ). get_or (set swept i a) j 0 ≡ cond (get_or marks j false) 2 (get_or actions j 0)) s.1 (get_or-set_same swept i a 0 (omega (arith, m.long)) ∙ e)
    go n k (inr s) = get_or-set_other swept i n a 0 (λ x. eqb-false i n s (sym x)) ∙ m.done n (lower n k (eqb-false i n s))
