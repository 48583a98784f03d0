-- The queue of nodes that go: a node's degree falls by one, and the node joins where it comes to 0.
use mathlib.Core.Path.{◌≡◌, refl, sym, ap, subst, ◌∙◌}
use mathlib.Core.Bool.{Bool, true, false, cond, ◌&&◌, ◌||◌, or-false}
use mathlib.Core.List.{List, [], ◌∷◌, ◌++◌}
use mathlib.Core.Logic.{inl, inr}
use Prim.Native.Nat.{ℕ, zero, suc, ◌+◌, ◌-◌, ◌<◌, ◌≤◌}
use native.Mathlib.Omega.{arith}
use native.Mathlib.Numerals.{add-one}
use lib.Dec.{eqb}
use lib.ListN.{length, get_or, set, take, length-set}
use lib.Seq.{get_or-set_same, get_or-set_other, take-set-le, take-suc-set}
use borrow.Author.Tests.{eqb-true, eqb-false, eq-eqb, ne_eqb}
use Rattle.ir.specs.Limits.{max_nodes}
use Rattle.graph.specs.Graph.{member}
use Rattle.model.specs.Maps.{keep}
use Rattle.model.proofs.Maps.{Same, same?, by_bool}
use Rattle.model.proofs.Lists.{or_right, member_append, length_keep, count_length}
use Rattle.sweep.specs.Queue.{eligible_in, Queued, Longer, Released}

-- one mark more
marks_more : (marks : List Bool) (n : ℕ) → n < length marks → get_or marks n false ≡ false → length (keep (λ b. b) (set marks n true)) ≡ suc (length (keep (λ b. b) marks))
unfolding keep
marks_more [] n l e = absurd (omega arith)
marks_more (b ∷ bs) zero l e = rw e
marks_more (b ∷ bs) (suc n) l e = go b (marks_more bs n (omega arith) e)
  where
    go : (b : Bool) → length (keep (λ b. b) (set bs n true)) ≡ suc (length (keep (λ b. b) bs)) → length (cond b (b ∷ keep (λ b. b) (set bs n true)) (keep (λ b. b) (set bs n true))) ≡ suc (length (cond b (b ∷ keep (λ b. b) bs) (keep (λ b. b) bs)))
    go true q = ap suc q
    go false q = q

few_marks : (marks : List Bool) → length (keep (λ b. b) marks) ≤ length marks
few_marks marks = omega (arith, length_keep (λ b. b) marks, count_length (λ b. b) marks)

pub longer_none : {order : List ℕ} {tail : ℕ} → Longer order tail order tail
longer_none = record { more = omega arith; kept = λ k l. refl }

pub longer_more : {order order' order'' : List ℕ} {tail tail' tail'' : ℕ} → Longer order tail order' tail' → Longer order' tail' order'' tail'' → Longer order tail order'' tail''
longer_more a b = record { more = omega arith; kept = λ k l. b.kept k (omega (arith, a.more)) ∙ a.kept k l }

module _ {eligible : List Bool} {degrees : List ℕ} {marks : List Bool} {order : List ℕ} {tail : ℕ} (n : ℕ) (in-nodes : n < max_nodes) (some_wire : 0 < get_or degrees n 0) (q : Queued eligible degrees marks order tail) where
  -- the node did not go before
  unmarked : get_or marks n false ≡ false
  unmarked = q.marked n in-nodes ∙ go (eligible_in eligible n) (ne_eqb (get_or degrees n 0) 0 (λ e. omega arith))
    where
      go : (b : Bool) → eqb (get_or degrees n 0) 0 ≡ false → (b && eqb (get_or degrees n 0) 0) ≡ false
      go true e = e
      go false e = refl

  pub place_left : tail < max_nodes
  place_left =
      let e : length (set marks n true) ≡ max_nodes = length-set marks n true ∙ q.marks_long in
      omega (arith, marks_more marks n (omega (arith, q.marks_long)) unmarked, few_marks (set marks n true), q.many)

  -- its degree falls, and it stays
  pub queued_same : (v : ℕ) → (eligible_in eligible n && eqb v 0) ≡ false → Queued eligible (set degrees n v) marks order tail
  queued_same v s =
      record {
        degrees_long = length-set degrees n v ∙ q.degrees_long;
        marks_long = q.marks_long;
        order_long = q.order_long;
        marked = λ m l. go m l (same? n m);
        listed = q.listed;
        once = q.once;
        many = q.many;
      }
    where
      here : get_or (set degrees n v) n 0 ≡ v
      here = get_or-set_same degrees n v 0 (omega (arith, q.degrees_long))

      go : (m : ℕ) → m < max_nodes → Same n m → get_or marks m false ≡ (eligible_in eligible m && eqb (get_or (set degrees n v) m 0) 0)
      go m l (inl d) = subst (λ (k : ℕ). get_or marks k false ≡ (eligible_in eligible k && eqb (get_or (set degrees n v) k 0) 0)) d.1 (unmarked ∙ sym (ap (λ (x : ℕ). eligible_in eligible n && eqb x 0) here ∙ s))
      go m l (inr d) = q.marked m l ∙ ap (λ (x : ℕ). eligible_in eligible m && eqb x 0) (sym (get_or-set_other degrees n m v 0 (λ e. eqb-false n m d (sym e))))

  -- it goes
  pub queued_more : (v : ℕ) → eligible_in eligible n ≡ true → v ≡ 0 → Queued eligible (set degrees n v) (set marks n true) (set order tail n) (tail + 1)
  unfolding member
  queued_more v a z =
      record {
        degrees_long = length-set degrees n v ∙ q.degrees_long;
        marks_long = length-set marks n true ∙ q.marks_long;
        order_long = length-set order tail n ∙ q.order_long;
        marked = λ m l. go m l (same? n m);
        listed = λ m. ap (member m) (ap (λ (k : ℕ). take k (set order tail n)) (add-one tail) ∙ takes) ∙ (member_append m (take tail order) (n ∷ []) ∙ list m (same? n m));
        once = λ i l. by_bool (eqb i tail) (λ e. last i (eqb-true i tail e)) (λ e. before i l (eqb-false i tail e));
        many = omega (arith, q.many, marks_more marks n (omega (arith, q.marks_long)) unmarked);
      }
    where
      place : tail < length order
      place = omega (arith, place_left, q.order_long)

      takes : take (suc tail) (set order tail n) ≡ take tail order ++ (n ∷ [])
      takes = take-suc-set order tail n place

      go : (m : ℕ) → m < max_nodes → Same n m → get_or (set marks n true) m false ≡ (eligible_in eligible m && eqb (get_or (set degrees n v) m 0) 0)
      go m l (inl d) =
          subst (λ (k : ℕ). get_or (set marks n true) k false ≡ (eligible_in eligible k && eqb (get_or (set degrees n v) k 0) 0)) d.1
          (get_or-set_same marks n true false (omega (arith, q.marks_long)) ∙ sym (rw (get_or-set_same degrees n v 0 (omega (arith, q.degrees_long)), a, z)))
      go m l (inr d) =
          get_or-set_other marks n m true false (λ e. eqb-false n m d (sym e))
          ∙ (q.marked m l ∙ ap (λ (x : ℕ). eligible_in eligible m && eqb x 0) (sym (get_or-set_other degrees n m v 0 (λ e. eqb-false n m d (sym e)))))

      list : (m : ℕ) → Same n m → (member m (take tail order) || (eqb n m || false)) ≡ get_or (set marks n true) m false
      list m (inl d) =
          subst (λ (k : ℕ). (member k (take tail order) || (eqb n k || false)) ≡ get_or (set marks n true) k false) d.1
          (or_right (member n (take tail order)) _ (rw (eq-eqb n n refl)) ∙ sym (get_or-set_same marks n true false (omega (arith, q.marks_long))))
      list m (inr d) = rw (d, or-false) (q.listed m ∙ sym (get_or-set_other marks n m true false (λ e. eqb-false n m d (sym e))))

      last : (i : ℕ) → i ≡ tail → member (get_or (set order tail n) i 0) (take i (set order tail n)) ≡ false
      last i e =
          subst (λ (k : ℕ). member (get_or (set order tail n) k 0) (take k (set order tail n)) ≡ false) (sym e)
          (rw (get_or-set_same order tail n 0 place, take-set-le tail order tail n (omega arith)) (q.listed n ∙ unmarked))

      before : (i : ℕ) → i < tail + 1 → (i ≡ tail → ⊥) → member (get_or (set order tail n) i 0) (take i (set order tail n)) ≡ false
      before i l ne = rw (get_or-set_other order tail i n 0 ne, take-set-le i order tail n (omega arith)) (q.once i (omega arith))

  -- ---- what `release` leaves

  pub kept_other : (v : ℕ) → (v ≡ 0 → ⊥) → Queued eligible (set degrees n v) marks order tail
  kept_other v ne = queued_same v (go (eligible_in eligible n))
    where
      go : (b : Bool) → (b && eqb v 0) ≡ false
      go true = ne_eqb v 0 ne
      go false = refl

  pub kept_not : (v : ℕ) → eligible_in eligible n ≡ false → Queued eligible (set degrees n v) marks order tail
  kept_not v a = queued_same v (rw a)

pub released_none : {n : ℕ} {degrees order : List ℕ} {tail : ℕ} → Released n degrees order tail (set degrees n (get_or degrees n 0 - 1)) order tail
released_none = record { degree = refl; longer = longer_none }

pub released_more : {n : ℕ} {degrees order : List ℕ} {tail : ℕ} → Released n degrees order tail (set degrees n (get_or degrees n 0 - 1)) (set order tail n) (tail + 1)
released_more {n} {degrees} {order} {tail} = record { degree = refl; longer = record { more = omega arith; kept = λ k l. take-set-le k order tail n l } }
