-- The waiting nodes are distinct nodes that are not known, so there are never more of them than places.
use Rattle.std.specs.Prelude.{None}
use mathlib.Core.Path.{◌≡◌, refl, sym, ◌∙◌}
use mathlib.Core.Bool.{Bool, true, false, cond, not, ◌&&◌, ◌||◌, true≢false}
use mathlib.Core.List.{List, [], ◌∷◌, ◌++◌, append-nil}
use mathlib.Core.Logic.{inl, inr, ◌≢◌}
use Prim.Native.Nat.{ℕ, zero, suc, ◌<◌, ◌≤◌}
use native.Mathlib.Omega.{arith}
use lib.Dec.{eqb}
use lib.ListN.{length}
use borrow.Author.Tests.{not-true}
use Rattle.value.specs.declared.Value.{Value}
use Rattle.graph.specs.Graph.{Graph, member}
use Rattle.graph.proofs.Roles.{and_left, and_right}
use Rattle.model.specs.Maps.{keep, is_some, Map, All, Distinct, up_to}
use Rattle.model.specs.Inputs.{size}
use Rattle.model.specs.Trial.{State, empty, trial}
use Rattle.model.specs.Worklist.{queue_places, consumes, joiners, Work, start, newly, pop, next, step, after, Waiting}
use Rattle.model.proofs.Maps.{eqb_same, Same, same?, some_false}
use Rattle.model.proofs.Order.{elsewhere}
use Rattle.model.proofs.Lists.{or_false_left, or_false_right, member_append, all_append, all_weaken, all_keep, distinct_below, iterate_keeps}

-- what is not among the elements is not among those kept
pub keep_out : (f : ℕ → Bool) (m : ℕ) (xs : List ℕ) → member m xs ≡ false → member m (keep f xs) ≡ false
unfolding keep member
keep_out f m [] e = refl
keep_out f m (x ∷ xs) e = go (f x) (keep_out f m xs (or_false_right (eqb x m) _ e))
  where
    go : (b : Bool) → member m (keep f xs) ≡ false → member m (cond b (x ∷ keep f xs) (keep f xs)) ≡ false
    go true q = rw (or_false_left (eqb x m) _ e, q)
    go false q = q

distinct_keep : (f : ℕ → Bool) (xs : List ℕ) → Distinct xs → Distinct (keep f xs)
unfolding keep
distinct_keep f [] d = tt
distinct_keep f (x ∷ xs) d = go (f x) (distinct_keep f xs d.1)
  where
    go : (b : Bool) → Distinct (keep f xs) → Distinct (cond b (x ∷ keep f xs) (keep f xs))
    go true q = (keep_out f x xs d.0, q)
    go false q = q

apart : (x : ℕ) (ys : List ℕ) → All (λ y. y ≢ x) ys → member x ys ≡ false
unfolding member
apart x [] h = refl
apart x (y ∷ ys) h = go (same? y x) (apart x ys h.1)
  where
    go : Same y x → member x ys ≡ false → (eqb y x || member x ys) ≡ false
    go (inl d) q = absurd (h.0 d.1)
    go (inr d) q = rw (d, q)

-- two distinct lists with nothing in common
distinct_append : (xs ys : List ℕ) → Distinct xs → Distinct ys → All (λ y. member y xs ≡ false) ys → Distinct (xs ++ ys)
unfolding member
distinct_append [] ys d e h = e
distinct_append (x ∷ xs) ys d e h = (
  member_append x xs ys ∙ rw (d.0, apart x ys (all_weaken _ _ (λ y q r. true≢false (sym (rw r (eqb_same x)) ∙ or_false_left (eqb x y) _ q)) ys h)),
  distinct_append xs ys d.1 e (all_weaken _ _ (λ y q. or_false_right (eqb x y) _ q) ys h),
)

up_to_below : (n : ℕ) → All (λ x. x < n) (up_to n)
unfolding up_to
up_to_below zero = tt
up_to_below (suc n) = all_append (λ x. x < suc n) (up_to n) (n ∷ []) (all_weaken _ _ (λ x l. omega arith) (up_to n) (up_to_below n)) (omega arith, tt)

pub up_to_out : (n : ℕ) → member n (up_to n) ≡ false
up_to_out n = apart n (up_to n) (all_weaken _ _ (λ x l e. other x n l e) (up_to n) (up_to_below n))
  where
    other : (x n : ℕ) → x < n → x ≡ n → ⊥
    other x n l e = omega arith

-- one more, which was not among them
pub distinct_more : (xs : List ℕ) (x : ℕ) → Distinct xs → member x xs ≡ false → Distinct (xs ++ (x ∷ []))
distinct_more xs x d m = distinct_append xs (x ∷ []) d (unfold member in (refl, tt)) (m, tt)

up_to_distinct : (n : ℕ) → Distinct (up_to n)
unfolding up_to
up_to_distinct zero = tt
up_to_distinct (suc n) = distinct_more (up_to n) n (up_to_distinct n) (up_to_out n)

-- a node that does not wait finds a place: each of those that wait waits once, and there are no more nodes than places
pub finds_place : (queue : List ℕ) (c : ℕ) → Distinct queue → All (λ x. x < queue_places) queue → c < queue_places → member c queue ≡ false → length queue < queue_places
finds_place queue c d b l m = distinct_below queue_places (c ∷ queue) (m, d) (l, b)

all_none : (xs : List ℕ) → All (λ x. empty.known x ≡ None) xs
unfolding empty
all_none [] = tt
all_none (x ∷ xs) = (refl, all_none xs)

-- each of the nodes of a graph has a place
module _ (own : Map Value) (g : Graph) (few : size g ≤ queue_places) where
  waits : (w : Work) → Distinct w.queue → All (λ c. c < size g) w.queue → All (λ c. w.state.known c ≡ None) w.queue → Waiting g w
  waits w d b u = record { once = d; nodes = b; places = omega (arith, distinct_below (size g) w.queue d b); unknown = u }

  -- a trial makes none of the others known
  stays : (s : State) (n : ℕ) (queue : List ℕ) → member n queue ≡ false → All (λ x. s.known x ≡ None) queue → All (λ x. (trial own g s n).known x ≡ None) queue
  unfolding member
  stays s n [] m u = tt
  stays s n (x ∷ xs) m u = (elsewhere own g s n x (or_false_left (eqb x n) _ m) ∙ u.0, stays s n xs (or_false_right (eqb x n) _ m) u.1)

  next_waiting : (s : State) (pops : ℕ) (queue : List ℕ) → Waiting g (record { queue = queue; state = s; pops = pops }) → Waiting g (next own g s pops queue)
  unfolding next pop joiners
  next_waiting s pops [] h = h
  next_waiting s pops (n ∷ queue) h = go (newly s t n)
    where
      t : State
      t = trial own g s n

      f : ℕ → Bool
      f c = consumes g n c && not (is_some (t.known c)) && not (member c queue)

      kept : All (λ x. (x < size g) × (f x ≡ true)) (keep f (up_to (size g)))
      kept = all_keep _ f (up_to (size g)) (up_to_below (size g))

      each : (P : ℕ → Type 0) → ((y : ℕ) → y < size g → f y ≡ true → P y) → All P (keep f (up_to (size g)))
      each P k = all_weaken (λ x. (x < size g) × (f x ≡ true)) P (λ y q. k y q.0 q.1) (keep f (up_to (size g))) kept

      out : (y : ℕ) → f y ≡ true → member y queue ≡ false
      out y q = not-true (member y queue) (and_right (consumes g n y && not (is_some (t.known y))) (not (member y queue)) q)

      new : (y : ℕ) → f y ≡ true → t.known y ≡ None
      new y q = some_false (t.known y) (not-true (is_some (t.known y)) (and_right (consumes g n y) (not (is_some (t.known y))) (and_left (consumes g n y && not (is_some (t.known y))) (not (member y queue)) q)))

      still : All (λ x. t.known x ≡ None) queue
      still = stays s n queue h.once.0 h.unknown.1

      go : (b : Bool) → Waiting g (record { queue = queue ++ cond b (keep f (up_to (size g))) []; state = t; pops = suc pops })
      go true =
          waits _
          (distinct_append queue _ h.once.1 (distinct_keep f (up_to (size g)) (up_to_distinct (size g))) (each (λ y. member y queue ≡ false) (λ y l q. out y q)))
          (all_append (λ x. x < size g) queue _ h.nodes.1 (each (λ x. x < size g) (λ y l q. l)))
          (all_append (λ x. t.known x ≡ None) queue _ still (each (λ x. t.known x ≡ None) (λ y l q. new y q)))
      go false = waits _ (rw append-nil h.once.1) (rw append-nil h.nodes.1) (rw append-nil still)

  -- after however many pops
  pub waiting : (pops : ℕ) → Waiting g (after own g pops)
  unfolding after start step
  waiting pops =
      iterate_keeps (Waiting g) (step own g) (λ w h. next_waiting w.state w.pops w.queue h) pops (start g) (waits (start g) (up_to_distinct (size g)) (up_to_below (size g)) (all_none (up_to (size g))))
