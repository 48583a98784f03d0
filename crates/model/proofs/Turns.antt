-- What a loop that pops until none waits needs of the worklist.
use mathlib.Core.Path.{◌≡◌, refl, ap, ◌∙◌}
use mathlib.Core.List.{List, [], ◌∷◌, cons≢nil}
use Prim.Native.Nat.{ℕ, zero, suc, ◌+◌, ◌-◌, ◌<◌, ◌≤◌}
use native.Mathlib.Omega.{arith}
use native.Mathlib.Nat.{zero-add, suc-add}
use lib.ListN.{length}
use Rattle.value.specs.declared.Value.{Value}
use Rattle.graph.specs.Graph.{Graph}
use Rattle.model.specs.Maps.{Map, iterate}
use Rattle.model.specs.Inputs.{size}
use Rattle.model.specs.Trial.{State}
use Rattle.model.specs.Worklist.{Work, start, pop, next, step, after, worklist}
use Rattle.model.proofs.Order.{spent}

iterate_suc : {A : Type 0} (i : ℕ) (f : A → A) (a : A) → iterate (suc i) f a ≡ f (iterate i f a)
unfolding iterate
iterate_suc zero f a = refl
iterate_suc (suc i) f a = iterate_suc i f (f a)

iterate_fixed : {A : Type 0} (i : ℕ) (f : A → A) (a : A) → f a ≡ a → iterate i f a ≡ a
unfolding iterate
iterate_fixed zero f a e = refl
iterate_fixed (suc i) f a e = rw e (iterate_fixed i f a e)

iterate_add : {A : Type 0} (i j : ℕ) (f : A → A) (a : A) → iterate (i + j) f a ≡ iterate j f (iterate i f a)
unfolding iterate
iterate_add zero j f a = rw zero-add
iterate_add (suc i) j f a = rw suc-add (iterate_add i j f (f a))

module _ (own : Map Value) (g : Graph) where
  -- one turn more
  pub after_suc : (i : ℕ) → after own g (suc i) ≡ step own g (after own g i)
  unfolding after
  after_suc i = iterate_suc i (step own g) (start g)

  -- a turn at a queue that is not empty is a pop of its front
  pub turn : (w : Work) (n : ℕ) (queue : List ℕ) → w.queue ≡ n ∷ queue → step own g w ≡ pop own g w.state w.pops n queue
  unfolding step next
  turn w n queue e = rw (e, next)

  still_at : (s : State) (pops : ℕ) (queue : List ℕ) → queue ≡ [] → next own g s pops queue ≡ record { queue = queue; state = s; pops = pops }
  unfolding next
  still_at s pops [] e = refl
  still_at s pops (x ∷ queue) e = absurd (cons≢nil e)

  still : (w : Work) → w.queue ≡ [] → step own g w ≡ w
  unfolding step
  still w e = still_at w.state w.pops w.queue e

  -- where the queue is not empty after i turns, i is below the nodes and the wires: a loop's measure
  pub goes_on : (i n : ℕ) (queue : List ℕ) → (after own g i).queue ≡ n ∷ queue → (after own g i).pops < size g + length g.wires
  goes_on i n queue e = omega (arith, spent own g i, ap length e)

  -- where it is empty after i turns, the worklist stands there
  pub stops : (i : ℕ) → i ≤ size g + length g.wires → (after own g i).queue ≡ [] → worklist own g ≡ after own g i
  unfolding worklist after
  stops i l e =
      let k : ℕ = size g + length g.wires - i in
      let q : size g + length g.wires ≡ i + k = omega arith in
      ap (λ (m : ℕ). after own g m) q ∙ (iterate_add i k (step own g) (start g) ∙ iterate_fixed k (step own g) (after own g i) (still (after own g i) e))
