-- A wire's source is found within as many Selects as there are nodes exactly when no chain of sources reaches one planned Select twice.
use Rattle.std.specs.Prelude.{Option, None, Some}
use mathlib.Core.Path.{◌≡◌, refl, sym, ap, ◌∙◌, subst}
use mathlib.Core.Bool.{true, ◌||◌, false≢true}
use mathlib.Core.List.{List, [], ◌∷◌}
use mathlib.Core.Logic.{◌⊎◌, inl, inr, ◌↔◌}
use Prim.Native.Nat.{ℕ, zero, suc, ◌+◌, ◌<◌, ◌≤◌}
use native.Mathlib.Omega.{arith}
use lib.Dec.{eqb}
use lib.ListN.{length}
use Rattle.ir.specs.declared.PortRef.{PortRef}
use Rattle.graph.specs.Graph.{member}
use Rattle.model.specs.Maps.{Map, All, Distinct}
use Rattle.model.specs.Offer.{PlanAction, BecomeLiteral, ShortCircuit, Truncate}
use Rattle.model.specs.Rewrite.{Source, cycles, drops, from, leave, follow, Passes, Sources, SourceCycle}
use Rattle.model.proofs.Maps.{Same, same?, by_bool}
use Rattle.model.proofs.Lists.{distinct_below}

-- it is no cycle
abbrev Ends : Source → Type 0
Ends cycles = ⊥
Ends drops = Unit {0}
Ends (from e) = Unit {0}

source_dec : (s : Source) → (s ≡ cycles) ⊎ Ends s
source_dec cycles = inl refl
source_dec drops = inr tt
source_dec (from e) = inr tt

module _ (p : Map PlanAction) where
  leave_on : (f : PortRef → Source) (e s : PortRef) → Passes p e s → leave f (p e.node_id) e ≡ f s
  unfolding leave
  leave_on f e s q = rw q

  follow_step : (k : ℕ) (e s : PortRef) → Ends (follow p k e) → Passes p e s → (j : ℕ) × (suc j ≡ k) × Ends (follow p j s)
  unfolding follow
  follow_step zero e s h q = absurd (subst Ends (leave_on (λ t. cycles) e s q) h)
  follow_step (suc k) e s h q = (k, refl, subst Ends (leave_on (λ t. follow p k t) e s q) h)

  follow_chain : {e f : PortRef} → Sources p e f → (k : ℕ) → Ends (follow p k e) → (j : ℕ) × (j ≤ k) × Ends (follow p j f)
  follow_chain Sources.here k h = (k, omega arith, h)
  follow_chain (Sources.step {e = e} {s = s} q c) k h =
      let (j, l, w) = follow_step k e s h q in
      let (i, m, z) = follow_chain c j w in
      (i, omega arith, z)

  -- no chain goes round that ends
  round : (b t d : PortRef) → Passes p b t → Sources p t d → d.node_id ≡ b.node_id → (n k : ℕ) → k ≤ n → (e : PortRef) → e.node_id ≡ b.node_id → Ends (follow p k e) → ⊥
  round b t d q c m zero k l e x h = let (j, y, w) = follow_step k e t h (ap p x ∙ q) in omega arith
  round b t d q c m (suc n) k l e x h =
      let (j, y, w) = follow_step k e t h (ap p x ∙ q) in
      let (i, o, z) = follow_chain c j w in
      round b t d q c m n i (omega arith) d m z

  pub no_source_cycle : (k : ℕ) (e : PortRef) → Ends (follow p k e) → SourceCycle p e → ⊥
  no_source_cycle k e h c =
      let (j, l, z) = follow_chain c.there k h in
      round c.twice c.after c.again c.passes c.back c.same j j (omega arith) c.twice refl z

  chain_on : {e f : PortRef} → Sources p e f → (s : PortRef) → Passes p f s → Sources p e s
  chain_on Sources.here s q = Sources.step q Sources.here
  chain_on (Sources.step r c) s q = Sources.step r (chain_on c s q)

  leave_cycles : (f : PortRef → Source) (e : PortRef) (o : Option PlanAction) → p e.node_id ≡ o → leave f o e ≡ cycles → (s : PortRef) × Passes p e s × (f s ≡ cycles)
  unfolding leave
  leave_cycles f e None q r = absurd (subst Ends r tt)
  leave_cycles f e (Some (BecomeLiteral v)) q r = absurd (subst Ends r tt)
  leave_cycles f e (Some (ShortCircuit s)) q r = (s, q, r)
  leave_cycles f e (Some (Truncate ts)) q r = absurd (subst Ends r tt)

  record Passed (a e : PortRef) (x : ℕ) : Type 0 where
    place : PortRef
    after : PortRef
    at : place.node_id ≡ x
    there : Sources p a place
    passes : Passes p place after
    back : Sources p after e

  passed_on : (a e t : PortRef) → Passes p e t → (xs : List ℕ) → All (Passed a e) xs → All (Passed a t) xs
  passed_on a e t s [] h = tt
  passed_on a e t s (x ∷ xs) h =
      (record { place = h.0.place; after = h.0.after; at = h.0.at; there = h.0.there; passes = h.0.passes; back = chain_on h.0.back t s }, passed_on a e t s xs h.1)

  again : (a e : PortRef) (xs : List ℕ) → All (Passed a e) xs → member e.node_id xs ≡ true → SourceCycle p a
  unfolding member
  again a e [] h m = absurd (false≢true m)
  again a e (x ∷ xs) h m = go (same? x e.node_id) m (again a e xs h.1)
    where
      go : Same x e.node_id → (eqb x e.node_id || member e.node_id xs) ≡ true → (member e.node_id xs ≡ true → SourceCycle p a) → SourceCycle p a
      go (inl d) m ih =
          record { twice = h.0.place; after = h.0.after; again = e; there = h.0.there; passes = h.0.passes; back = h.0.back; same = sym d.1 ∙ sym h.0.at }
      go (inr d) m ih = ih (rw d at m)

  module _ (n : ℕ) (small : (x : ℕ) (q : PlanAction) → p x ≡ Some q → x < n) where
    long : (k : ℕ) (a e : PortRef) → Sources p a e → (xs : List ℕ) → Distinct xs → All (λ x. x < n) xs → All (Passed a e) xs → n ≤ length xs + k → follow p k e ≡ cycles → SourceCycle p a
    unfolding follow
    long zero a e c xs d b h l r =
        let next : (s : PortRef) × Passes p e s × (cycles ≡ cycles) = leave_cycles (λ s. cycles) e _ refl r in
        by_bool (member e.node_id xs) (λ f. again a e xs h f) (λ f. let x : ⊥ = omega (arith, distinct_below n (e.node_id ∷ xs) (f, d) (small e.node_id _ next.1, b)) in absurd x)
    long (suc k) a e c xs d b h l r =
        let next : (s : PortRef) × Passes p e s × (follow p k s ≡ cycles) = leave_cycles (λ s. follow p k s) e _ refl r in
        by_bool
        (member e.node_id xs)
        (λ f. again a e xs h f)
        (λ f.
        long
        k
        a
        next.0
        (chain_on c next.0 next.1)
        (e.node_id ∷ xs)
        (f, d)
        (small e.node_id _ next.1, b)
        (record { place = e; after = next.0; at = refl; there = c; passes = next.1; back = Sources.here }, passed_on a e next.0 next.1 xs h)
        (omega arith)
        next.2)

    -- within n Selects: the source of e is found, or a chain from e reaches one Select twice
    pub source_cycle : (e : PortRef) → (follow p n e ≡ cycles) ↔ SourceCycle p e
    source_cycle e = (λ r. long n e e Sources.here [] tt tt tt (omega arith) r, λ c. only (source_dec (follow p n e)) c)
      where
        only : (follow p n e ≡ cycles) ⊎ Ends (follow p n e) → SourceCycle p e → follow p n e ≡ cycles
        only (inl q) c = q
        only (inr h) c = absurd (no_source_cycle n e h c)
