-- A wire's targets are found within as many Branches as there are nodes exactly when no chain of targets enters one planned Branch twice.
use Rattle.std.specs.Prelude.{Option, None, Some}
use mathlib.Core.Path.{◌≡◌, refl, sym, ap, ◌∙◌}
use mathlib.Core.Bool.{Bool, true, false, cond, ◌||◌, false≢true}
use mathlib.Core.List.Memᴰ
use mathlib.Core.List.{List, [], ◌∷◌, ◌++◌, Memᴰ}
use mathlib.Core.Logic.{◌⊎◌, inl, inr, ◌↔◌}
use Prim.Native.Nat.{ℕ, zero, suc, ◌+◌, ◌<◌, ◌≤◌}
use native.Mathlib.Omega.{arith}
use lib.Dec.{eqb}
use lib.ListN.{length}
use Rattle.ir.specs.Ports.{exec}
use Rattle.ir.specs.declared.PortRef.{PortRef}
use Rattle.graph.specs.Graph.{member}
use Rattle.model.specs.Maps.{Map, All, Distinct}
use Rattle.model.specs.Offer.{PlanAction, BecomeLiteral, ShortCircuit, Truncate}
use Rattle.model.specs.Rewrite.{both, collect, arrive, reach, Enters, Targets, TargetCycle}
use Rattle.model.proofs.Maps.{Same, same?, by_bool, none_some}
use Rattle.model.proofs.Lists.{distinct_below}
use Rattle.model.proofs.TargetCounts.{both_some}

-- ---- chains

collect_each : {A B : Type 0} (f : A → Option (List B)) (ts : List A) (xs : List B) → collect f ts ≡ Some xs → (t : A) → Memᴰ t ts → (ys : List B) × (f t ≡ Some ys)
unfolding collect
collect_each f [] xs e t m = absurd (Memᴰ.not-nil m)
collect_each {A} {B} f (x ∷ ts) xs e t m = go (Memᴰ.cases_cons m) (collect_each f ts)
  where
    go : (t ≡ x) ⊎ Memᴰ t ts → ((xs : List B) → collect f ts ≡ Some xs → (t : A) → Memᴰ t ts → (ys : List B) × (f t ≡ Some ys)) → (ys : List B) × (f t ≡ Some ys)
    go (inl q) ih = let (ys, zs, r, s, u) = both_some _ _ xs e in (ys, ap f q ∙ r)
    go (inr k) ih = let (ys, zs, r, s, u) = both_some _ _ xs e in ih zs s t k

-- one that gives nothing
collect_none : {A B : Type 0} (f : A → Option (List B)) (ts : List A) → collect f ts ≡ None → (t : A) × Memᴰ t ts × (f t ≡ None)
unfolding collect both
collect_none f [] e = none_some [] (sym e)
collect_none {A} {B} f (x ∷ ts) e = go (f x) refl (collect f ts) refl e (collect_none f ts)
  where
    go : (o : Option (List B)) → f x ≡ o → (q : Option (List B)) → collect f ts ≡ q → both o q ≡ None → (collect f ts ≡ None → (t : A) × Memᴰ t ts × (f t ≡ None)) → (t : A) × Memᴰ t (x ∷ ts) × (f t ≡ None)
    go None r q s e ih = (x, Memᴰ.head refl, r)
    go (Some xs) r None s e ih = let (t, m, z) = ih s in (t, Memᴰ.tail m, z)
    go (Some xs) r (Some ys) s e ih = none_some (xs ++ ys) (sym e)

module _ (p : Map PlanAction) where
  pub arrive_on : (f : List PortRef → Option (List PortRef)) (e t : PortRef) (s : Enters p e t) → arrive f (p e.node_id) e ≡ f s.taken
  unfolding arrive
  arrive_on f e t s = rw (s.planned, s.entered)

  -- a step takes one from what is left
  reach_step : (k : ℕ) (e t : PortRef) (xs : List PortRef) → reach p k e ≡ Some xs → Enters p e t → (j : ℕ) × (suc j ≡ k) × ((ys : List PortRef) × (reach p j t ≡ Some ys))
  unfolding reach
  reach_step zero e t xs r s = none_some xs (sym (arrive_on (λ ts. None) e t s) ∙ r)
  reach_step (suc k) e t xs r s = (k, refl, collect_each (reach p k) s.taken xs (sym (arrive_on (λ ts. collect (reach p k) ts) e t s) ∙ r) t s.member)

  reach_chain : {e f : PortRef} → Targets p e f → (k : ℕ) (xs : List PortRef) → reach p k e ≡ Some xs → (j : ℕ) × (j ≤ k) × ((ys : List PortRef) × (reach p j f ≡ Some ys))
  reach_chain Targets.here k xs r = (k, omega arith, (xs, r))
  reach_chain (Targets.step {e = e} {t = t} s c) k xs r =
      let (j, q, w) = reach_step k e t xs r s in
      let (i, l, z) = reach_chain c j w.0 w.1 in
      (i, omega arith, z)

  -- where the targets run out, no chain goes round
  round : (b t : PortRef) → Enters p b t → Targets p t b → (n k : ℕ) → k ≤ n → (xs : List PortRef) → reach p k b ≡ Some xs → ⊥
  round b t s c zero k l xs r = let (j, q, w) = reach_step k b t xs r s in omega arith
  round b t s c (suc n) k l xs r =
      let (j, q, w) = reach_step k b t xs r s in
      let (i, m, z) = reach_chain c j w.0 w.1 in
      round b t s c n i (omega arith) z.0 z.1

  pub no_target_cycle : (k : ℕ) (e : PortRef) (xs : List PortRef) → reach p k e ≡ Some xs → TargetCycle p e → ⊥
  no_target_cycle k e xs r c =
      let (j, l, z) = reach_chain c.there k xs r in
      round c.twice c.after c.enters c.back j j (omega arith) z.0 z.1

  -- ---- where they do not run out within n Branches, and planned nodes are below n, a chain goes round

  chain_on : {e f : PortRef} → Targets p e f → (g : PortRef) → Enters p f g → Targets p e g
  chain_on Targets.here g s = Targets.step s Targets.here
  chain_on (Targets.step r c) g s = Targets.step r (chain_on c g s)

  -- e is a planned Branch at exec
  record AtExec (e : PortRef) : Type 0 where
    taken : List PortRef
    planned : p e.node_id ≡ Some (Truncate taken)
    entered : e.port ≡ exec

  arrive_none : (f : List PortRef → Option (List PortRef)) (e : PortRef) (o : Option PlanAction) → p e.node_id ≡ o → arrive f o e ≡ None → (n : AtExec e) × (f n.taken ≡ None)
  unfolding arrive
  arrive_none f e None q r = none_some (e ∷ []) (sym r)
  arrive_none f e (Some (BecomeLiteral v)) q r = none_some [] (sym r)
  arrive_none f e (Some (ShortCircuit s)) q r = none_some [] (sym r)
  arrive_none f e (Some (Truncate ts)) q r = go (same? e.port exec) r
    where
      go : Same e.port exec → cond (eqb e.port exec) (f ts) (Some []) ≡ None → (n : AtExec e) × (f n.taken ≡ None)
      go (inl d) r = (record { taken = ts; planned = q; entered = d.1 }, rw d.0 at r)
      go (inr d) r = none_some [] (sym (rw d at r))

  -- the nodes passed on the way to e from a, each with the rest of its way
  record Passed (a e : PortRef) (x : ℕ) : Type 0 where
    place : PortRef
    after : PortRef
    at : place.node_id ≡ x
    there : Targets p a place
    enters : Enters p place after
    back : Targets p after e

  passed_on : (a e t : PortRef) → Enters p e t → (xs : List ℕ) → All (Passed a e) xs → All (Passed a t) xs
  passed_on a e t s [] h = tt
  passed_on a e t s (x ∷ xs) h =
      (record { place = h.0.place; after = h.0.after; at = h.0.at; there = h.0.there; enters = h.0.enters; back = chain_on h.0.back t s }, passed_on a e t s xs h.1)

  -- a Branch that was passed already
  again : (a e : PortRef) → AtExec e → (xs : List ℕ) → All (Passed a e) xs → member e.node_id xs ≡ true → TargetCycle p a
  unfolding member
  again a e n [] h m = absurd (false≢true m)
  again a e n (x ∷ xs) h m = go (same? x e.node_id) m (again a e n xs h.1)
    where
      go : Same x e.node_id → (eqb x e.node_id || member e.node_id xs) ≡ true → (member e.node_id xs ≡ true → TargetCycle p a) → TargetCycle p a
      go (inl d) m ih =
          let q : h.0.place ≡ e = λ i. record { node_id = (h.0.at ∙ d.1) i; port = (h.0.enters.entered ∙ sym n.entered) i } in
          record { twice = h.0.place; after = h.0.after; there = h.0.there; enters = h.0.enters; back = rw q h.0.back }
      go (inr d) m ih = ih (rw d at m)

  module _ (n : ℕ) (small : (x : ℕ) (q : PlanAction) → p x ≡ Some q → x < n) where
    long : (k : ℕ) (a e : PortRef) → Targets p a e → (xs : List ℕ) → Distinct xs → All (λ x. x < n) xs → All (Passed a e) xs → n ≤ length xs + k → reach p k e ≡ None → TargetCycle p a
    unfolding reach
    long zero a e c xs d b h l r = go (member e.node_id xs) refl
      where
        at_exec : AtExec e
        at_exec = (arrive_none (λ ts. None) e _ refl r).0

        go : (t : Bool) → member e.node_id xs ≡ t → TargetCycle p a
        go true f = again a e at_exec xs h f
        go false f = let x : ⊥ = omega (arith, distinct_below n (e.node_id ∷ xs) (f, d) (small e.node_id _ at_exec.planned, b)) in absurd x
    long (suc k) a e c xs d b h l r =
        let at_exec : AtExec e = (arrive_none (λ ts. collect (reach p k) ts) e _ refl r).0 in
        let next : (t : PortRef) × Memᴰ t at_exec.taken × (reach p k t ≡ None) = collect_none (reach p k) at_exec.taken (arrive_none (λ ts. collect (reach p k) ts) e _ refl r).1 in
        let s : Enters p e next.0 = record { taken = at_exec.taken; planned = at_exec.planned; entered = at_exec.entered; member = next.1 } in
        by_bool
        (member e.node_id xs)
        (λ f. again a e at_exec xs h f)
        (λ f.
        long
        k
        a
        next.0
        (chain_on c next.0 s)
        (e.node_id ∷ xs)
        (f, d)
        (small e.node_id _ at_exec.planned, b)
        (record { place = e; after = next.0; at = refl; there = c; enters = s; back = Targets.here }, passed_on a e next.0 s xs h)
        (omega arith)
        next.2)

    -- within n Branches: the targets of e run out, or a chain from e enters one Branch twice
    pub target_cycle : (e : PortRef) → (reach p n e ≡ None) ↔ TargetCycle p e
    target_cycle e = (λ r. long n e e Targets.here [] tt tt tt (omega arith) r, λ c. only (reach p n e) refl c)
      where
        only : (o : Option (List PortRef)) → reach p n e ≡ o → TargetCycle p e → reach p n e ≡ None
        only None q c = q
        only (Some xs) q c = absurd (no_target_cycle n e xs q c)
