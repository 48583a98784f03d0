-- A wire's rewriting gives nothing exactly where document 01 says that it does not end; and so the first such wire is found.
use Rattle.std.specs.Prelude.{Option, None, Some}
use mathlib.Core.Path.{◌≡◌, refl, sym, ap, ◌∙◌}
use mathlib.Core.Bool.{cond}
use mathlib.Core.List.Memᴰ
use mathlib.Core.List.{List, [], ◌∷◌, ◌++◌, Memᴰ}
use mathlib.Core.Logic.{◌⊎◌, inl, inr, ◌↔◌}
use Prim.Native.Nat.{ℕ, zero, suc, ◌<◌}
use native.Mathlib.Omega.{arith}
use native.Mathlib.Nat.{not-suc-le-zero}
use lib.Dec.{eqb}
use lib.ListN.{get_or}
use Rattle.ir.specs.Ports.{exec}
use Rattle.ir.specs.declared.PortRef.{PortRef}
use Rattle.ir.specs.declared.Wire.{Wire}
use Rattle.records.specs.Access.{no_wire}
use Rattle.model.specs.Maps.{Map, is_some}
use Rattle.model.specs.Offer.{PlanAction, BecomeLiteral, ShortCircuit, Truncate}
use Rattle.model.specs.Rewrite.{both, collect, arrive, reach, Source, cycles, drops, from, follow, joined, rewrite_wire, rewrite_wires, Enters, Targets, FreeTarget, Endless, by_targets, by_sources}
use Rattle.model.specs.Outcome.{endless_index}
use Rattle.model.specs.Demands.{FirstEndless}
use Rattle.model.proofs.Maps.{Same, same?, none_some}
use Rattle.model.proofs.TargetCycles.{arrive_on, target_cycle}
use Rattle.model.proofs.SourceCycles.{source_cycle}

some_nil : {A : Type 0} {X : Type 0} (x : A) (xs : List A) → ◌≡◌ {A = Option (List A)} (Some (x ∷ xs)) (Some []) → X
some_nil x xs e = let z : ◌≡◌ {A = ℕ} 0 1 = cc in let b : ⊥ = omega arith in absurd b

-- where all together are none, each is none
both_nil : {A : Type 0} (o q : Option (List A)) → both o q ≡ Some [] → (o ≡ Some []) × (q ≡ Some [])
unfolding both
both_nil None q e = none_some [] e
both_nil (Some xs) None e = none_some [] e
both_nil (Some []) (Some ys) e = (refl, e)
both_nil (Some (x ∷ xs)) (Some ys) e = some_nil x (xs ++ ys) e

collect_nil : {A B : Type 0} (f : A → Option (List B)) (ts : List A) → collect f ts ≡ Some [] → (t : A) → Memᴰ t ts → f t ≡ Some []
unfolding collect
collect_nil f [] e t m = absurd (Memᴰ.not-nil m)
collect_nil {A} {B} f (x ∷ ts) e t m = go (Memᴰ.cases_cons m) (both_nil (f x) (collect f ts) e) (collect_nil f ts)
  where
    go : (t ≡ x) ⊎ Memᴰ t ts → (f x ≡ Some []) × (collect f ts ≡ Some []) → (collect f ts ≡ Some [] → (t : A) → Memᴰ t ts → f t ≡ Some []) → f t ≡ Some []
    go (inl q) p ih = ap f q ∙ p.0
    go (inr k) p ih = ih p.1 t k

-- where there is one, it comes from one of them
record From {A B : Type 0} (f : A → Option (List B)) (ts : List A) : Type 0 where
  origin : A
  member : Memᴰ origin ts
  first : B
  others : List B
  gives : f origin ≡ Some (first ∷ others)

collect_from : {A B : Type 0} (f : A → Option (List B)) (ts : List A) (x : B) (xs : List B) → collect f ts ≡ Some (x ∷ xs) → From f ts
unfolding collect both
collect_from f [] x xs e = some_nil x xs (sym e)
collect_from {A} {B} f (t ∷ ts) x xs e = go (f t) refl (collect f ts) refl e (collect_from f ts x xs)
  where
    go : (o : Option (List B)) → f t ≡ o → (q : Option (List B)) → collect f ts ≡ q → both o q ≡ Some (x ∷ xs) → (collect f ts ≡ Some (x ∷ xs) → From f ts) → From f (t ∷ ts)
    go None r q s e ih = none_some (x ∷ xs) e
    go (Some ys) r None s e ih = none_some (x ∷ xs) e
    go (Some []) r (Some zs) s e ih =
        let h : From f ts = ih (s ∙ e) in
        record { origin = h.origin; member = Memᴰ.tail h.member; first = h.first; others = h.others; gives = h.gives }
    go (Some (y ∷ ys)) r (Some zs) s e ih = record { origin = t; member = Memᴰ.head refl; first = y; others = ys; gives = r }

-- a result with how it was come by
is-none? : {A : Type 0} {X : Type 0} (o : Option A) → (o ≡ None → X) → ((a : A) → o ≡ Some a → X) → X
is-none? None f g = f refl
is-none? (Some a) f g = g a refl

module _ (p : Map PlanAction) where
  -- ---- targets that are not planned

  reach_nil_step : (k : ℕ) (e t : PortRef) → reach p k e ≡ Some [] → Enters p e t → (j : ℕ) × (reach p j t ≡ Some [])
  unfolding reach
  reach_nil_step zero e t r s = none_some [] (sym (arrive_on p (λ ts. None) e t s) ∙ r)
  reach_nil_step (suc k) e t r s = (k, collect_nil (reach p k) s.taken (sym (arrive_on p (λ ts. collect (reach p k) ts) e t s) ∙ r) t s.member)

  reach_nil : {e f : PortRef} → Targets p e f → (k : ℕ) → reach p k e ≡ Some [] → (j : ℕ) × (reach p j f ≡ Some [])
  reach_nil Targets.here k r = (k, r)
  reach_nil (Targets.step {e = e} {t = t} s c) k r = let (j, q) = reach_nil_step k e t r s in reach_nil c j q

  pub free_reach : (k : ℕ) (e : PortRef) → p e.node_id ≡ None → reach p k e ≡ Some (e ∷ [])
  unfolding reach arrive
  free_reach zero e q = rw q
  free_reach (suc k) e q = rw q

  no_free : (k : ℕ) (e : PortRef) → reach p k e ≡ Some [] → FreeTarget p e → ⊥
  no_free k e r f =
      let (j, q) = reach_nil f.there k r in
      some_nil f.target [] (sym (free_reach j f.target f.free) ∙ q)

  arrive_free : (enter : List PortRef → Option (List PortRef)) (e x : PortRef) (xs : List PortRef) (o : Option PlanAction) → p e.node_id ≡ o → arrive enter o e ≡ Some (x ∷ xs)
      → ((ts : List PortRef) → p e.node_id ≡ Some (Truncate ts) → e.port ≡ exec → enter ts ≡ Some (x ∷ xs) → FreeTarget p e) → FreeTarget p e
  unfolding arrive
  arrive_free enter e x xs None q r h = record { target = e; there = Targets.here; free = q }
  arrive_free enter e x xs (Some (BecomeLiteral v)) q r h = some_nil x xs (sym r)
  arrive_free enter e x xs (Some (ShortCircuit s)) q r h = some_nil x xs (sym r)
  arrive_free enter e x xs (Some (Truncate ts)) q r h = go (same? e.port exec) r
    where
      go : Same e.port exec → cond (eqb e.port exec) (enter ts) (Some []) ≡ Some (x ∷ xs) → FreeTarget p e
      go (inl d) r = h ts q d.1 (rw d.0 at r)
      go (inr d) r = some_nil x xs (sym (rw d at r))

  reach_free : (k : ℕ) (e x : PortRef) (xs : List PortRef) → reach p k e ≡ Some (x ∷ xs) → FreeTarget p e
  unfolding reach
  reach_free zero e x xs r = arrive_free _ e x xs _ refl r (λ ts q d s. none_some (x ∷ xs) s)
  reach_free (suc k) e x xs r =
      arrive_free _ e x xs _ refl r (λ ts q d s.
      let h : From (reach p k) ts = collect_from (reach p k) ts x xs s in
      let f : FreeTarget p h.origin = reach_free k h.origin h.first h.others h.gives in
      record { target = f.target; there = Targets.step (record { taken = ts; planned = q; entered = d; member = h.member }) f.there; free = f.free })

  -- ---- a wire

  module _ (n : ℕ) (small : (x : ℕ) (q : PlanAction) → p x ≡ Some q → x < n) where
    pub endless : (w : Wire) → (rewrite_wire p n w ≡ None) ↔ Endless p w
    unfolding rewrite_wire joined
    endless w = (λ e. only (reach p n w.target) refl (follow p n w.source) refl e, if)
      where
        only : (o : Option (List PortRef)) → reach p n w.target ≡ o → (s : Source) → follow p n w.source ≡ s → joined o s ≡ None → Endless p w
        only None q s r e = by_targets ((target_cycle p n small w.target).0 q)
        only (Some []) q s r e = none_some [] (sym e)
        only (Some (t ∷ ts)) q cycles r e = by_sources (reach_free n w.target t ts q) ((source_cycle p n small w.source).0 r)
        only (Some (t ∷ ts)) q drops r e = none_some [] (sym e)
        only (Some (t ∷ ts)) q (from s) r e = none_some _ (sym e)

        if : Endless p w → joined (reach p n w.target) (follow p n w.source) ≡ None
        if (by_targets c) = rw ((target_cycle p n small w.target).1 c)
        if (by_sources f c) = rw ((source_cycle p n small w.source).1 c) (go (reach p n w.target) refl)
          where
            go : (o : Option (List PortRef)) → reach p n w.target ≡ o → joined o cycles ≡ None
            go None q = refl
            go (Some []) q = absurd (no_free n w.target q f)
            go (Some (t ∷ ts)) q = refl

    -- ---- the first such wire

    pub first_endless : (ws : List Wire) → rewrite_wires p n ws ≡ None → FirstEndless p ws (endless_index p n ws)
    unfolding rewrite_wires collect both endless_index is_some
    first_endless [] e = none_some [] (sym e)
    first_endless (w ∷ ws) e = go (rewrite_wire p n w) refl (collect (rewrite_wire p n) ws) refl e (first_endless ws)
      where
        go : (o : Option (List Wire)) → rewrite_wire p n w ≡ o → (q : Option (List Wire)) → collect (rewrite_wire p n) ws ≡ q → both o q ≡ None
            → (collect (rewrite_wire p n) ws ≡ None → FirstEndless p ws (endless_index p n ws)) → FirstEndless p (w ∷ ws) (cond (is_some o) (suc (endless_index p n ws)) 0)
        go None r q s e ih = record { within = omega arith; endless = (endless w).0 r; first = λ j l x. absurd (not-suc-le-zero l) }
        go (Some xs) r (Some ys) s e ih = none_some (xs ++ ys) (sym e)
        go (Some xs) r None s e ih =
            let h : FirstEndless p ws (endless_index p n ws) = ih s in
            record { within = omega (arith, h.within); endless = h.endless; first = before h.first }
          where
            before : ((j : ℕ) → j < endless_index p n ws → Endless p (get_or ws j no_wire) → ⊥) → (j : ℕ) → j < suc (endless_index p n ws) → Endless p (get_or (w ∷ ws) j no_wire) → ⊥
            before h zero l x = none_some xs (sym ((endless w).1 x) ∙ r)
            before h (suc j) l x = h j (omega arith) x

    pub record Found (ws : List Wire) (i : ℕ) : Type 0 where
      pub stuck : rewrite_wires p n ws ≡ None
      pub at : endless_index p n ws ≡ i

    pub found : (ws : List Wire) (i : ℕ) → FirstEndless p ws i → Found ws i
    unfolding rewrite_wires collect both endless_index is_some
    found [] i h = absurd (not-suc-le-zero h.within)
    found (w ∷ ws) zero h = let q : rewrite_wire p n w ≡ None = (endless w).1 h.endless in record { stuck = rw (q, both); at = rw (q, is_some) }
    found (w ∷ ws) (suc i) h =
        is-none? (rewrite_wire p n w) (λ q. absurd (h.first 0 (omega arith) ((endless w).0 q))) (λ xs q.
        let k : Found ws i = found ws i (record { within = omega (arith, h.within); endless = h.endless; first = λ j l x. h.first (suc j) (omega arith) x }) in
        record { stuck = rw (q, both, k.stuck); at = rw (q, is_some) (ap suc k.at) })
