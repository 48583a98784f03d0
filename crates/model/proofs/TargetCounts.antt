-- The table of counts says how many unplanned targets there are.
use Rattle.std.specs.Prelude.{Option, None, Some}
use mathlib.Core.Path.{◌≡◌, refl, sym, ap, ap₂, ◌∙◌}
use mathlib.Core.Bool.{Bool, true, false, cond}
use mathlib.Core.List.{List, [], ◌∷◌, ◌++◌}
use Prim.Native.Nat.{ℕ, zero, suc, ◌≤◌}
use native.Mathlib.Omega.{arith}
use native.Mathlib.Decide.{le_ind}
use lib.Dec.{eqb}
use lib.ListN.{length-append}
use Rattle.ir.specs.Ports.{exec}
use Rattle.ir.specs.declared.PortRef.{PortRef}
use Rattle.model.specs.Maps.{Map}
use Rattle.model.specs.Offer.{PlanAction, BecomeLiteral, ShortCircuit, Truncate}
use Rattle.model.specs.Rewrite.{both, collect, arrive, reach}
use Rattle.model.specs.TargetCounts.{cap, capped_length, plus, total, count_at, taken_targets, round, rounds}
use Rattle.model.proofs.Maps.{none_some, ◌≼◌}

pub capped_both : (o q : Option (List PortRef)) → capped_length (both o q) ≡ plus (capped_length o) (capped_length q)
unfolding capped_length both plus cap
capped_both None q = refl
capped_both (Some xs) None = refl
capped_both (Some xs) (Some ys) = ap Some (omega (arith, length-append xs ys))

capped_collect : (f : PortRef → Option (List PortRef)) (h : PortRef → Option ℕ) → ((e : PortRef) → capped_length (f e) ≡ h e) → (es : List PortRef) → capped_length (collect f es) ≡ total h es
unfolding collect total
capped_collect f h q [] = unfold capped_length cap in refl
capped_collect f h q (e ∷ es) = capped_both (f e) (collect f es) ∙ ap₂ plus (q e) (capped_collect f h q es)

module _ (p : Map PlanAction) where
  -- the table after k rounds holds the counts of what k Branches reach
  count_arrive : (f : List PortRef → Option (List PortRef)) (table : ℕ → Option ℕ) (e : PortRef) → ((ts : List PortRef) → p e.node_id ≡ Some (Truncate ts) → capped_length (f ts) ≡ table e.node_id)
      → (o : Option PlanAction) → p e.node_id ≡ o → capped_length (arrive f o e) ≡ count_at table o e
  unfolding arrive count_at capped_length cap
  count_arrive f table e h None q = refl
  count_arrive f table e h (Some (BecomeLiteral v)) q = refl
  count_arrive f table e h (Some (ShortCircuit s)) q = refl
  count_arrive f table e h (Some (Truncate ts)) q = go (eqb e.port exec)
    where
      go : (b : Bool) → capped_length (cond b (f ts) (Some [])) ≡ cond b (table e.node_id) (Some 0)
      go true = h ts q
      go false = refl

  pub counts_right : (k : ℕ) (e : PortRef) → capped_length (reach p k e) ≡ count_at (rounds p k) (p e.node_id) e
  unfolding reach rounds round taken_targets capped_length
  counts_right zero e = count_arrive (λ ts. None) (rounds p zero) e (λ ts q. refl) _ refl
  counts_right (suc k) e =
      count_arrive
      (λ ts. collect (reach p k) ts)
      (rounds p (suc k))
      e
      (λ ts q. capped_collect (reach p k) _ (counts_right k) ts ∙ ap (λ (o : Option PlanAction). total (λ d. count_at (rounds p k) (p d.node_id) d) (taken_targets o)) (sym q))
      _
      refl

pub both_some : {A : Type 0} (o q : Option (List A)) (xs : List A) → both o q ≡ Some xs → (ys zs : List A) × (o ≡ Some ys) × (q ≡ Some zs) × (xs ≡ ys ++ zs)
unfolding both
both_some None q xs e = none_some xs e
both_some (Some ys) None xs e = none_some xs e
both_some (Some ys) (Some zs) xs e = (ys, zs, refl, refl, cc)

-- ---- more Branches allowed change nothing where fewer were enough

both_more : {A : Type 0} (o o' q q' : Option (List A)) → o ≼ o' → q ≼ q' → both o q ≼ both o' q'
unfolding both
both_more None o' q q' h k a e = none_some a e
both_more (Some xs) o' None q' h k a e = none_some a e
both_more (Some xs) o' (Some ys) q' h k a e = rw (h xs refl, k ys refl, both) e

pub collect_more : {A B : Type 0} (f h : A → Option (List B)) → ((x : A) → f x ≼ h x) → (xs : List A) → collect f xs ≼ collect h xs
unfolding collect
collect_more f h le [] a e = e
collect_more f h le (x ∷ xs) a e = both_more (f x) (h x) (collect f xs) (collect h xs) (le x) (collect_more f h le xs) a e

arrive_more : (f h : List PortRef → Option (List PortRef)) → ((ts : List PortRef) → f ts ≼ h ts) → (o : Option PlanAction) (e : PortRef) → arrive f o e ≼ arrive h o e
unfolding arrive
arrive_more f h le None e a q = q
arrive_more f h le (Some (BecomeLiteral v)) e a q = q
arrive_more f h le (Some (ShortCircuit s)) e a q = q
arrive_more f h le (Some (Truncate ts)) e a q = go (eqb e.port exec) q
  where
    go : (b : Bool) → cond b (f ts) (Some []) ≡ Some a → cond b (h ts) (Some []) ≡ Some a
    go true q = le ts a q
    go false q = q

pub reach_suc : (p : Map PlanAction) (k : ℕ) (e : PortRef) → reach p k e ≼ reach p (suc k) e
unfolding reach
reach_suc p zero e = arrive_more (λ ts. None) _ (λ ts a q. none_some a q) (p e.node_id) e
reach_suc p (suc k) e = arrive_more _ _ (λ ts. collect_more (reach p k) (reach p (suc k)) (reach_suc p k) ts) (p e.node_id) e

pub reach_more : (p : Map PlanAction) (i k : ℕ) → i ≤ k → (e : PortRef) → reach p i e ≼ reach p k e
reach_more p i k h e = le_ind (λ m. reach p i e ≼ reach p m e) (λ a q. q) (λ m l ih a q. reach_suc p m e a (ih a q)) k h

-- a scan adds the counts up from the left
pub plus_assoc : (a b c : Option ℕ) → plus a (plus b c) ≡ plus (plus a b) c
unfolding plus cap
plus_assoc None b c = refl
plus_assoc (Some l) None c = refl
plus_assoc (Some l) (Some m) None = refl
plus_assoc (Some l) (Some m) (Some n) = ap Some (omega arith)
