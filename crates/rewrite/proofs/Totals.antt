-- Sums of counts.
use Rattle.std.specs.Prelude.{Option, None, Some}
use Prim.Native.Nat.{ℕ, zero, suc, ◌+◌, ◌≤◌, ◌<◌, min}
use native.Mathlib.Omega.{arith}
use native.Mathlib.Decide.{ℕ_discrete}
use mathlib.Core.Path.{◌≡◌, refl, sym, ap, ◌∙◌}
use mathlib.Core.Bool.{Bool, true, false, cond, ◌&&◌}
use mathlib.Core.List.Memᴰ
use mathlib.Core.List.{List, [], ◌∷◌, ◌++◌, map, Memᴰ, map-append}
use mathlib.Core.Logic.{◌⊎◌, inl, inr}
use lib.Dec.{eqb, ltb}
use lib.ListN.{length, get_or, set}
use lib.Seq.{get_or-set_other}
use borrow.Author.Tests.{lt-ltb, le-ltb, ltb-true, ltb-false, eq-eqb, ne_eqb}
use Rattle.ir.specs.Ports.{exec}
use Rattle.ir.specs.declared.PortRef.{PortRef}
use Rattle.ir.specs.declared.Wire.{Wire}
use Rattle.model.specs.TargetCounts.{cap, plus, total}
use Rattle.model.proofs.Maps.{by_bool, none_some, ◌≼◌}
use Rattle.model.proofs.TargetCounts.{plus_assoc}
use Rattle.rewrite.specs.Counts.{no_count, entry, count_in}
use Rattle.rewrite.specs.Search.{unseen, unseen_in, sum_of}

-- ---- entries

pub entry_some : (v : ℕ) → v < no_count → entry v ≡ Some v
unfolding entry
entry_some v h = rw (lt-ltb v no_count h)

pub entry_none : (v : ℕ) → no_count ≤ v → entry v ≡ None
unfolding entry
entry_none v h = rw (le-ltb v no_count h)

pub entry_is : (v a : ℕ) → entry v ≡ Some a → (v ≡ a) × (v < no_count)
entry_is v a e = by_bool (ltb v no_count) (λ b. let h : v < no_count = ltb-true v no_count b in (cc (entry_some v h), h)) (λ b. none_some a (sym (entry_none v (ltb-false v no_count b)) ∙ e))

-- ---- sums

-- a number of targets that is already cut
abbrev pub Low : Option ℕ → Type 0
Low o = (v : ℕ) → o ≡ Some v → v < no_count

pub zero_plus : (o : Option ℕ) → Low o → plus (Some 0) o ≡ o
unfolding plus cap
zero_plus None h = refl
zero_plus (Some v) h = ap Some (omega (arith, h v refl))

pub plus_zero : (v : ℕ) → v < no_count → plus (Some v) (Some 0) ≡ Some v
unfolding plus cap
plus_zero v h = ap Some (omega arith)

pub plus_low : (o q : Option ℕ) → Low (plus o q)
unfolding plus cap
plus_low None q v e = none_some v e
plus_low (Some m) None v e = none_some v e
plus_low (Some m) (Some n) v e = let h : min (m + n) 4097 ≡ v = cc in omega arith

total_low : (f : PortRef → Option ℕ) (es : List PortRef) → Low (total f es)
unfolding total
total_low f [] v e = let h : 0 ≡ v = cc in omega arith
total_low f (x ∷ xs) v e = plus_low (f x) (total f xs) v e

total_append : (f : PortRef → Option ℕ) (xs ys : List PortRef) → total f (xs ++ ys) ≡ plus (total f xs) (total f ys)
unfolding total
total_append f [] ys = sym (zero_plus (total f ys) (total_low f ys))
total_append f (x ∷ xs) ys = ap (plus (f x)) (total_append f xs ys) ∙ plus_assoc (f x) (total f xs) (total f ys)

plus_more : (o o' q q' : Option ℕ) → o ≼ o' → q ≼ q' → plus o q ≼ plus o' q'
unfolding plus
plus_more None o' q q' h k a e = none_some a e
plus_more (Some m) o' None q' h k a e = none_some a e
plus_more (Some m) o' (Some n) q' h k a e = rw (h m refl, k n refl, plus) e

pub total_more : (f h : PortRef → Option ℕ) → ((e : PortRef) → f e ≼ h e) → (es : List PortRef) → total f es ≼ total h es
unfolding total
total_more f h le [] a e = e
total_more f h le (x ∷ xs) a e = plus_more (f x) (h x) (total f xs) (total h xs) (le x) (total_more f h le xs) a e

plus_both : (o q : Option ℕ) (a : ℕ) → plus o q ≡ Some a → ((m : ℕ) × (o ≡ Some m)) × ((n : ℕ) × (q ≡ Some n))
unfolding plus
plus_both None q a e = none_some a e
plus_both (Some m) None a e = none_some a e
plus_both (Some m) (Some n) a e = ((m, refl), (n, refl))

-- where there is a sum, each has a count
pub total_each : (f : PortRef → Option ℕ) (es : List PortRef) (a : ℕ) → total f es ≡ Some a → (t : PortRef) → Memᴰ t es → (m : ℕ) × (f t ≡ Some m)
unfolding total
total_each f [] a e t i = absurd (Memᴰ.not-nil i)
total_each f (x ∷ xs) a e t i = go (Memᴰ.cases_cons i) (plus_both (f x) (total f xs) a e) (total_each f xs)
  where
    go : (t ≡ x) ⊎ Memᴰ t xs → ((m : ℕ) × (f x ≡ Some m)) × ((n : ℕ) × (total f xs ≡ Some n)) → ((a : ℕ) → total f xs ≡ Some a → (t : PortRef) → Memᴰ t xs → (m : ℕ) × (f t ≡ Some m)) → (m : ℕ) × (f t ≡ Some m)
    go (inl q) (h, k) ih = (h.0, ap f q ∙ h.1)
    go (inr q) (h, k) ih = ih k.0 k.1 t q

-- ---- sums over wires

module _ (actions counts : List ℕ) where
  pub sum_nil : sum_of actions counts [] ≡ Some 0
  unfolding sum_of total
  sum_nil = refl

  pub sum_low : (xs : List Wire) → Low (sum_of actions counts xs)
  unfolding sum_of
  sum_low xs = total_low _ (map (λ w. w.target) xs)

  pub sum_append : (xs ys : List Wire) → sum_of actions counts (xs ++ ys) ≡ plus (sum_of actions counts xs) (sum_of actions counts ys)
  unfolding sum_of
  sum_append xs ys = ap (total _) (map-append _ xs ys) ∙ total_append _ (map (λ w. w.target) xs) (map (λ w. w.target) ys)

  -- none so far
  pub sum_none : (v : ℕ) → v < no_count → plus (Some v) (sum_of actions counts []) ≡ Some v
  sum_none v h = rw sum_nil (plus_zero v h)

  -- one more wire
  pub sum_one : (s c v : ℕ) (xs : List Wire) (w : Wire) → plus (Some s) (sum_of actions counts xs) ≡ Some v → c ≡ count_in actions counts w.target → c < no_count → plus (Some s) (sum_of actions counts (xs ++ (w ∷ []))) ≡ Some (cap (v + c))
  sum_one s c v xs w e q h =
      ap (plus (Some s)) (sum_append xs (w ∷ []))
      ∙ plus_assoc (Some s) (sum_of actions counts xs) (sum_of actions counts (w ∷ []))
      ∙ rw (e, single) (unfold plus in refl)
    where
      single : sum_of actions counts (w ∷ []) ≡ Some c
      single = unfold sum_of total plus cap in rw (← q, entry_some c h) (ap Some (omega arith))

  -- passed on the way, and now
  pub sum_on : (s v : ℕ) (xs ys : List Wire) → sum_of actions counts xs ≡ Some s → plus (Some s) (sum_of actions counts ys) ≡ Some v → sum_of actions counts (xs ++ ys) ≡ Some v
  sum_on s v xs ys e q = sum_append xs ys ∙ rw e q

-- ---- a count that changes where there was none

module _ (actions counts : List ℕ) (b v : ℕ) (inside : b < length counts) (none_yet : no_count ≤ get_or counts b 0) where
  count_more : (e : PortRef) → entry (count_in actions counts e) ≼ entry (count_in actions (set counts b v) e)
  unfolding count_in
  count_more e a = go (eqb (get_or actions e.node_id 0) 0) (eqb (get_or actions e.node_id 0) 3 && eqb e.port exec) (ℕ_discrete e.node_id b)
    where
      go : (x y : Bool) → Dec (e.node_id ≡ b) → entry (cond x 1 (cond y (get_or counts e.node_id 0) 0)) ≡ Some a → entry (cond x 1 (cond y (get_or (set counts b v) e.node_id 0) 0)) ≡ Some a
      go true y d q = q
      go false false d q = q
      go false true (yes d) q = none_some a (sym (entry_none (get_or counts e.node_id 0) (rw d none_yet)) ∙ q)
      go false true (no d) q = rw (get_or-set_other counts b e.node_id v 0 d) q

  pub sum_more : (xs : List Wire) → sum_of actions counts xs ≼ sum_of actions (set counts b v) xs
  unfolding sum_of
  sum_more xs = total_more _ _ count_more (map (λ w. w.target) xs)

-- ---- how many are unseen

abbrev unit : Bool → ℕ
unit true = 1
unit false = 0

unseen_cons : (c : ℕ) (cs : List ℕ) → unseen_in (c ∷ cs) ≡ unit (eqb c unseen) + unseen_in cs
unfolding unseen_in
unseen_cons c cs = go (eqb c unseen)
  where
    go : (b : Bool) → cond b (suc (unseen_in cs)) (unseen_in cs) ≡ unit b + unseen_in cs
    go true = omega arith
    go false = omega arith

unseen_set : (cs : List ℕ) (i v : ℕ) → i < length cs → unseen_in (set cs i v) + unit (eqb (get_or cs i 0) unseen) ≡ unseen_in cs + unit (eqb v unseen)
unseen_set [] i v h = absurd (omega arith)
unseen_set (c ∷ cs) zero v h = omega (arith, unseen_cons c cs, unseen_cons v cs)
unseen_set (c ∷ cs) (suc i) v h = omega (arith, unseen_cons c cs, unseen_cons c (set cs i v), unseen_set cs i v (omega arith))

module _ (cs : List ℕ) (i v : ℕ) (h : i < length cs) (k : v ≤ no_count) where
  not_unseen : (w : ℕ) → w ≤ no_count → unit (eqb w unseen) ≡ 0
  not_unseen w l = rw (ne_eqb w unseen (λ e. absurd (omega arith)))

  pub unseen_less : get_or cs i 0 ≡ unseen → suc (unseen_in (set cs i v)) ≡ unseen_in cs
  unseen_less e = omega (arith, unseen_set cs i v h, not_unseen v k, ap unit (eq-eqb (get_or cs i 0) unseen e))

  pub unseen_same : get_or cs i 0 ≤ no_count → unseen_in (set cs i v) ≡ unseen_in cs
  unseen_same l = omega (arith, unseen_set cs i v h, not_unseen v k, not_unseen (get_or cs i 0) l)
