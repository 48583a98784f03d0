-- No rewritten wire touches a removed node or enters a node that was made literal.
use Rattle.std.specs.Prelude.{Option, None, Some}
use mathlib.Core.Path.{◌≡◌, refl}
use mathlib.Core.Bool.{Bool, true, false, cond}
use mathlib.Core.List.{List, [], ◌∷◌}
use Prim.Native.Nat.{ℕ, zero, suc}
use lib.Dec.{eqb}
use Rattle.ir.specs.Ports.{exec}
use Rattle.ir.specs.declared.PortRef.{PortRef}
use Rattle.ir.specs.declared.Wire.{Wire}
use Rattle.model.specs.Maps.{Map, All}
use Rattle.model.specs.Offer.{PlanAction, BecomeLiteral, ShortCircuit, Truncate}
use Rattle.model.specs.Rewrite.{both, collect, arrive, reach, Source, cycles, drops, from, leave, follow, joined, rewrite_wire, rewrite_wires}
use Rattle.model.specs.Demands.{Removed, Clean}
use Rattle.model.proofs.Maps.{none_some}
use Rattle.model.proofs.Lists.{all_append, all_map}

-- what an option gives has P
abbrev pub Gives : {A : Type 0} → (A → Type 0) → Option (List A) → Type 0
Gives P None = Unit {0}
Gives P (Some xs) = All P xs

pub both_gives : {A : Type 0} (P : A → Type 0) (o q : Option (List A)) → Gives P o → Gives P q → Gives P (both o q)
unfolding both
both_gives P None q h k = tt
both_gives P (Some xs) None h k = tt
both_gives P (Some xs) (Some ys) h k = all_append P xs ys h k

collect_gives : {A B : Type 0} (P : B → Type 0) (f : A → Option (List B)) → ((a : A) → Gives P (f a)) → (xs : List A) → Gives P (collect f xs)
unfolding collect
collect_gives P f h [] = tt
collect_gives P f h (x ∷ xs) = both_gives P (f x) (collect f xs) (h x) (collect_gives P f h xs)

module _ (p : Map PlanAction) where
  abbrev Free : PortRef → Type 0
  Free e = p e.node_id ≡ None

  arrive_free : (enter : List PortRef → Option (List PortRef)) → ((ts : List PortRef) → Gives Free (enter ts)) → (e : PortRef) (o : Option PlanAction) → p e.node_id ≡ o → Gives Free (arrive enter o e)
  unfolding arrive
  arrive_free enter h e None q = (q, tt)
  arrive_free enter h e (Some (BecomeLiteral v)) q = tt
  arrive_free enter h e (Some (ShortCircuit s)) q = tt
  arrive_free enter h e (Some (Truncate ts)) q = go (eqb e.port exec)
    where
      go : (b : Bool) → Gives Free (cond b (enter ts) (Some []))
      go true = h ts
      go false = tt

  pub reach_free : (k : ℕ) (e : PortRef) → Gives Free (reach p k e)
  unfolding reach
  reach_free zero e = arrive_free _ (λ ts. tt) e _ refl
  reach_free (suc k) e = arrive_free _ (λ ts. collect_gives Free (reach p k) (reach_free k) ts) e _ refl

  abbrev Stays : Source → Type 0
  Stays cycles = Unit {0}
  Stays drops = Unit {0}
  Stays (from e) = Removed (p e.node_id) → ⊥

  leave_stays : (on : PortRef → Source) → ((s : PortRef) → Stays (on s)) → (e : PortRef) (o : Option PlanAction) → p e.node_id ≡ o → Stays (leave on o e)
  unfolding leave
  leave_stays on h e None q = λ r. rw q at r
  leave_stays on h e (Some (BecomeLiteral v)) q = λ r. rw q at r
  leave_stays on h e (Some (ShortCircuit s)) q = h s
  leave_stays on h e (Some (Truncate ts)) q = tt

  pub follow_stays : (k : ℕ) (e : PortRef) → Stays (follow p k e)
  unfolding follow
  follow_stays zero e = leave_stays _ (λ s. tt) e _ refl
  follow_stays (suc k) e = leave_stays _ (λ s. follow_stays k s) e _ refl

  joined_clean : (o : Option (List PortRef)) (s : Source) → Gives Free o → Stays s → Gives (Clean p) (joined o s)
  unfolding joined
  joined_clean None s h k = tt
  joined_clean (Some []) s h k = tt
  joined_clean (Some (t ∷ ts)) cycles h k = tt
  joined_clean (Some (t ∷ ts)) drops h k = tt
  joined_clean (Some (t ∷ ts)) (from e) h k =
      all_map Free (Clean p) (λ u. record { source = e; target = u })
      (λ u f. record { source_stays = k; target_stays = λ r. (rw f at r); target_free = λ r. (rw f at r) })
      (t ∷ ts) h

  gives_all : (o : Option (List Wire)) (xs : List Wire) → Gives (Clean p) o → o ≡ Some xs → All (Clean p) xs
  gives_all None xs h e = none_some xs e
  gives_all (Some ys) xs h e = let q : ys ≡ xs = cc in rw q at h

  -- no rewritten wire touches a removed node or enters one that was literal literal
  pub rewritten_clean : (k : ℕ) (ws out : List Wire) → rewrite_wires p k ws ≡ Some out → All (Clean p) out
  unfolding rewrite_wires rewrite_wire
  rewritten_clean k ws out e =
      gives_all _ out (collect_gives (Clean p) (rewrite_wire p k) (λ w. joined_clean _ _ (reach_free k w.target) (follow_stays k w.source)) ws) e
