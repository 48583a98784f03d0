-- Rewritten wires go from a port of a node to another, as those of the graph do.
use Rattle.std.specs.Prelude.{Option, None, Some}
use mathlib.Core.Path.{◌≡◌, refl, ◌∙◌}
use mathlib.Core.Bool.{Bool, true, false, cond}
use mathlib.Core.List.{List, [], ◌∷◌}
use Prim.Native.Nat.{ℕ, zero, suc, ◌<◌, ◌≤◌}
use native.Mathlib.Omega.{arith}
use native.Mathlib.Decide.{ℕ_discrete}
use lib.Dec.{eqb}
use lib.ListN.{length, get_or}
use Rattle.ir.specs.Limits.{max_wires}
use Rattle.ir.specs.Ports.{exec, value_port}
use Rattle.ir.specs.declared.PortRef.{PortRef}
use Rattle.ir.specs.declared.Wire.{Wire}
use Rattle.records.specs.Access.{no_wire, Named, Bounded}
use Rattle.model.specs.Maps.{Map, All, keep}
use Rattle.model.specs.Inputs.{is_port}
use Rattle.model.specs.Offer.{PlanAction, BecomeLiteral, ShortCircuit, Truncate}
use Rattle.model.specs.Rewrite.{collect, arrive, reach, Source, cycles, drops, from, leave, follow, joined, rewrite_wire, rewrite_wires}
use Rattle.model.proofs.Maps.{none_some}
use Rattle.model.proofs.Lists.{all_map, all_keep}
use Rattle.model.proofs.CleanWires.{Gives, both_gives}
use Rattle.state.specs.Planned.{targets_in, shape_at, shape_of, Shaped}

-- ---- lists

collect_gives : {A B : Type 0} (Q : A → Type 0) (P : B → Type 0) (f : A → Option (List B)) → ((a : A) → Q a → Gives P (f a)) → (xs : List A) → All Q xs → Gives P (collect f xs)
unfolding collect
collect_gives Q P f h [] k = tt
collect_gives Q P f h (x ∷ xs) k = both_gives P (f x) (collect f xs) (h x k.0) (collect_gives Q P f h xs k.1)

all_at : {A : Type 0} (P : A → Type 0) (d : A) (xs : List A) → All P xs → (i : ℕ) → i < length xs → P (get_or xs i d)
all_at P d [] h i l = absurd (omega arith)
all_at P d (x ∷ xs) h zero l = h.0
all_at P d (x ∷ xs) h (suc i) l = all_at P d xs h.1 i (omega arith)

all_from : {A : Type 0} (P : A → Type 0) (d : A) (xs : List A) → ((i : ℕ) → i < length xs → P (get_or xs i d)) → All P xs
all_from P d [] h = tt
all_from P d (x ∷ xs) h = (h zero (omega arith), all_from P d xs (λ i l. h (suc i) (omega arith)))

-- ---- the rewriting

module _ (n : ℕ) where
  pub record NamedRef (e : PortRef) : Type 0 where
    pub node : e.node_id < n
    pub port : e.port < value_port

  -- a plan's sources and targets are named
  abbrev NamedPlan : Option PlanAction → Type 0
  NamedPlan None = Unit {0}
  NamedPlan (Some (BecomeLiteral v)) = Unit {0}
  NamedPlan (Some (ShortCircuit s)) = NamedRef s
  NamedPlan (Some (Truncate ts)) = All NamedRef ts

  arrive_named : (enter : List PortRef → Option (List PortRef)) → ((ts : List PortRef) → All NamedRef ts → Gives NamedRef (enter ts)) → (e : PortRef) → NamedRef e → (o : Option PlanAction) → NamedPlan o → Gives NamedRef (arrive enter o e)
  unfolding arrive
  arrive_named enter h e k None q = (k, tt)
  arrive_named enter h e k (Some (BecomeLiteral v)) q = tt
  arrive_named enter h e k (Some (ShortCircuit s)) q = tt
  arrive_named enter h e k (Some (Truncate ts)) q = go (eqb e.port exec)
    where
      go : (b : Bool) → Gives NamedRef (cond b (enter ts) (Some []))
      go true = h ts q
      go false = tt

  abbrev NamedSource : Source → Type 0
  NamedSource cycles = Unit {0}
  NamedSource drops = Unit {0}
  NamedSource (from e) = NamedRef e

  leave_named : (on : PortRef → Source) → ((s : PortRef) → NamedRef s → NamedSource (on s)) → (e : PortRef) → NamedRef e → (o : Option PlanAction) → NamedPlan o → NamedSource (leave on o e)
  unfolding leave
  leave_named on h e k None q = k
  leave_named on h e k (Some (BecomeLiteral v)) q = record { node = k.node; port = omega arith }
  leave_named on h e k (Some (ShortCircuit s)) q = h s q
  leave_named on h e k (Some (Truncate ts)) q = tt

  joined_named : (o : Option (List PortRef)) (s : Source) → Gives NamedRef o → NamedSource s → Gives (Named n) (joined o s)
  unfolding joined
  joined_named None s h k = tt
  joined_named (Some []) s h k = tt
  joined_named (Some (t ∷ ts)) cycles h k = tt
  joined_named (Some (t ∷ ts)) drops h k = tt
  joined_named (Some (t ∷ ts)) (from e) h k =
      all_map NamedRef (Named n) (λ u. record { source = e; target = u })
      (λ u f. record { source = k.node; target = f.node; source_port = k.port; target_port = f.port })
      (t ∷ ts) h

  module _ (p : Map PlanAction) (plan : (m : ℕ) → NamedPlan (p m)) where
    reach_named : (k : ℕ) (e : PortRef) → NamedRef e → Gives NamedRef (reach p k e)
    unfolding reach
    reach_named zero e h = arrive_named _ (λ ts a. tt) e h (p e.node_id) (plan e.node_id)
    reach_named (suc k) e h = arrive_named _ (λ ts a. collect_gives NamedRef NamedRef (reach p k) (λ t. reach_named k t) ts a) e h (p e.node_id) (plan e.node_id)

    follow_named : (k : ℕ) (e : PortRef) → NamedRef e → NamedSource (follow p k e)
    unfolding follow
    follow_named zero e h = leave_named _ (λ s a. tt) e h (p e.node_id) (plan e.node_id)
    follow_named (suc k) e h = leave_named _ (λ s a. follow_named k s a) e h (p e.node_id) (plan e.node_id)

    gives_all : (o : Option (List Wire)) (xs : List Wire) → Gives (Named n) o → o ≡ Some xs → All (Named n) xs
    gives_all None xs h e = none_some xs e
    gives_all (Some ys) xs h e = let q : ys ≡ xs = cc in rw q at h

    rewritten_named : (k : ℕ) (ws out : List Wire) → All (Named n) ws → rewrite_wires p k ws ≡ Some out → All (Named n) out
    unfolding rewrite_wires rewrite_wire
    rewritten_named k ws out a e =
        gives_all _ out
        (collect_gives (Named n) (Named n) (rewrite_wire p k)
        (λ w h. joined_named _ _ (reach_named k w.target (record { node = h.target; port = h.target_port })) (follow_named k w.source (record { node = h.source; port = h.source_port })))
        ws a) e

  -- ---- the plan that the arrays hold

  module _ (ws : List Wire) (actions details : List ℕ) (bounded : Bounded ws n) (shaped : Shaped ws n actions details) where
    all_named : All (Named n) ws
    all_named = all_from (Named n) no_wire ws bounded.named

    targets_named : (m port : ℕ) → All NamedRef (targets_in ws m port)
    unfolding targets_in
    targets_named m port =
        all_map (λ w. Named n w × (is_port w.source m port ≡ true)) NamedRef (λ w. w.target) (λ w h. record { node = h.0.target; port = h.0.target_port }) (keep (λ w. is_port w.source m port) ws)
        (all_keep (Named n) (λ w. is_port w.source m port) ws all_named)

    shape_named : (m : ℕ) → NamedPlan (shape_of ws actions details m)
    unfolding shape_of shape_at
    shape_named m = go (get_or actions m 0) refl (shaped.listed m) (ℕ_discrete (get_or actions m 0) 0) (ℕ_discrete (get_or actions m 0) 1) (ℕ_discrete (get_or actions m 0) 2)
      where
        go : (a : ℕ) → get_or actions m 0 ≡ a → a ≤ 3 → Dec (a ≡ 0) → Dec (a ≡ 1) → Dec (a ≡ 2) → NamedPlan (shape_at ws a (get_or details m 0) m)
        go a e l (yes p) q r = rw p tt
        go a e l (no p) (yes q) r = rw q tt
        go a e l (no p) (no q) (yes r) = let h = bounded.named (get_or details m 0) (shaped.chosen m (e ∙ r)) in rw r (record { node = h.source; port = h.source_port })
        go a e l (no p) (no q) (no r) = let z : a ≡ 3 = omega arith in rw z (targets_named m (get_or details m 0))

    pub rewritten_bounded : (out : List Wire) → rewrite_wires (shape_of ws actions details) n ws ≡ Some out → length out ≤ max_wires → Bounded out n
    rewritten_bounded out e few =
        record {
          few_nodes = bounded.few_nodes;
          few_wires = few;
          named = all_at (Named n) no_wire out (rewritten_named (shape_of ws actions details) shape_named n ws out all_named e);
        }
