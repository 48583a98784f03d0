-- The rewriting of wires by a plan (document 01, "Rewriting, wire by wire"), and question 9 in its words.
use Rattle.std.specs.Prelude.{ℕ, zero, suc, ◌≡◌, cond, eqb, Option, None, Some}
use mathlib.Core.List.{List, [], ◌∷◌, ◌++◌, map, Memᴰ}
use Rattle.ir.specs.Ports.{output, exec}
use Rattle.ir.specs.declared.PortRef.{PortRef}
use Rattle.ir.specs.declared.Wire.{Wire}
use Rattle.model.specs.Maps.{Map}
use Rattle.model.specs.Offer.{PlanAction, BecomeLiteral, ShortCircuit, Truncate}

-- what each gives, one after the other; nothing where one gives nothing
unfoldable pub both : {A : Type 0} → Option (List A) → Option (List A) → Option (List A)
both None o = None
both (Some xs) None = None
both (Some xs) (Some ys) = Some (xs ++ ys)

unfoldable pub collect : {A B : Type 0} → (A → Option (List B)) → List A → Option (List B)
collect f [] = Some []
collect f (x ∷ xs) = both (f x) (collect f xs)

-- "a wire into a planned literal or planned Select is dropped; .. Into a Truncate node at Exec it becomes, in its place, one wire to each taken
-- target, again rewritten; at another port it is dropped": the unplanned targets of a wire into e, by the plan of e's node. `enter` is what
-- the taken targets lead to
unfoldable pub arrive : (List PortRef → Option (List PortRef)) → Option PlanAction → PortRef → Option (List PortRef)
arrive enter None e = Some (e ∷ [])
arrive enter (Some (BecomeLiteral v)) e = Some []
arrive enter (Some (ShortCircuit s)) e = Some []
arrive enter (Some (Truncate ts)) e = cond (eqb e.port exec) (enter ts) (Some [])

-- the same where no chain enters more than k planned Branches, and nothing where one does
unfoldable pub reach : Map PlanAction → ℕ → PortRef → Option (List PortRef)
reach p zero e = arrive (λ ts. None) (p e.node_id) e
reach p (suc k) e = arrive (λ ts. collect (reach p k) ts) (p e.node_id) e

-- where a wire's source comes to
pub data Source : Type 0 where
  cycles drops : Source
  from : PortRef → Source

-- "the source steps through ShortCircuits; a Truncate source drops the wire; a planned literal source takes port Output"
unfoldable pub leave : (PortRef → Source) → Option PlanAction → PortRef → Source
leave on None e = from e
leave on (Some (BecomeLiteral v)) e = from (record { node_id = e.node_id; port = output })
leave on (Some (ShortCircuit s)) e = on s
leave on (Some (Truncate ts)) e = drops

-- stepping through at most k planned Selects
unfoldable pub follow : Map PlanAction → ℕ → PortRef → Source
follow p zero e = leave (λ s. cycles) (p e.node_id) e
follow p (suc k) e = leave (λ s. follow p k s) (p e.node_id) e

-- the wires from a source to the unplanned targets. "Once the target is unplanned, the source steps": with no such target it takes no step
unfoldable pub joined : Option (List PortRef) → Source → Option (List Wire)
joined None s = None
joined (Some []) s = Some []
joined (Some (t ∷ ts)) cycles = None
joined (Some (t ∷ ts)) drops = Some []
joined (Some (t ∷ ts)) (from e) = Some (map (λ u. record { source = e; target = u }) (t ∷ ts))

-- one wire rewritten; nothing where its rewriting does not end. A chain that repeats no node is no longer than there are nodes
unfoldable pub rewrite_wire : Map PlanAction → ℕ → Wire → Option (List Wire)
rewrite_wire p nodes w = joined (reach p nodes w.target) (follow p nodes w.source)

unfoldable pub rewrite_wires : Map PlanAction → ℕ → List Wire → Option (List Wire)
rewrite_wires p nodes ws = collect (rewrite_wire p nodes) ws

-- ---- question 9

-- a wire into e becomes one into t: e is a planned Branch's Exec, and t a target that the Branch takes
pub record Enters (p : Map PlanAction) (e t : PortRef) : Type 0 where
  pub taken : List PortRef
  pub planned : p e.node_id ≡ Some (Truncate taken)
  pub entered : e.port ≡ exec
  pub member : Memᴰ t taken

-- a chain of targets
pub data Targets (p : Map PlanAction) : PortRef → PortRef → Type 0 where
  here : {e : PortRef} → Targets p e e
  step : {e t f : PortRef} → Enters p e t → Targets p t f → Targets p e f

-- a "single chain of targets enters one planned Branch at Exec twice"
pub record TargetCycle (p : Map PlanAction) (e : PortRef) : Type 0 where
  pub twice : PortRef
  pub after : PortRef
  pub there : Targets p e twice
  pub enters : Enters p twice after
  pub back : Targets p after twice

-- the chain leads to a target that is not planned
pub record FreeTarget (p : Map PlanAction) (e : PortRef) : Type 0 where
  pub target : PortRef
  pub there : Targets p e target
  pub free : p target.node_id ≡ None

-- a source e is passed over for s: e's node is a planned Select
abbrev pub Passes : Map PlanAction → PortRef → PortRef → Type 0
Passes p e s = p e.node_id ≡ Some (ShortCircuit s)

-- a chain of sources
pub data Sources (p : Map PlanAction) : PortRef → PortRef → Type 0 where
  here : {e : PortRef} → Sources p e e
  step : {e s f : PortRef} → Passes p e s → Sources p s f → Sources p e f

-- a "chain of sources reaches one planned Select twice"
pub record SourceCycle (p : Map PlanAction) (e : PortRef) : Type 0 where
  pub twice : PortRef
  pub after : PortRef
  pub again : PortRef
  pub there : Sources p e twice
  pub passes : Passes p twice after
  pub back : Sources p after again
  pub same : again.node_id ≡ twice.node_id

-- a wire's rewriting does not end. "A circle of Selects that no free target leads to is accepted."
pub data Endless (p : Map PlanAction) (w : Wire) : Type 0 where
  by_targets : TargetCycle p w.target → Endless p w
  by_sources : FreeTarget p w.target → SourceCycle p w.source → Endless p w
