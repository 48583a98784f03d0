-- What the result of `rewrite` says of the wires.
use Rattle.std.specs.Prelude.{ℕ, ◌≤◌, ◌≡◌, cond, List, [], ◌∷◌, ◌++◌, eqb, length, get_or, Option, None, Some, Result, Ok, Err}
use Rattle.ir.specs.Ports.{output}
use Rattle.ir.specs.declared.PortRef.{PortRef}
use Rattle.ir.specs.declared.Wire.{Wire}
use Rattle.records.specs.Access.{no_wire}
use Rattle.model.specs.Maps.{Map}
use Rattle.model.specs.Offer.{PlanAction}
use Rattle.model.specs.Outcome.{endless_index}
use Rattle.model.specs.Rewrite.{rewrite_wire, rewrite_wires}
use Rattle.model.specs.TargetCounts.{cap}
use Rattle.state.specs.Planned.{shape_of, Shaped}
use Rattle.rewrite.specs.Counts.{no_count, entry, Counts}
use Rattle.rewrite.specs.Linked.{Within}
use Rattle.rewrite.specs.Sources.{Sources, Traced}
use Rattle.rewrite.specs.declared.Origin.{Origin}
use Rattle.rewrite.specs.declared.Origin.TheVariants.{Cycles, Drops, From}
use Rattle.rewrite.specs.declared.Endless.{Endless}

-- question 9: some wire's rewriting does not end, and the first such has this number
pub record Stuck (p : Map PlanAction) (n : ℕ) (ws : List Wire) (index : ℕ) : Type 0 where
  pub endless : rewrite_wires p n ws ≡ None
  pub first : index ≡ endless_index p n ws

-- question 10: how many wires there are at the end, or 4097 where there are more than 4096
pub record Counted (p : Map PlanAction) (n : ℕ) (ws : List Wire) (count : ℕ) : Type 0 where
  pub rewritten : List Wire
  pub ends : rewrite_wires p n ws ≡ Some rewritten
  pub many : count ≡ cap (length rewritten)

abbrev pub Tallied : Map PlanAction → ℕ → List Wire → Result ℕ Endless → Type 0
Tallied p n ws (Err e) = Stuck p n ws e.index
Tallied p n ws (Ok count) = Counted p n ws count

-- ---- neither a Select nor a Branch is planned

-- "a planned literal source takes port Output"
abbrev pub kept_source : List ℕ → PortRef → PortRef
kept_source actions e = record { node_id = e.node_id; port = cond (eqb (get_or actions e.node_id 0) 0) e.port output }

-- "a wire into a planned literal .. is dropped; one into a kept Literal stays"
unfoldable pub kept_wire : List ℕ → Wire → List Wire
kept_wire actions w = cond (eqb (get_or actions w.target.node_id 0) 0) (record { source = kept_source actions w.source; target = w.target } ∷ []) []

unfoldable pub kept_wires : List ℕ → List Wire → List Wire
kept_wires actions [] = []
kept_wires actions (w ∷ ws) = kept_wire actions w ++ kept_wires actions ws

-- ---- one wire

unfoldable pub size_of : Option (List Wire) → Option ℕ
size_of None = None
size_of (Some ws) = Some (cap (length ws))

-- what the count at a wire's target comes to, by where its source comes to
abbrev pub by_origin : Origin → ℕ → ℕ
by_origin Cycles count = no_count
by_origin Drops count = 0
by_origin (From e) count = count

-- what `scan` reads
pub record Scannable (ws : List Wire) (actions sources counts : List ℕ) : Type 0 where
  pub within : Within ws
  pub traced : Traced ws actions sources
  pub listed : (b : ℕ) → get_or actions b 0 ≡ 3 → get_or counts b 0 ≤ no_count

-- the sources and the counts are those of a plan
pub record Filled (ws : List Wire) (n : ℕ) (actions details sources counts : List ℕ) : Type 0 where
  pub shaped : Shaped ws n actions details
  pub origins : Sources ws n actions details sources
  pub targets : Counts ws n actions details counts

-- how many wires the i-th wire becomes, by whatever plan; no count where its rewriting does not end
pub record Weighs (ws : List Wire) (actions sources counts : List ℕ) (i weight : ℕ) : Type 0 where
  pub low : weight ≤ no_count
  pub right : (n : ℕ) (details : List ℕ) → Filled ws n actions details sources counts → entry weight ≡ size_of (rewrite_wire (shape_of ws actions details) n (get_or ws i no_wire))
