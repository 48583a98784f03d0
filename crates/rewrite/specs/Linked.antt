-- Chains of wires while they are built, from the last wire down: each wire that is picked goes to the front of its source node's chain.
use Rattle.std.specs.Prelude.{ℕ, ◌<◌, ◌≤◌, ◌≡◌, Bool, ◌&&◌, List, ◌⊎◌, eqb, length, get_or, drop}
use Rattle.ir.specs.Limits.{max_nodes, max_wires}
use Rattle.ir.specs.declared.PortRef.{PortRef}
use Rattle.ir.specs.declared.Wire.{Wire}
use Rattle.records.specs.Access.{no_wire}
use Rattle.model.specs.Maps.{keep}
use Rattle.wire_index.specs.Chains.{Chain}
use Rattle.rewrite.specs.Taken.{Later}

-- the wires from node b that pass a test
abbrev pub leaves : (Wire → Bool) → ℕ → Wire → Bool
leaves test b w = eqb w.source.node_id b && test w

-- whether planned Branch e.node_id takes the wires from port e
abbrev pub takes_from : List ℕ → List ℕ → PortRef → Bool
takes_from actions details e = eqb (get_or actions e.node_id 0) 3 && eqb e.port (get_or details e.node_id 0)

-- chains of the wires from i on that are picked for each node
pub record Linked (ws : List Wire) (picks : ℕ → Wire → Bool) (first next : List ℕ) (i : ℕ) : Type 0 where
  pub first_long : length first ≡ max_nodes
  pub later : Later ws next
  pub above : (b : ℕ) → (get_or first b 0 ≡ 0) ⊎ (i < get_or first b 0)
  pub chain : (b : ℕ) → b < max_nodes → Chain ws next (get_or first b 0) (keep (picks b) (drop i ws))

-- the wires are few, and go between nodes that the arrays have entries of
pub record Within (ws : List Wire) : Type 0 where
  pub few : length ws ≤ max_wires
  pub source : (i : ℕ) → i < length ws → (get_or ws i no_wire).source.node_id < max_nodes
  pub target : (i : ℕ) → i < length ws → (get_or ws i no_wire).target.node_id < max_nodes
