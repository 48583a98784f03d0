-- Where the chains of sources come to: for each planned Select the number of the wire whose source its chain comes to.
use Rattle.std.specs.Prelude.{ℕ, ◌<◌, ◌≡◌, cond, List, eqb, length, get_or}
use Rattle.ir.specs.Limits.{max_nodes}
use Rattle.ir.specs.Ports.{output}
use Rattle.ir.specs.declared.PortRef.{PortRef}
use Rattle.ir.specs.declared.Wire.{Wire}
use Rattle.records.specs.Access.{no_wire}
use Rattle.model.specs.Rewrite.{Source, cycles, drops, from, follow}
use Rattle.state.specs.Planned.{shape_of}
use Rattle.rewrite.specs.declared.Origin.{Origin}
use Rattle.rewrite.specs.declared.Origin.TheVariants.{Cycles, Drops, From}

-- the source that planned Select m passes on to, once all Selects are passed: still a Select where its chain is a cycle
abbrev pub passed_to : List Wire → List ℕ → ℕ → PortRef
passed_to ws sources m = (get_or ws (get_or sources m 0) no_wire).source

pub record Sources (ws : List Wire) (n : ℕ) (actions details sources : List ℕ) : Type 0 where
  pub long : length sources ≡ max_nodes
  pub inside : (m : ℕ) → get_or actions m 0 ≡ 2 → get_or sources m 0 < length ws
  pub right : (e : PortRef) → get_or actions e.node_id 0 ≡ 2 → follow (shape_of ws actions details) n e ≡ follow (shape_of ws actions details) 0 (passed_to ws sources e.node_id)

-- what a wire's source comes to, as the code says it
unfoldable pub origin_of : Source → Origin
origin_of cycles = Cycles
origin_of drops = Drops
origin_of (from e) = From e

-- the same of a source by its own node alone: a Select is passed no further
unfoldable pub settled_at : List ℕ → PortRef → Origin
settled_at actions e =
    cond (eqb (get_or actions e.node_id 0) 0) (From e)
    (cond (eqb (get_or actions e.node_id 0) 1) (From (record { node_id = e.node_id; port = output }))
    (cond (eqb (get_or actions e.node_id 0) 2) Cycles
    Drops))

-- what `origin` reads: wires that start at nodes, and for each planned Select one of them
pub record Traced (ws : List Wire) (actions sources : List ℕ) : Type 0 where
  pub long : length sources ≡ max_nodes
  pub low : (i : ℕ) → i < length ws → (get_or ws i no_wire).source.node_id < max_nodes
  pub inside : (m : ℕ) → get_or actions m 0 ≡ 2 → get_or sources m 0 < length ws
