-- How many unplanned targets each planned Branch leads to: the count, at most 4097, and 4098 where there is none, since a chain of targets goes
-- round.
use Rattle.std.specs.Prelude.{ℕ, ◌≤◌, ◌≡◌, cond, ◌&&◌, List, eqb, ltb, length, get_or, Option, None, Some}
use Rattle.ir.specs.Limits.{max_nodes}
use Rattle.ir.specs.Ports.{exec}
use Rattle.ir.specs.declared.PortRef.{PortRef}
use Rattle.ir.specs.declared.Wire.{Wire}
use Rattle.model.specs.Rewrite.{reach}
use Rattle.model.specs.TargetCounts.{capped_length}
use Rattle.state.specs.Planned.{shape_of}

abbrev pub no_count : ℕ
no_count = 4098

-- the count that a number says
unfoldable pub entry : ℕ → Option ℕ
entry c = cond (ltb c no_count) (Some c) None

-- the count at a target e, by its node's action and the counts of the Branches: 1 where it is not planned; at a planned Branch's Exec the
-- Branch's; at any other planned node's port 0
unfoldable pub count_in : List ℕ → List ℕ → PortRef → ℕ
count_in actions counts e =
    cond (eqb (get_or actions e.node_id 0) 0) 1
    (cond (eqb (get_or actions e.node_id 0) 3 && eqb e.port exec) (get_or counts e.node_id 0)
    0)

pub record Counts (ws : List Wire) (n : ℕ) (actions details counts : List ℕ) : Type 0 where
  pub long : length counts ≡ max_nodes
  pub listed : (m : ℕ) → get_or actions m 0 ≡ 3 → get_or counts m 0 ≤ no_count
  pub right : (e : PortRef) → entry (count_in actions counts e) ≡ capped_length (reach (shape_of ws actions details) n e)
