-- How arrays hold the plan: for each node an action and its detail.
use Rattle.std.specs.Prelude.{ℕ, ◌*◌, ◌≤◌, ◌<◌, ◌≡◌, true, cond, List, map, eqb, length, get_or, Option, None, Some}
use Rattle.ir.specs.Limits.{max_nodes}
use Rattle.ir.specs.declared.PortRef.{PortRef}
use Rattle.ir.specs.declared.Wire.{Wire}
use Rattle.value.specs.declared.Value.{Value}
use Rattle.graph.specs.Graph.{Graph}
use Rattle.records.specs.Access.{no_wire}
use Rattle.model.specs.Maps.{Map, is_some, keep}
use Rattle.model.specs.Inputs.{size, is_port}
use Rattle.model.specs.Offer.{PlanAction, BecomeLiteral, ShortCircuit, Truncate}
use Rattle.model.specs.Trial.{State}
use Rattle.state.specs.Held.{is_kind, known_of}

-- the wire targets of a port, in wire order
unfoldable pub targets_in : List Wire → ℕ → ℕ → List PortRef
targets_in ws n p = map (λ w. w.target) (keep (λ w. is_port w.source n p) ws)

-- what an action and its detail say of node n, but for the value of a literal, of which the rewriting takes no notice: 1 a literal, 2 a Select
-- whose chosen wire has that number, 3 a Branch whose taken port it is, and another number nothing
unfoldable pub shape_at : List Wire → ℕ → ℕ → ℕ → Option PlanAction
shape_at ws action detail n =
    cond (eqb action 1) (Some (BecomeLiteral (Value.Bool true)))
    (cond (eqb action 2) (Some (ShortCircuit (get_or ws detail no_wire).source))
    (cond (eqb action 3) (Some (Truncate (targets_in ws n detail)))
    None))

unfoldable pub shape_of : List Wire → List ℕ → List ℕ → Map PlanAction
shape_of ws actions details n = shape_at ws (get_or actions n 0) (get_or details n 0) n

-- a planned literal has the node's known value
abbrev pub literal_of : Option Value → Option PlanAction
literal_of None = None
literal_of (Some v) = Some (BecomeLiteral v)

unfoldable pub valued : Option PlanAction → Option Value → Option PlanAction
valued None o = None
valued (Some (BecomeLiteral v)) o = literal_of o
valued (Some (ShortCircuit s)) o = Some (ShortCircuit s)
valued (Some (Truncate ts)) o = Some (Truncate ts)

-- the plan that the arrays hold
unfoldable pub plan_of : List Wire → Map Value → List ℕ → List ℕ → Map PlanAction
plan_of ws known actions details n = valued (shape_of ws actions details n) (known n)

-- what the rewriting needs of the arrays, for these wires of n nodes
pub record Shaped (ws : List Wire) (n : ℕ) (actions details : List ℕ) : Type 0 where
  pub actions_long : length actions ≡ max_nodes
  pub details_long : length details ≡ max_nodes
  pub listed : (m : ℕ) → get_or actions m 0 ≤ 3
  pub below : (m : ℕ) → n ≤ m → get_or actions m 0 ≡ 0
  pub chosen : (m : ℕ) → get_or actions m 0 ≡ 2 → get_or details m 0 < length ws

-- the arrays hold what is known and planned of the nodes of a graph
pub record Holds (g : Graph) (kinds words actions details : List ℕ) (s : State) : Type 0 where
  pub kinds_long : length kinds ≡ max_nodes
  pub words_long : length words ≡ 4 * max_nodes
  pub shaped : Shaped g.wires (size g) actions details
  pub known : s.known ≡ known_of kinds words
  pub plan : s.plan ≡ plan_of g.wires s.known actions details
  pub literal : (m : ℕ) → get_or actions m 0 ≡ 1 → is_some (s.known m) ≡ true
  pub kinds_listed : (m : ℕ) → is_kind (get_or kinds m 0)
