-- What a node reads at its ports (document 01, "Corners of lower/fold/mod.rs").
use Rattle.std.specs.Prelude.{ℕ, Bool, true, false, ◌&&◌, List, [], ◌∷◌, map, eqb, length, get_or, Option, None, Some}
use Rattle.ir.specs.declared.PortRef.{PortRef}
use Rattle.ir.specs.declared.Wire.{Wire}
use Rattle.value.specs.declared.Value.{Value}
use Rattle.graph.specs.Graph.{Graph, lookup}
use Rattle.graph.specs.declared.Node.{Node}
use Rattle.model.specs.Maps.{Map, keep}
use Rattle.model.specs.declared.Resolved.{Resolved}

-- ---- the graph by node and port

unfoldable pub size : Graph → ℕ
size g = length g.nodes

-- a node by its number; past the last, one that is never folded
unfoldable pub node_of : Graph → ℕ → Node
node_of g n = get_or g.nodes n (record { class = 0; flags = 1 })

unfoldable pub is_port : PortRef → ℕ → ℕ → Bool
is_port e n p = eqb e.node_id n && eqb e.port p

-- the wires into a port, and the wire targets of a port, in wire order
unfoldable pub feeds : Graph → ℕ → ℕ → List Wire
feeds g n p = keep (λ w. is_port w.target n p) g.wires

unfoldable pub targets : Graph → ℕ → ℕ → List PortRef
targets g n p = map (λ w. w.target) (keep (λ w. is_port w.source n p) g.wires)

-- the node's property for a port
unfoldable pub property : Graph → ℕ → ℕ → Option Value
property g n p = lookup n p g.properties

-- ---- an input

-- "the source's known value, else Unresolved"
abbrev pub carried : Option Value → Resolved
carried None = Resolved.Unresolved
carried (Some v) = Resolved.Known v

-- "One wire: the source's known value ..  Two or more wires: Unresolved always."
unfoldable pub resolve_wires : Map Value → List Wire → Resolved
resolve_wires known [] = Resolved.Unwired
resolve_wires known (w ∷ []) = carried (known w.source.node_id)
resolve_wires known (w ∷ v ∷ ws) = Resolved.Unresolved

-- each port of a node by its wires alone
unfoldable pub resolve_input : Graph → Map Value → ℕ → ℕ → Resolved
resolve_input g known n = λ p. resolve_wires known (feeds g n p)

-- "A port with no wire takes the node's property for that port, else it is Unwired."
abbrev pub or_property : Resolved → Option Value → Resolved
or_property Resolved.Unwired None = Resolved.Unwired
or_property Resolved.Unwired (Some v) = Resolved.Known v
or_property (Resolved.Known v) o = Resolved.Known v
or_property Resolved.Unresolved o = Resolved.Unresolved

-- a port of node n, where r is what its ports have by their wires
unfoldable pub resolve_data_input : Graph → ℕ → (ℕ → Resolved) → ℕ → Resolved
resolve_data_input g n r p = or_property (r p) (property g n p)

-- ---- what an input has

abbrev pub is_resolved : Resolved → Bool
is_resolved Resolved.Unwired = true
is_resolved (Resolved.Known v) = true
is_resolved Resolved.Unresolved = false

unfoldable pub all_resolved : List Resolved → Bool
all_resolved [] = true
all_resolved (i ∷ is) = is_resolved i && all_resolved is

abbrev pub value_in : Resolved → Option Value
value_in Resolved.Unwired = None
value_in (Resolved.Known v) = Some v
value_in Resolved.Unresolved = None

-- the operand of a gate; an Unresolved input is none, and no gate is asked about it
abbrev pub operand_of : Resolved → Option Value
operand_of Resolved.Unwired = None
operand_of (Resolved.Known v) = Some v
operand_of Resolved.Unresolved = None
