-- Document 01, "What feeds nothing": which nodes may go.
use Rattle.std.specs.Prelude.{ℕ, Bool, true, false, not, ◌&&◌, ◌||◌, eqb, ltb, Option, None, Some}
use Rattle.ir.specs.Classes.{literal, is_gate}
use Rattle.ir.specs.Flags.{nofold, labelled}
use Rattle.graph.specs.Graph.{Graph}
use Rattle.model.specs.Maps.{Map}
use Rattle.model.specs.Inputs.{size, node_of}
use Rattle.model.specs.Offer.{PlanAction, BecomeLiteral, ShortCircuit, Truncate}

-- "Literals and classes 6 to 42"
abbrev pub is_pure : ℕ → Bool
is_pure class = eqb class literal || is_gate class

-- "kept Literals and classes 6 to 42 and nodes made literal"
abbrev pub is_pure_by : ℕ → Option PlanAction → Bool
is_pure_by class None = is_pure class
is_pure_by class (Some (BecomeLiteral v)) = true
is_pure_by class (Some (ShortCircuit s)) = false
is_pure_by class (Some (Truncate ts)) = false

-- a node of the graph, "without nofold and without flag bit 1, which marks a node named by a label"
unfoldable pub eligible : Graph → Map PlanAction → ℕ → Bool
eligible g p n = ltb n (size g) && (not (nofold (node_of g n).flags) && (not (labelled (node_of g n).flags) && is_pure_by (node_of g n).class (p n)))
