-- The graph's lists as runs of records: what stands where in an accepted input.
use Rattle.std.specs.Prelude.{ℕ, zero, suc, ◌+◌, ◌-◌, ◌*◌, ◌/◌, ◌≤◌, ◌<◌, List, [], ◌≡◌, length, get_or, take, drop}
use Rattle.ir.specs.Limits.{max_nodes, max_wires}
use Rattle.ir.specs.Ports.{value_port}
use Rattle.ir.specs.declared.Wire.{Wire}
use Rattle.encoding.specs.Wires.{wire_at}
use Rattle.graph.specs.Graph.{row_at, snoc}
use Rattle.graph.specs.Decode.{decode}
use Rattle.graph.specs.Refusals.{counts, reported}
use Rattle.graph.specs.declared.Counts.{Counts}
use Rattle.graph.specs.declared.Node.{Node}
use Rattle.graph.specs.declared.Row.{Row}

-- what stands past the end of a list
abbrev pub no_node : Node
no_node = record { class = 0; flags = 0 }

abbrev pub no_wire : Wire
no_wire = record { source = record { node_id = 0; port = 0 }; target = record { node_id = 0; port = 0 } }

abbrev pub no_row : Row
no_row = record { class = 0; first = 0; second = 0; third = 0 }

-- the first n values of a function
unfoldable pub tabulate {ℓ} : {A : Type ℓ} → ℕ → (ℕ → A) → List A
tabulate zero f = []
tabulate (suc n) f = snoc (tabulate n f) (f n)

-- the wires that a run of wire records says, of 7 bytes each
unfoldable pub wires_of : List ℕ → List Wire
wires_of r = tabulate (length r / 7) (λ j. wire_at r (7 * j))

-- the rows that a run of row records says, of 5 bytes each
unfoldable pub rows_of : List ℕ → List Row
rows_of r = tabulate (length r / 5) (λ k. row_at r (5 * k))

-- a wire goes from a port of one of n nodes to another
pub record Named (n : ℕ) (w : Wire) : Type 0 where
  pub source : w.source.node_id < n
  pub target : w.target.node_id < n
  pub source_port : w.source.port < value_port
  pub target_port : w.target.port < value_port

-- what the wires of an accepted graph of n nodes keep to
pub record Bounded (ws : List Wire) (n : ℕ) : Type 0 where
  pub few_nodes : n ≤ max_nodes
  pub few_wires : length ws ≤ max_wires
  pub named : (i : ℕ) → i < length ws → Named n (get_or ws i no_wire)

-- the input is accepted, with these counts
abbrev pub Accepts : List ℕ → Counts → Type 0
Accepts s c = counts c ≡ reported (decode s)

-- where the wires, the properties, the rows, the annihilators and the texts of an accepted input start; n is its length
abbrev pub wires_offset : Counts → ℕ
wires_offset c = 3 * c.nodes

abbrev pub properties_offset : Counts → ℕ
properties_offset c = wires_offset c + 7 * c.wires

abbrev pub texts_offset : ℕ → Counts → ℕ
texts_offset n c = n - 21 * c.texts

abbrev pub annihilators_offset : ℕ → Counts → ℕ
annihilators_offset n c = texts_offset n c - 2 * c.annihilators

abbrev pub rows_offset : ℕ → Counts → ℕ
rows_offset n c = annihilators_offset n c - 5 * c.rows

-- "the wire records are handed back as that part of the caller's input"; the row records likewise
abbrev pub wire_records : List ℕ → Counts → List ℕ
wire_records s c = take (7 * c.wires) (drop (wires_offset c) s)

abbrev pub row_records : List ℕ → Counts → List ℕ
row_records s c = take (5 * c.rows) (drop (rows_offset (length s) c) s)
