-- What a trial reads.
use Rattle.std.specs.Prelude.{◌≡◌, List, ℕ}
use Rattle.graph.specs.Graph.{Graph, counts_of}
use Rattle.graph.specs.Decode.{graph_of}
use Rattle.graph.specs.Index.{Indexed}
use Rattle.graph.specs.declared.Counts.{Counts}
use Rattle.records.specs.Access.{wires_of, Bounded}
use Rattle.table.specs.Table.{RowTable, Cells}
use Rattle.model.specs.Inputs.{size}
use Rattle.wire_index.specs.Chains.{Feeds}
use Rattle.inputs.specs.declared.Reads.{Reads as Reading}
use Rattle.inputs.specs.Reading.{graph_in}

-- what a trial reads: the graph of the input, and the indexes of its properties, rows and wires
pub record Reads (g : Graph) (c : Counts) (input table wires : List ℕ) (rows : RowTable) (first next : List ℕ) : Type 0 where
  pub graph : g ≡ graph_of input
  pub counts : c ≡ counts_of g
  pub properties : Indexed g.properties input table
  pub wires_part : wires_of wires ≡ g.wires
  pub row_cells : Cells g.rows rows
  pub bounded : Bounded g.wires (size g)
  pub feeds : Feeds g.wires first next

-- the same of what the code reads
abbrev pub IsComplete : Reading → Type 0
IsComplete r = Reads (graph_in r) r.counts r.properties.input.now r.properties.table.now r.wires.records.now r.rows.now r.feeds.now.first r.feeds.now.next
