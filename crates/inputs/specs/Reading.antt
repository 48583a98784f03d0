-- What a trial reads, as the code holds it.
use Rattle.std.specs.Prelude.{ℕ}
use Rattle.graph.specs.Graph.{Graph}
use Rattle.graph.specs.Decode.{graph_of}
use Rattle.model.specs.declared.Resolved.{Resolved}
use Rattle.state.specs.declared.Known.{Known}
use Rattle.inputs.specs.Inputs.{Inputs, port_of, wired_port}
use Rattle.inputs.specs.declared.Reads.{Reads}

-- the graph of the input that is read
abbrev pub graph_in : Reads → Graph
graph_in r = graph_of r.properties.input.now

-- the properties and the wires of the graph are indexed
abbrev pub IsIndexed : Reads → Type 0
IsIndexed r = Inputs (graph_in r) r.properties.input.now r.properties.table.now r.wires.records.now r.feeds.now.first r.feeds.now.next

-- what the ports of a node have by what is known: by their wires, and with the node's properties
abbrev pub wired_in : Reads → Known → ℕ → ℕ → Resolved
wired_in r k n = wired_port r.properties.input.now k.kinds k.words n

abbrev pub port_in : Reads → Known → ℕ → ℕ → Resolved
port_in r k n = port_of r.properties.input.now k.kinds k.words n
