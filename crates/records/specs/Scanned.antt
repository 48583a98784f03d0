-- What the decoder holds on its way through the records.
use Rattle.std.specs.Prelude.{ℕ, ◌+◌, ◌≤◌, ◌<◌, ◌≡◌, List, length}
use Rattle.ir.specs.Limits.{max_nodes}
use Rattle.ir.specs.declared.Role.{Role}
use Rattle.ir.specs.declared.Role.TheVariants.{Unlisted, Node, Wire, Property, Row, Annihilator}
use Rattle.graph.specs.Graph.{Graph, empty}
use Rattle.graph.specs.Decode.{scan}
use Rattle.graph.specs.Index.{Held}
use Rattle.graph.specs.declared.Counts.{Counts}

-- The records before an offset passed, the last of them of kind `last`: the counts and the table are those of their graph, and what is left to
-- scan from there is what the whole input asks.
pub record Scanned (s : List ℕ) (table : List ℕ) (c : Counts) (last at : ℕ) : Type 0 where
  pub graph : Graph
  pub fuel : ℕ
  pub held : Held graph c s table
  pub few : length graph.nodes ≤ max_nodes
  pub begun : 0 < length graph.nodes → 0 < at
  pub few_annihilators : length graph.annihilators ≤ at
  pub inside : at ≤ length s
  pub enough : length s ≤ at + fuel
  pub same : scan (length s) 0 empty s 0 ≡ scan fuel last graph s at

-- the roles whose records are read in runs, texts aside
abbrev pub InRuns : Role → Type 0
InRuns Unlisted = ⊥
InRuns Node = Unit {0}
InRuns Wire = Unit {0}
InRuns Property = Unit {0}
InRuns Row = Unit {0}
InRuns Annihilator = ⊥
