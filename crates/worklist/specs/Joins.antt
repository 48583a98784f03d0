-- How consumers join the queue.
use Rattle.std.specs.Prelude.{ℕ, ◌≡◌, Bool, cond, ◌||◌, List, [], ◌∷◌, ◌++◌, get_or}
use Rattle.value.specs.declared.Value.{Value}
use Rattle.graph.specs.Graph.{Graph, member}
use Rattle.records.specs.Access.{wires_of, Bounded}
use Rattle.model.specs.Maps.{Map, is_some}
use Rattle.model.specs.Inputs.{size}
use Rattle.model.specs.Worklist.{joiners}
use Rattle.model.specs.Arrays.{queue_of}
use Rattle.state.specs.Held.{known_of}
use Rattle.wire_index.specs.Chains.{Leaving}
use Rattle.worklist.specs.Queue.{Queued}

-- one consumer joins "unless known or waiting"
unfoldable pub join_one : Map Value → List ℕ → ℕ → List ℕ
join_one known queue c = cond (is_some (known c) || member c queue) queue (queue ++ (c ∷ []))

-- node c joined those that wait, unless it is known or was one of them
pub record OneJoined (kinds : List ℕ) (c head : ℕ) (places : List ℕ) (count : ℕ) (marks' : List Bool) (places' : List ℕ) (count' : ℕ) : Type 0 where
  pub law : (words : List ℕ) → Queued marks' places' head count' (join_one (known_of kinds words) (queue_of places head count) c)

-- the consumers of node n stand in a chain of the wires
pub record Chained (wires first next : List ℕ) (n : ℕ) : Type 0 where
  pub nodes : ℕ
  pub bounded : Bounded (wires_of wires) nodes
  pub leaving : Leaving (wires_of wires) next n (get_or first n 0)

-- the consumers of node n joined those that wait, unless known or waiting
pub record ConsumersJoined (wires kinds : List ℕ) (n head : ℕ) (places : List ℕ) (count : ℕ) (marks' : List Bool) (places' : List ℕ) (count' : ℕ) : Type 0 where
  pub law : (g : Graph) (words : List ℕ) → wires_of wires ≡ g.wires → Bounded g.wires (size g) → Queued marks' places' head count' (queue_of places head count ++ joiners g (known_of kinds words) (queue_of places head count) n)
