-- The queue of waiting nodes, as its places and the marks hold it.
use Rattle.std.specs.Prelude.{ℕ, ◌<◌, ◌≡◌, Bool, false, List, length, get_or}
use Rattle.ir.specs.Limits.{max_nodes}
use Rattle.graph.specs.Graph.{member}
use Rattle.model.specs.Maps.{All, Distinct}
use Rattle.model.specs.Worklist.{queue_places}
use Rattle.model.specs.Arrays.{queue_of}

-- the places hold a queue of distinct nodes, from the front at `head` on, and a node is marked where it waits
pub record Queued (marks : List Bool) (places : List ℕ) (head count : ℕ) (queue : List ℕ) : Type 0 where
  pub marks_long : length marks ≡ max_nodes
  pub places_long : length places ≡ queue_places
  pub head_in : head < queue_places
  pub waits : queue_of places head count ≡ queue
  pub marked : (c : ℕ) → c < max_nodes → get_or marks c false ≡ member c queue
  pub once : Distinct queue
  pub nodes : All (λ c. c < max_nodes) queue

-- so many distinct nodes wait in the places, and those are marked
abbrev pub Waits : List Bool → List ℕ → ℕ → ℕ → Type 0
Waits marks places head count = Queued marks places head count (queue_of places head count)
