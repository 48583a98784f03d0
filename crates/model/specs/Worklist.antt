-- The worklist (document 01, "The waiting line starts with all nodes in number order. ..").
use Rattle.std.specs.Prelude.{ℕ, suc, ◌+◌, ◌<◌, ◌≤◌, ◌≡◌, Bool, cond, not, ◌&&◌, List, [], ◌∷◌, ◌++◌, eqb, length, None}
use Rattle.value.specs.declared.Value.{Value}
use Rattle.graph.specs.Graph.{Graph, member}
use Rattle.model.specs.Maps.{Map, is_some, keep, any, All, Distinct, up_to, iterate}
use Rattle.model.specs.Inputs.{size}
use Rattle.model.specs.Trial.{State, empty, trial}

-- "consumers (the nodes that wires from it enter)": c is one of n
unfoldable pub consumes : Graph → ℕ → ℕ → Bool
consumes g n c = any (λ w. eqb w.source.node_id n && eqb w.target.node_id c) g.wires

-- "its consumers .. in number order, unless known or waiting"
unfoldable pub joiners : Graph → Map Value → List ℕ → ℕ → List ℕ
joiners g known queue n = keep (λ c. consumes g n c && not (is_some (known c)) && not (member c queue)) (up_to (size g))

-- "The waiting line is a struct that holds its 1,024 places."
abbrev pub queue_places : ℕ
queue_places = 1024

-- the waiting nodes, what is known and planned, and the pops so far
pub record Work : Type 0 where
  pub queue : List ℕ
  pub state : State
  pub pops : ℕ

unfoldable pub start : Graph → Work
start g = record { queue = up_to (size g); state = empty; pops = 0 }

-- "newly known": not known before its trial, and known after it
unfoldable pub newly : State → State → ℕ → Bool
newly s t n = not (is_some (s.known n)) && is_some (t.known n)

module _ (own : Map Value) (g : Graph) where
  -- "tries each node taken from the front, one pop each"; "A newly known node adds its consumers"
  unfoldable pub pop : State → ℕ → ℕ → List ℕ → Work
  pop s pops n queue =
      let t : State = trial own g s n in
      record { queue = queue ++ cond (newly s t n) (joiners g t.known queue n) []; state = t; pops = suc pops }

  unfoldable pub next : State → ℕ → List ℕ → Work
  next s pops [] = record { queue = []; state = s; pops = pops }
  next s pops (n ∷ queue) = pop s pops n queue

  unfoldable pub step : Work → Work
  step w = next w.state w.pops w.queue

  -- after so many pops, or when none waits
  unfoldable pub after : ℕ → Work
  after k = iterate k step (start g)

  -- "until none waits": a pop for each node and each wire is enough
  unfoldable pub worklist : Work
  worklist = after (size g + length g.wires)

-- "A node waits at most a single time and there are at most 1,024, so the line always has a place": distinct nodes wait, no more than there are places, and a node that
-- waits is not known
pub record Waiting (g : Graph) (w : Work) : Type 0 where
  pub once : Distinct w.queue
  pub nodes : All (λ c. c < size g) w.queue
  pub places : length w.queue ≤ queue_places
  pub unknown : All (λ c. w.state.known c ≡ None) w.queue
