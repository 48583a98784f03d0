-- What a turn of the loop does, and how the worklist ends, on the arrays. `own` says what nodes are by themselves.
use Rattle.std.specs.Prelude.{ℕ, ◌≡◌, Bool, List, []}
use Rattle.value.specs.declared.Value.{Value}
use Rattle.graph.specs.Graph.{Graph}
use Rattle.model.specs.Maps.{Map}
use Rattle.model.specs.Trial.{State}
use Rattle.model.specs.Worklist.{Work, pop, worklist}
use Rattle.model.specs.Arrays.{queue_of}
use Rattle.state.specs.Planned.{Holds}
use Rattle.worklist.specs.Queue.{Queued}

-- the arrays hold what the model's pop leaves
pub record Popped (g : Graph) (kinds words actions details : List ℕ) (marks : List Bool) (places : List ℕ) (head count : ℕ) (w : Work) : Type 0 where
  pub holds : Holds g kinds words actions details w.state
  pub queue : Queued marks places head count w.queue

-- node n, taken from the front, was tried; where it is newly known, its consumers joined
pub record Turned (g : Graph) (own : Map Value) (n head count : ℕ) (kinds words actions details places kinds' words' actions' details' : List ℕ) (marks' : List Bool) (places' : List ℕ) (count' : ℕ) : Type 0 where
  pub law : (s : State) (pops : ℕ) → Holds g kinds words actions details s → Popped g kinds' words' actions' details' marks' places' head count' (pop own g s pops n (queue_of places head count))

-- the arrays hold what the model's worklist leaves, "until none waits"
pub record Finished (g : Graph) (own : Map Value) (kinds words actions details : List ℕ) (pops : ℕ) : Type 0 where
  pub holds : Holds g kinds words actions details (worklist own g).state
  pub pops_are : pops ≡ (worklist own g).pops
  pub none_waits : (worklist own g).queue ≡ []
