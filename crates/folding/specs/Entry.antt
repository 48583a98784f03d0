-- What the entry returns and writes.
use Rattle.std.specs.Prelude.{ℕ, ◌+◌, ◌*◌, ◌≤◌, ◌<◌, ◌≡◌, List, length, get_or, Result as CodeResult, Ok, Err}
use Rattle.value.specs.declared.Value.{Value}
use Rattle.graph.specs.Decode.{graph_of}
use Rattle.graph.specs.Refusals.{number_of, place_of}
use Rattle.graph.specs.declared.Counts.{Counts}
use Rattle.graph.specs.declared.Refusal.{Refusal}
use Rattle.model.specs.Inputs.{size}
use Rattle.model.specs.Maps.{Map}
use Rattle.model.specs.Outcome.{Result, folds, refuses, Numbers, written, fold_graph, fold_bytes}
use Rattle.state.specs.Planned.{shape_of}
use Rattle.propagation.specs.Propagation.{Settled}
use Rattle.answer.specs.Nodes.{known_records, fate_records}
use Rattle.rewrite.specs.Rewritable.{Rewritable}
use Rattle.rewrite.specs.Tallied.{Counted}
use Rattle.folding.specs.declared.Folded.{Folded}

-- what the entry returns, an `Outcome`
abbrev pub Returned : Type 0
Returned = CodeResult Folded Refusal

-- which `Outcome` is that of a result of document 01: Ok exactly where the input is accepted
abbrev pub IsCase : Result → Returned → Type 0
IsCase (folds bytes pops) (Ok r) = (r.length ≡ length bytes) × (r.pops ≡ pops)
IsCase (folds bytes pops) (Err e) = ⊥
IsCase (refuses number place) (Ok r) = ⊥
IsCase (refuses number place) (Err e) = (number_of e ≡ number) × (place_of e ≡ place)

-- document 01's four numbers for each case. "A refusal returns its number and place, length 0, pops 0. Acceptance returns number 0, place 0."
abbrev pub numbers : Returned → Numbers
numbers (Ok r) = record { number = 0; place = 0; length = r.length; pops = r.pops }
numbers (Err e) = record { number = number_of e; place = place_of e; length = 0; pops = 0 }

-- the outcome and the buffer are those of a fold of the input
pub record Answers (fold : List ℕ → ℕ → Result) (input before after : List ℕ) (r : Returned) : Type 0 where
  pub result : IsCase (fold input (length before)) r
  pub buffer : after ≡ written (fold input (length before)) before

-- the fold of an accepted input, where `own` says what nodes are by themselves
abbrev pub fold_by : Map Value → List ℕ → ℕ → Result
fold_by own input room = fold_graph fold_bytes own (graph_of input) room

-- ---- between the stages

-- the arrays hold what a worklist of the input's graph leaves
pub record Worked (input : List ℕ) (c : Counts) (kinds words actions details : List ℕ) (pops : ℕ) : Type 0 where
  pub own : Map Value
  pub settled : Settled input own c kinds words actions details pops

-- the result and the buffer are those of the fold whose worklist left what the arrays hold
pub record Folds (input : List ℕ) (c : Counts) (kinds words actions details : List ℕ) (pops : ℕ) (before after : List ℕ) (r : Returned) : Type 0 where
  pub law : (own : Map Value) → Settled input own c kinds words actions details pops → Answers (fold_by own) input before after r

-- every wire's rewriting ends, with so many wires at the end
pub record Rewrote (input : List ℕ) (c : Counts) (kinds words actions details sources targets first next : List ℕ) (count pops : ℕ) : Type 0 where
  pub worked : Worked input c kinds words actions details pops
  pub rewritable : Rewritable (graph_of input).wires (size (graph_of input)) actions details sources targets first next
  pub counted : Counted (shape_of (graph_of input).wires actions details) (size (graph_of input)) (graph_of input).wires count

-- neither a Select nor a Branch is planned, and a buffer with so much room holds the records of the nodes and every wire of the input
pub record Kept (input : List ℕ) (c : Counts) (kinds words actions details : List ℕ) (pops room : ℕ) : Type 0 where
  pub worked : Worked input c kinds words actions details pops
  pub low : (m : ℕ) → m < c.nodes → get_or actions m 0 ≤ 1
  pub fits : length (known_records kinds words c.nodes) + length (fate_records kinds words actions c.nodes) + 7 * c.wires ≤ room
