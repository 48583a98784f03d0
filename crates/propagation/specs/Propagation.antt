-- What comes of an input: what its worklist leaves in the arrays, or a refusal by questions 1 to 8 and 12.
use Rattle.std.specs.Prelude.{ℕ, ◌≡◌, List, Result, Ok, Err}
use Rattle.value.specs.declared.Value.{Value}
use Rattle.graph.specs.Decode.{refused, decode, graph_of}
use Rattle.graph.specs.Refusals.{number_of, place_of}
use Rattle.graph.specs.declared.Counts.{Counts}
use Rattle.graph.specs.declared.Refusal.{Refusal}
use Rattle.records.specs.Access.{Accepts}
use Rattle.model.specs.Maps.{Map}
use Rattle.model.specs.Own.{own_of}
use Rattle.worklist.specs.Turns.{Finished}
use Rattle.propagation.specs.declared.Propagated.{Propagated}

-- the input is accepted, and the arrays hold what its worklist leaves, where `own` says what nodes are by themselves
pub record Settled (input : List ℕ) (own : Map Value) (c : Counts) (kinds words actions details : List ℕ) (pops : ℕ) : Type 0 where
  pub accepts : Accepts input c
  pub finished : Finished (graph_of input) own kinds words actions details pops

-- the input is refused by questions 1 to 8 and 12, and the arrays are as they were
pub record Refuses (input : List ℕ) (number place : ℕ) (kinds words actions details kinds' words' actions' details' : List ℕ) : Type 0 where
  pub verdict : decode input ≡ refused number place
  pub kinds_stay : kinds' ≡ kinds
  pub words_stay : words' ≡ words
  pub actions_stay : actions' ≡ actions
  pub details_stay : details' ≡ details

-- what the answer says of the input and of the arrays
abbrev pub Propagates : (input own kinds words actions details kinds' words' actions' details' : List ℕ) → Result Propagated Refusal → Type 0
Propagates input own kinds words actions details kinds' words' actions' details' (Ok p) = Settled input (own_of (graph_of input) own) p.counts kinds' words' actions' details' p.pops
Propagates input own kinds words actions details kinds' words' actions' details' (Err e) = Refuses input (number_of e) (place_of e) kinds words actions details kinds' words' actions' details'
