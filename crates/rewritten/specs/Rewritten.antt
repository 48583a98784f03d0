-- The rewritten wires of a graph, as the stage returns and writes them.
use Rattle.std.specs.Prelude.{ℕ, ◌*◌, ◌<◌, ◌≤◌, ◌≡◌, List, [], ◌++◌, length, get_or, drop, Result, Ok, Err}
use Rattle.ir.specs.Limits.{max_wires}
use Rattle.value.specs.declared.Value.{Value}
use Rattle.encoding.specs.Wires.{wire_bytes}
use Rattle.graph.specs.Graph.{Graph}
use Rattle.graph.specs.Decode.{graph_of}
use Rattle.graph.specs.declared.Counts.{Counts}
use Rattle.graph.specs.declared.Refusal.{Refusal}
use Rattle.graph.specs.Refusals.{number_of, place_of}
use Rattle.model.specs.Maps.{Map}
use Rattle.model.specs.Offer.{PlanAction}
use Rattle.model.specs.Worklist.{worklist}
use Rattle.model.specs.Answer.{each}
use Rattle.model.specs.Outcome as Outcomes
use Rattle.propagation.specs.Propagation.{Settled}
use Rattle.folding.specs.Entry.{Rewrote}

-- which result is that of the model: how many wires there are, or a refusal with its number and place
abbrev pub IsCase : Outcomes.Rewriting → Result ℕ Refusal → Type 0
IsCase (Outcomes.wires ws) (Ok count) = count ≡ length ws
IsCase (Outcomes.wires ws) (Err e) = ⊥
IsCase (Outcomes.stops number place) (Ok count) = ⊥
IsCase (Outcomes.stops number place) (Err e) = (number_of e ≡ number) × (place_of e ≡ place)

-- the wires' records; a refusal has none
abbrev pub records_of : Outcomes.Rewriting → List ℕ
records_of (Outcomes.wires ws) = each wire_bytes ws
records_of (Outcomes.stops number place) = []

-- the buffer with these records at its front
abbrev pub fronted : List ℕ → List ℕ → List ℕ
fronted records before = records ++ drop (length records) before

-- what is returned, and each byte of the buffer, by the graph and its plan
pub record RewritesBy (g : Graph) (p : Map PlanAction) (before after : List ℕ) (r : Result ℕ Refusal) : Type 0 where
  pub result : IsCase (Outcomes.rewritten g p) r
  pub buffer : after ≡ fronted (records_of (Outcomes.rewritten g p)) before

-- the same of any worklist that leaves what the arrays hold
pub record Rewrites (input : List ℕ) (c : Counts) (actions details before after : List ℕ) (r : Result ℕ Refusal) : Type 0 where
  pub law : (own : Map Value) (kinds words : List ℕ) (pops : ℕ) → Settled input own c kinds words actions details pops → RewritesBy (graph_of input) (worklist own (graph_of input)).state.plan before after r

-- a worklist of the input's graph leaves what the arrays hold, and the buffer has room for 4,096 wires
pub record Given (input : List ℕ) (c : Counts) (actions details buffer : List ℕ) : Type 0 where
  pub own : Map Value
  pub kinds : List ℕ
  pub words : List ℕ
  pub pops : ℕ
  pub settled : Settled input own c kinds words actions details pops
  pub long : length buffer ≡ 7 * max_wires

-- besides, every wire's rewriting ends, with so many wires at the end
pub record Countable (input : List ℕ) (c : Counts) (actions details sources targets first next : List ℕ) (count : ℕ) (buffer : List ℕ) : Type 0 where
  pub kinds : List ℕ
  pub words : List ℕ
  pub pops : ℕ
  pub rewrote : Rewrote input c kinds words actions details sources targets first next count pops
  pub long : length buffer ≡ 7 * max_wires

-- neither a Select nor a Branch is planned
pub record Keeps (input : List ℕ) (c : Counts) (actions details buffer : List ℕ) : Type 0 where
  pub given : Given input c actions details buffer
  pub low : (m : ℕ) → m < c.nodes → get_or actions m 0 ≤ 1
