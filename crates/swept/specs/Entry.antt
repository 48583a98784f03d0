-- What the fold with the stage returns and writes.
use Rattle.std.specs.Prelude.{ℕ, ◌<◌, ◌≡◌, Bool, false, cond, List, get_or}
use Rattle.ir.specs.Limits.{max_nodes}
use Rattle.graph.specs.Decode.{graph_of}
use Rattle.graph.specs.declared.Counts.{Counts}
use Rattle.records.specs.Access.{wires_of, Bounded}
use Rattle.model.specs.Inputs.{size}
use Rattle.model.specs.Offer.{literals}
use Rattle.model.specs.Outcome as Outcomes
use Rattle.model.specs.Demands.{plan_of}
use Rattle.propagation.specs.Propagation.{Settled}
use Rattle.sweep.specs.Queue.{taken_action}
use Rattle.sweep.specs.Swept.{taken_of, swept_bytes}

-- an input, into a buffer of so many bytes. "Question 10 counts the 4,096 wires before this stage, and measures the answer that is written."
abbrev pub swept_outcome : List ℕ → ℕ → Outcomes.Result
swept_outcome input room = Outcomes.outcome_by swept_bytes input room

-- ---- between the stages

-- the arrays hold what the worklist of the input's graph leaves, and these records are those of its rewritten wires
pub record Emitted (input : List ℕ) (c : Counts) (kinds words actions details wires : List ℕ) (pops : ℕ) : Type 0 where
  pub worked : Settled input (literals (graph_of input)) c kinds words actions details pops
  pub rewrote : Outcomes.rewritten (graph_of input) (plan_of (graph_of input)) ≡ Outcomes.wires (wires_of wires)
  pub bounded : Bounded (wires_of wires) (size (graph_of input))

-- so it is for some known values: what the sweep needs of the actions and the records
pub record Sweepable (input : List ℕ) (c : Counts) (actions wires : List ℕ) : Type 0 where
  pub kinds : List ℕ
  pub words : List ℕ
  pub details : List ℕ
  pub pops : ℕ
  pub emitted : Emitted input c kinds words actions details wires pops

-- the nodes taken are marked, and have their action in `swept`
pub record Removes (input actions wires swept : List ℕ) (taken : List Bool) : Type 0 where
  pub marked : (n : ℕ) → get_or taken n false ≡ taken_of (graph_of input) (plan_of (graph_of input)) (wires_of wires) n
  pub actions_are : (n : ℕ) → n < max_nodes → get_or swept n 0 ≡ cond (get_or taken n false) taken_action (get_or actions n 0)

-- the arrays and records are those of a graph's fold, but that `swept` has the actions after the sweep, and the nodes taken are marked
pub record Swept (input : List ℕ) (c : Counts) (kinds words swept wires : List ℕ) (taken : List Bool) (pops : ℕ) : Type 0 where
  pub actions : List ℕ
  pub details : List ℕ
  pub emitted : Emitted input c kinds words actions details wires pops
  pub removes : Removes input actions wires swept taken
