-- Document 01, "What feeds nothing": the answer with the stage.
use Rattle.std.specs.Prelude.{ℕ, Bool, true, false, cond, List, ◌++◌, eqb, Option}
use Rattle.ir.specs.declared.Wire.{Wire}
use Rattle.encoding.specs.Values.{head_bytes}
use Rattle.encoding.specs.Wires.{wire_bytes}
use Rattle.graph.specs.Graph.{Graph}
use Rattle.model.specs.Maps.{Map, up_to}
use Rattle.model.specs.Inputs.{size}
use Rattle.model.specs.Offer.{PlanAction}
use Rattle.model.specs.Trial.{State}
use Rattle.model.specs.Answer.{each, known_bytes, fate_bytes}
use Rattle.sweep.specs.Removals.{is_taken, wires_left}
use Rattle.sweep.specs.Eligible.{eligible}

-- "A node so taken has fate 11"
unfoldable pub swept_fate : Bool → ℕ → Option PlanAction → List ℕ
swept_fate true n p = head_bytes 0x11 n
swept_fate false n p = fate_bytes n p

-- "and stays among the known". The graph has n nodes, these are taken, and these wires are left
unfoldable pub swept_answer : ℕ → State → (ℕ → Bool) → List Wire → List ℕ
swept_answer n s taken ws = each (λ i. known_bytes i (s.known i)) (up_to n) ++ each (λ i. swept_fate (taken i) i (s.plan i)) (up_to n) ++ each wire_bytes ws

-- the nodes taken of a graph with this plan and these rewritten wires
abbrev pub taken_of : Graph → Map PlanAction → List Wire → ℕ → Bool
taken_of g p ws = is_taken (eligible g p) (size g) ws

-- the same for an entry that is told by a byte whether the stage runs: 0 is for no sweep, any other byte for one
abbrev pub taken_by : ℕ → Graph → Map PlanAction → List Wire → ℕ → Bool
taken_by sweep g p ws n = cond (eqb sweep 0) false (taken_of g p ws n)

-- what the fold with the stage writes
abbrev pub swept_bytes : Graph → State → List Wire → List ℕ
swept_bytes g s ws = swept_answer (size g) s (taken_of g s.plan ws) (wires_left (taken_of g s.plan ws) ws)
