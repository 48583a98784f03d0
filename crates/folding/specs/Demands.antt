-- The demands on an entry, each of the input, the buffer afterwards and the four numbers that are returned. `bytes` is what the entry writes for a graph.
use Rattle.std.specs.Prelude.{ℕ, ◌+◌, ◌<◌, ◌≤◌, ◌≡◌, true, List, [], ◌⊎◌, ◌↔◌, length, get_or, None, Some}
use Rattle.ir.specs.Limits.{max_wires}
use Rattle.ir.specs.Classes.{folding_of}
use Rattle.ir.specs.declared.Folding.{Folding}
use Rattle.ir.specs.declared.Wire.{Wire}
use Rattle.encoding.specs.Wires.{wire_at}
use Rattle.value.specs.declared.Value.{Value}
use Rattle.semantics.specs.Finite.{finite_value}
use Rattle.graph.specs.Graph.{Graph}
use Rattle.graph.specs.Decode.{graph_of}
use Rattle.records.specs.Access.{no_wire}
use Rattle.model.specs.Maps.{All}
use Rattle.model.specs.Inputs.{size, node_of}
use Rattle.model.specs.Offer.{BecomeLiteral, literals}
use Rattle.model.specs.Trial.{State, empty, trials, Stable}
use Rattle.model.specs.Rewrite.{rewrite_wires}
use Rattle.model.specs.Outcome.{wire_offset, fold_bytes, Numbers}
use Rattle.model.specs.Demands.{fold_of, plan_of, RefusedBy, FirstEndless, Clean}

-- demand 1: refused with a number and a place exactly where document 01 has that number and place for the input, and with 1 to 10 or 12 alone
pub record RefusalsBy (bytes : Graph → State → List Wire → List ℕ) (input : List ℕ) (room : ℕ) (r : Numbers) : Type 0 where
  pub exactly : (n p : ℕ) → 1 ≤ n → ((r.number ≡ n) × (r.place ≡ p)) ↔ RefusedBy bytes input room n p
  pub given : (r.number ≤ 10) ⊎ (r.number ≡ 12)

abbrev pub Refusals : List ℕ → ℕ → Numbers → Type 0
Refusals input room r = RefusalsBy fold_bytes input room r

-- "place the offset of the first such wire record": the record there is that wire's
pub record EndlessAt (input : List ℕ) (place : ℕ) : Type 0 where
  pub index : ℕ
  pub first : FirstEndless (plan_of (graph_of input)) (graph_of input).wires index
  pub offset : place ≡ wire_offset (graph_of input) index
  pub stands : wire_at input place ≡ get_or (graph_of input).wires index no_wire

abbrev pub Accepted : Numbers → Type 0
Accepted r = r.number ≡ 0

-- demand 3, of the graph of an input
-- "every list of its nodes, in any order and with any repeats ..: the known values and the plan after the list are, bit for bit, those of our
-- worklist exactly when no trial of any node would then add a known value or a plan"
abbrev pub OrderFree : Graph → Type 0
OrderFree g = (ns : List ℕ) → (trials (literals g) g empty ns ≡ (fold_of g).state) ↔ Stable (literals g) g (trials (literals g) g empty ns)

-- "Our answer is, byte for byte, what document 01 writes for that graph and the worklist's known values and plan"
pub record AnswerBy (bytes : Graph → State → List Wire → List ℕ) (g : Graph) (written : List ℕ) : Type 0 where
  pub wires : List Wire
  pub rewritten : rewrite_wires (plan_of g) (size g) g.wires ≡ Some wires
  pub is : written ≡ bytes g (fold_of g).state wires

abbrev pub AnswerOf : Graph → List ℕ → Type 0
AnswerOf g written = AnswerBy fold_bytes g written

-- "its pops are those of the waiting-line rule", "until none waits", "and at most nodes plus wires"
pub record PopsOf (g : Graph) (pops : ℕ) : Type 0 where
  pub are : pops ≡ (fold_of g).pops
  pub until : (fold_of g).queue ≡ []
  pub few : pops ≤ size g + length g.wires

-- "each planned number is finite"
abbrev pub FinitePlan : Graph → Type 0
FinitePlan g = (n : ℕ) (v : Value) → plan_of g n ≡ Some (BecomeLiteral v) → finite_value v ≡ true

-- "no rewritten wire touches a removed node or enters a node that was made literal"
abbrev pub CleanWires : Graph → Type 0
CleanWires g = (ws : List Wire) → rewrite_wires (plan_of g) (size g) g.wires ≡ Some ws → All (Clean (plan_of g)) ws

-- "A Branch is never known."
abbrev pub BranchesUnknown : Graph → Type 0
BranchesUnknown g = (n : ℕ) → folding_of (node_of g n).class ≡ Folding.Branch → (fold_of g).state.known n ≡ None

-- there are more than 4,096 rewritten wires: with a buffer of `max_answer` bytes, which holds every answer, the one cause of 10
pub record TooManyWires (g : Graph) : Type 0 where
  pub wires : List Wire
  pub rewritten : rewrite_wires (plan_of g) (size g) g.wires ≡ Some wires
  pub many : max_wires < length wires
