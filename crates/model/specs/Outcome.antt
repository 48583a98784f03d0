-- The outcome of an input, in stages: the decoded graph, the worklist, the rewritten wires, the answer (document 01, "Questions at the door").
use Rattle.std.specs.Prelude.{ℕ, suc, ◌+◌, ◌*◌, cond, List, [], ◌∷◌, ◌++◌, leb, length, drop, Option, None, Some}
use Rattle.ir.specs.Limits.{max_wires}
use Rattle.ir.specs.declared.Wire.{Wire}
use Rattle.value.specs.declared.Value.{Value}
use Rattle.graph.specs.Graph.{Graph, counts_of}
use Rattle.records.specs.Access.{wires_offset}
use Rattle.graph.specs.Decode.{Verdict, accepted, refused, decode}
use Rattle.model.specs.Maps.{Map, is_some}
use Rattle.model.specs.Inputs.{size}
use Rattle.model.specs.Offer.{PlanAction, literals}
use Rattle.model.specs.Trial.{State}
use Rattle.model.specs.Worklist.{Work, worklist}
use Rattle.model.specs.Rewrite.{rewrite_wire, rewrite_wires}
use Rattle.model.specs.Answer.{answer}

-- ---- the rewritten wires

-- the number of the first wire whose rewriting does not end
unfoldable pub endless_index : Map PlanAction → ℕ → List Wire → ℕ
endless_index p nodes [] = 0
endless_index p nodes (w ∷ ws) = cond (is_some (rewrite_wire p nodes w)) (suc (endless_index p nodes ws)) 0

-- the offset of a wire record, by its number
abbrev pub wire_offset : Graph → ℕ → ℕ
wire_offset g i = wires_offset (counts_of g) + 7 * i

-- the rewritten wires, or a refusal's number and place
pub data Rewriting : Type 0 where
  wires : List Wire → Rewriting
  stops : (number place : ℕ) → Rewriting

-- 10. "Are there at most 4,096 rewritten wires .. ? No: 10, place 0."
unfoldable pub counted : List Wire → Rewriting
counted ws = cond (leb (length ws) max_wires) (wires ws) (stops 10 0)

-- 9. "Does each wire's rewriting end .. ? No: 9, place the offset of the first such wire record."
unfoldable pub ending : Graph → Map PlanAction → Option (List Wire) → Rewriting
ending g p None = stops 9 (wire_offset g (endless_index p (size g) g.wires))
ending g p (Some ws) = counted ws

unfoldable pub rewritten : Graph → Map PlanAction → Rewriting
rewritten g p = ending g p (rewrite_wires p (size g) g.wires)

-- ---- the outcome

pub data Result : Type 0 where
  folds : (answer : List ℕ) (pops : ℕ) → Result
  refuses : (number place : ℕ) → Result

-- 10. ".. and does the buffer hold the answer? No: 10, place 0."
unfoldable pub measured : ℕ → List ℕ → ℕ → Result
measured room a pops = cond (leb (length a) room) (folds a pops) (refuses 10 0)

-- of an entry that writes these bytes for a graph, what is known and planned of it, and its rewritten wires
module _ (bytes : Graph → State → List Wire → List ℕ) where
  unfoldable pub answered : Graph → Work → ℕ → Rewriting → Result
  answered g w room (stops n p) = refuses n p
  answered g w room (wires ws) = measured room (bytes g w.state ws) w.pops

  -- questions 9 and 10 of a graph
  unfoldable pub fold_graph : Map Value → Graph → ℕ → Result
  fold_graph own g room = answered g (worklist own g) room (rewritten g (worklist own g).state.plan)

  unfoldable pub by_verdict : ℕ → Verdict → Result
  by_verdict room (refused n p) = refuses n p
  by_verdict room (accepted g) = fold_graph (literals g) g room

  -- an input, into a buffer of so many bytes
  unfoldable pub outcome_by : List ℕ → ℕ → Result
  outcome_by input room = by_verdict room (decode input)

-- the fold writes the answer
abbrev pub fold_bytes : Graph → State → List Wire → List ℕ
fold_bytes g s ws = answer (size g) s ws

abbrev pub outcome : List ℕ → ℕ → Result
outcome input room = outcome_by fold_bytes input room

-- ---- what is returned and written

-- document 01's four numbers. "A refusal returns its number and place, length 0, pops 0. Acceptance returns number 0, place 0."
pub record Numbers : Type 0 where
  pub number : ℕ
  pub place : ℕ
  pub length : ℕ
  pub pops : ℕ

unfoldable pub numbers_of : Result → Numbers
numbers_of (folds a pops) = record { number = 0; place = 0; length = length a; pops = pops }
numbers_of (refuses n p) = record { number = n; place = p; length = 0; pops = 0 }

-- "bytes past the answer unchanged"; on a refusal "the lent answer buffer untouched"
unfoldable pub written : Result → List ℕ → List ℕ
written (folds a pops) before = a ++ drop (length a) before
written (refuses n p) before = before
