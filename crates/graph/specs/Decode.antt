-- Document 01, "Questions at the door", 1 to 8 and 12: what an input is refused with, or the graph of one that is accepted.
use Rattle.std.specs.Prelude.{ℕ, zero, suc, ◌+◌, cond, List, ltb, leb, eqb, length}
use Rattle.ir.specs.Limits.{max_input}
use Rattle.encoding.specs.Numbers.{byte}
use Rattle.graph.specs.Graph.{Graph, empty, add}
use Rattle.graph.specs.Layout.{role_at, size_at}
use Rattle.graph.specs.Questions.{questions, first_no}

pub data Verdict : Type 0 where
  accepted : Graph → Verdict
  refused : ℕ → ℕ → Verdict

-- the number of the first question that the record at an offset answers with no, or 0
unfoldable pub refusal_at : ℕ → Graph → List ℕ → ℕ → ℕ
refusal_at last g s at = first_no questions (record { input = s; at = at; last = last; graph = g })

-- the records from an offset on, with the kind before and the graph so far. Each record has a byte, so the input's length is fuel enough
unfoldable pub scan : ℕ → ℕ → Graph → List ℕ → ℕ → Verdict
scan zero last g s at = accepted g
scan (suc fuel) last g s at =
    cond (ltb at (length s))
    (cond (eqb (refusal_at last g s at) 0)
    (scan fuel (byte s at) (add (role_at s at) g s at) s (at + size_at s at))
    (refused (refusal_at last g s at) at))
    (accepted g)

-- 1. "Is the input at most 65,536 bytes? No: 1, place 0." "Then for each record from the front, place its offset"
unfoldable pub decode : List ℕ → Verdict
decode s = cond (leb (length s) max_input) (scan (length s) 0 empty s 0) (refused 1 0)

-- the graph of an accepted input, and the empty one of a refused
abbrev pub graph_in : Verdict → Graph
graph_in (accepted g) = g
graph_in (refused n p) = empty

unfoldable pub graph_of : List ℕ → Graph
graph_of s = graph_in (decode s)
