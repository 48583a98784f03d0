-- The records of known nodes and of fates, by what the arrays hold.
use Rattle.std.specs.Prelude.{ℕ, zero, suc, ◌+◌, cond, List, ◌++◌, eqb, ltb, get_or, Option, None, Some}
use Rattle.value.specs.declared.Value.{Value}
use Rattle.encoding.specs.Values.{kind_of, value_bytes, head_bytes}
use Rattle.model.specs.Maps.{up_to}
use Rattle.model.specs.Answer.{each, known_bytes}
use Rattle.state.specs.Held.{known_of}

-- the records of the first n nodes that are known
abbrev pub known_records : List ℕ → List ℕ → ℕ → List ℕ
known_records kinds words n = each (λ i. known_bytes i (known_of kinds words i)) (up_to n)

-- the fate of node i by its action: a literal has its known value, a planned Select or Branch is removed, any other node is kept
unfoldable pub literal_fate : ℕ → Option Value → List ℕ
literal_fate i None = head_bytes 0x10 i
literal_fate i (Some v) = head_bytes (0xf + kind_of v) i ++ value_bytes v

unfoldable pub fate_by : ℕ → ℕ → Option Value → List ℕ
fate_by i action o = cond (eqb action 1) (literal_fate i o) (head_bytes (cond (eqb action 0) 0x10 0x11) i)

abbrev pub fate_records : List ℕ → List ℕ → List ℕ → ℕ → List ℕ
fate_records kinds words actions n = each (λ i. fate_by i (get_or actions i 0) (known_of kinds words i)) (up_to n)

-- how many of the first nodes have a composite or a text, whose kinds are from 06 on
unfoldable pub composite_count : List ℕ → ℕ → ℕ
composite_count kinds zero = 0
composite_count kinds (suc n) = composite_count kinds n + cond (ltb 5 (get_or kinds n 0)) 1 0
