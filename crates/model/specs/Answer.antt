-- The answer's bytes (document 01, "The answer, its kind bytes in hex: ..").
use Rattle.std.specs.Prelude.{ℕ, ◌+◌, List, [], ◌∷◌, ◌++◌, Option, None, Some}
use Rattle.ir.specs.Ports.{value_port}
use Rattle.ir.specs.declared.Wire.{Wire}
use Rattle.value.specs.declared.Value.{Value}
use Rattle.encoding.specs.Values.{kind_of, value_bytes, head_bytes, property_bytes}
use Rattle.encoding.specs.Wires.{wire_bytes}
use Rattle.model.specs.Maps.{up_to}
use Rattle.model.specs.Offer.{PlanAction, BecomeLiteral, ShortCircuit, Truncate}
use Rattle.model.specs.Trial.{State}

unfoldable pub each : {A : Type 0} → (A → List ℕ) → List A → List ℕ
each f [] = []
each f (x ∷ xs) = f x ++ each f xs

-- "each known node in number order as kinds 03 to 09 or 0C with port Value"
unfoldable pub known_bytes : ℕ → Option Value → List ℕ
known_bytes n None = []
known_bytes n (Some v) = property_bytes n value_port v

-- "each node's fate in number order, 10 kept (no plan) or 11 removed (ShortCircuit, Truncate), node 2, or planned literal 12 Int, 13 Float,
-- 14 Bool, 15 Vector (node 2, value as above)"
unfoldable pub fate_bytes : ℕ → Option PlanAction → List ℕ
fate_bytes n None = head_bytes 0x10 n
fate_bytes n (Some (BecomeLiteral v)) = head_bytes (0xf + kind_of v) n ++ value_bytes v
fate_bytes n (Some (ShortCircuit s)) = head_bytes 0x11 n
fate_bytes n (Some (Truncate ts)) = head_bytes 0x11 n

-- "then the rewritten wires as kind 02". The graph has n nodes
unfoldable pub answer : ℕ → State → List Wire → List ℕ
answer n s ws = each (λ i. known_bytes i (s.known i)) (up_to n) ++ each (λ i. fate_bytes i (s.plan i)) (up_to n) ++ each wire_bytes ws
