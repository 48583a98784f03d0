-- Chains of the wires that the planned Branches take (wire_index's `Chain`), by the Branch's number, in wire order.
use Rattle.std.specs.Prelude.{ℕ, suc, ◌≤◌, ◌<◌, ◌≡◌, List, ◌⊎◌, length, get_or}
use Rattle.ir.specs.Limits.{max_nodes, max_wires}
use Rattle.ir.specs.declared.Wire.{Wire}
use Rattle.model.specs.Maps.{keep}
use Rattle.model.specs.Inputs.{is_port}
use Rattle.wire_index.specs.Chains.{Chain}

-- the wires that leave planned Branch b by its taken port: `targets_in` are their targets
unfoldable pub taken_wires : List Wire → List ℕ → ℕ → List Wire
taken_wires ws details b = keep (λ w. is_port w.source b (get_or details b 0)) ws

-- each code is one of these wires, and none comes before its own wire: a chain ends
pub record Later (ws : List Wire) (next : List ℕ) : Type 0 where
  pub long : length next ≡ max_wires
  pub within : (i : ℕ) → get_or next i 0 ≤ length ws
  pub later : (i : ℕ) → (get_or next i 0 ≡ 0) ⊎ (suc i < get_or next i 0)

pub record Taken (ws : List Wire) (actions details first next : List ℕ) : Type 0 where
  pub first_long : length first ≡ max_nodes
  pub later : Later ws next
  pub chain : (b : ℕ) → get_or actions b 0 ≡ 3 → Chain ws next (get_or first b 0) (taken_wires ws details b)
