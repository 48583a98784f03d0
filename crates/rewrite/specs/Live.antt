-- Chains of the taken wires that lead to some unplanned target, by the Branch's number, in wire order: what an emission walks.
use Rattle.std.specs.Prelude.{ℕ, ◌≡◌, List, ltb, length, get_or}
use Rattle.ir.specs.Limits.{max_nodes}
use Rattle.ir.specs.declared.Wire.{Wire}
use Rattle.model.specs.Maps.{keep}
use Rattle.wire_index.specs.Chains.{Chain}
use Rattle.rewrite.specs.Counts.{count_in}
use Rattle.rewrite.specs.Taken.{taken_wires, Later}

unfoldable pub live_wires : List Wire → List ℕ → List ℕ → List ℕ → ℕ → List Wire
live_wires ws actions details counts b = keep (λ w. ltb 0 (count_in actions counts w.target)) (taken_wires ws details b)

pub record Live (ws : List Wire) (actions details counts first next : List ℕ) : Type 0 where
  pub first_long : length first ≡ max_nodes
  pub later : Later ws next
  pub chain : (b : ℕ) → get_or actions b 0 ≡ 3 → Chain ws next (get_or first b 0) (live_wires ws actions details counts b)
