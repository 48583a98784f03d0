-- What `rewrite` asks of the plan, and leaves in the arrays for the emission of the rewritten wires.
use Rattle.std.specs.Prelude.{ℕ, ◌<◌, ◌≡◌, List, get_or}
use Rattle.ir.specs.declared.Wire.{Wire}
use Rattle.rewrite.specs.Sources.{Sources}
use Rattle.rewrite.specs.Counts.{Counts}
use Rattle.rewrite.specs.Live.{Live}

-- one of the first n nodes has the action
pub record HasAction (actions : List ℕ) (n action : ℕ) : Type 0 where
  pub node : ℕ
  pub within : node < n
  pub has : get_or actions node 0 ≡ action

pub record Rewritable (ws : List Wire) (n : ℕ) (actions details sources counts first next : List ℕ) : Type 0 where
  pub origins : Sources ws n actions details sources
  pub targets : Counts ws n actions details counts
  pub live : Live ws actions details counts first next
