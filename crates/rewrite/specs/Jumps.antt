-- Rounds in which each planned Select takes over the wire of the Select that its own wire starts at: after a few of them each has come to the end
-- of its chain of sources, or far round a cycle.
use Rattle.std.specs.Prelude.{ℕ, ◌+◌, ◌-◌, ◌≤◌, ◌≡◌, Bool, cond, ◌&&◌, List, eqb, get_or, set}
use Rattle.ir.specs.declared.PortRef.{PortRef}
use Rattle.ir.specs.declared.Wire.{Wire}
use Rattle.records.specs.Access.{no_wire}
use Rattle.model.specs.Rewrite.{follow}
use Rattle.state.specs.Planned.{shape_of}
use Rattle.rewrite.specs.Sources.{passed_to}

-- whether the wire of planned Select m starts at a planned Select
unfoldable pub jumps : List Wire → List ℕ → List ℕ → ℕ → Bool
jumps ws actions sources m = eqb (get_or actions m 0) 2 && eqb (get_or actions (passed_to ws sources m).node_id 0) 2

unfoldable pub jumped : List Wire → List ℕ → List ℕ → ℕ → List ℕ
jumped ws actions sources m = cond (jumps ws actions sources m) (set sources m (get_or sources (passed_to ws sources m).node_id 0)) sources

-- the node that a round over n nodes comes to after i others, upwards or downwards
abbrev pub turned : ℕ → Bool → ℕ → ℕ
turned n down i = cond down (n - 1 - i) i

-- by wire s planned Select m has come some steps along its chain of sources, at least `far` where it is still at a Select
pub record Along (ws : List Wire) (actions details : List ℕ) (far m s : ℕ) : Type 0 where
  pub steps : ℕ
  pub leads : (e : PortRef) → e.node_id ≡ m → (k : ℕ) → follow (shape_of ws actions details) (steps + k) e ≡ follow (shape_of ws actions details) k (get_or ws s no_wire).source
  pub enough : get_or actions (get_or ws s no_wire).source.node_id 0 ≡ 2 → far ≤ steps

abbrev pub Jumped : List Wire → List ℕ → List ℕ → List ℕ → ℕ → Type 0
Jumped ws actions details sources far = (m : ℕ) → get_or actions m 0 ≡ 2 → Along ws actions details far m (get_or sources m 0)
