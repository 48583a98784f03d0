-- What is asked of the fold with the stage beyond the demands on every entry (folding/specs/Demands), each of the graph of an input.
use Rattle.std.specs.Prelude.{ℕ, ◌≡◌, false, List, Some}
use Rattle.ir.specs.declared.Wire.{Wire}
use Rattle.graph.specs.Graph.{Graph, member}
use Rattle.model.specs.Maps.{All}
use Rattle.model.specs.Inputs.{size}
use Rattle.model.specs.Rewrite.{rewrite_wires}
use Rattle.model.specs.Demands.{fold_of, plan_of, Clean}
use Rattle.sweep.specs.Eligible.{eligible}
use Rattle.sweep.specs.Removals.{wires_left, Run, AnyOrder}
use Rattle.sweep.specs.Swept.{swept_answer, taken_of, swept_bytes}

-- removals until none is left, of a graph and its rewritten wires
abbrev pub RunOf : Graph → List Wire → Type 0
RunOf g ws = Run (eligible g (plan_of g)) (size g) ws

-- what is written after these removals: "A node so taken has fate 11 and stays among the known", and the wires that they leave
abbrev pub run_bytes : (g : Graph) (ws : List Wire) → RunOf g ws → List ℕ
run_bytes g ws r = swept_answer (size g) (fold_of g).state (λ n. member n r.taken) r.left.wires

-- "the nodes taken are the same in any order of removal", and so is what is written
pub record SameTaken (g : Graph) (ws : List Wire) : Type 0 where
  pub order : AnyOrder (eligible g (plan_of g)) (size g) ws
  pub bytes : (r : RunOf g ws) → swept_bytes g (fold_of g).state ws ≡ run_bytes g ws r

abbrev pub AnyOrderOf : Graph → Type 0
AnyOrderOf g = (ws : List Wire) → rewrite_wires (plan_of g) (size g) g.wires ≡ Some ws → SameTaken g ws

-- there are removals that go on until none is left, and these bytes are what is written after any of them
pub record AnyRun (g : Graph) (written : List ℕ) : Type 0 where
  pub wires : List Wire
  pub rewritten : rewrite_wires (plan_of g) (size g) g.wires ≡ Some wires
  pub run : RunOf g wires
  pub is : (r : RunOf g wires) → written ≡ run_bytes g wires r

-- no wire that is left touches a node that is removed or taken, or enters one that was made literal
abbrev pub CleanLeft : Graph → Type 0
CleanLeft g =
    (ws : List Wire) → rewrite_wires (plan_of g) (size g) g.wires ≡ Some ws →
    All (λ w. Clean (plan_of g) w × (taken_of g (plan_of g) ws w.source.node_id ≡ false) × (taken_of g (plan_of g) ws w.target.node_id ≡ false)) (wires_left (taken_of g (plan_of g) ws) ws)
