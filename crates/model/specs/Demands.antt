-- When an input is refused and with what, and which wires touch neither a removed node nor a literal.
use Rattle.std.specs.Prelude.{ℕ, ◌<◌, ◌≡◌, List, ◌⊎◌, length, get_or, Option, None, Some}
use Rattle.ir.specs.Limits.{max_wires}
use Rattle.ir.specs.declared.Wire.{Wire}
use Rattle.graph.specs.Graph.{Graph}
use Rattle.records.specs.Access.{no_wire}
use Rattle.graph.specs.Decode.{accepted, refused, decode}
use Rattle.model.specs.Maps.{Map}
use Rattle.model.specs.Inputs.{size}
use Rattle.model.specs.Offer.{PlanAction, BecomeLiteral, ShortCircuit, Truncate, literals}
use Rattle.model.specs.Worklist.{Work, worklist}
use Rattle.model.specs.Rewrite.{rewrite_wires, Endless}
use Rattle.model.specs.Trial.{State}
use Rattle.model.specs.Outcome.{wire_offset, fold_bytes}

-- the worklist of a graph whose Literals are what they are by themselves
abbrev pub fold_of : Graph → Work
fold_of g = worklist (literals g) g

abbrev pub plan_of : Graph → Map PlanAction
plan_of g = (fold_of g).state.plan

-- ---- refusals

-- wire i is the first whose rewriting does not end
pub record FirstEndless (p : Map PlanAction) (ws : List Wire) (i : ℕ) : Type 0 where
  pub within : i < length ws
  pub endless : Endless p (get_or ws i no_wire)
  pub first : (j : ℕ) → j < i → Endless p (get_or ws j no_wire) → ⊥

-- the number and the place with which an entry that writes these bytes refuses an input, where the buffer has `room` bytes
pub data RefusedBy (bytes : Graph → State → List Wire → List ℕ) (input : List ℕ) (room : ℕ) : ℕ → ℕ → Type 0 where
  -- 1 to 8 and 12: the first question that is answered with no
  decoding : {n p : ℕ} → decode input ≡ refused n p → RefusedBy bytes input room n p
  -- 9: a wire's rewriting does not end
  rewriting : {g : Graph} {i : ℕ} → decode input ≡ accepted g → FirstEndless (plan_of g) g.wires i → RefusedBy bytes input room 9 (wire_offset g i)
  -- 10: every wire's does, and there are too many rewritten wires, or what is written is too long
  writing : {g : Graph} {ws : List Wire} → decode input ≡ accepted g → rewrite_wires (plan_of g) (size g) g.wires ≡ Some ws →
      (max_wires < length ws) ⊎ (room < length (bytes g (fold_of g).state ws)) → RefusedBy bytes input room 10 0

abbrev pub Refused : List ℕ → ℕ → ℕ → ℕ → Type 0
Refused input room n p = RefusedBy fold_bytes input room n p

-- ---- rewritten wires

-- "no rewritten wire touches a removed node or enters a node that was made literal"
abbrev pub Removed : Option PlanAction → Type 0
Removed None = ⊥
Removed (Some (BecomeLiteral v)) = ⊥
Removed (Some (ShortCircuit s)) = Unit {0}
Removed (Some (Truncate ts)) = Unit {0}

abbrev pub MadeLiteral : Option PlanAction → Type 0
MadeLiteral None = ⊥
MadeLiteral (Some (BecomeLiteral v)) = Unit {0}
MadeLiteral (Some (ShortCircuit s)) = ⊥
MadeLiteral (Some (Truncate ts)) = ⊥

pub record Clean (p : Map PlanAction) (w : Wire) : Type 0 where
  pub source_stays : Removed (p w.source.node_id) → ⊥
  pub target_stays : Removed (p w.target.node_id) → ⊥
  pub target_free : MadeLiteral (p w.target.node_id) → ⊥
