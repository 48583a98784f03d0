-- What the writing of the rewritten wires goes by.
use Rattle.std.specs.Prelude.{ℕ, suc, ◌+◌, ◌-◌, ◌*◌, ◌≤◌, ◌<◌, ◌≡◌, List, [], ◌∷◌, ◌++◌, map, length, get_or, set, Option, None, Some}
use Rattle.ir.specs.Limits.{max_nodes, max_wires}
use Rattle.ir.specs.Ports.{exec}
use Rattle.ir.specs.declared.PortRef.{PortRef}
use Rattle.ir.specs.declared.Wire.{Wire}
use Rattle.encoding.specs.Wires.{wire_bytes}
use Rattle.records.specs.Access.{no_wire, wires_of, Bounded}
use Rattle.wire_index.specs.Chains.{Chain}
use Rattle.model.specs.Answer.{each}
use Rattle.model.specs.Maps.{Map, All}
use Rattle.model.specs.Offer.{PlanAction}
use Rattle.model.specs.Rewrite.{collect, reach, rewrite_wire, rewrite_wires}
use Rattle.state.specs.Planned.{shape_of, Shaped}
use Rattle.rewrite.specs.Sources.{Sources}
use Rattle.rewrite.specs.Counts as target-counts
use Rattle.rewrite.specs.Linked.{Within}
use Rattle.rewrite.specs.Rewritable.{Rewritable}

abbrev pub or_nil : {A : Type 0} → Option (List A) → List A
or_nil None = []
or_nil (Some xs) = xs

-- the unplanned targets that a wire into e leads to
unfoldable pub leads_to : Map PlanAction → ℕ → PortRef → List PortRef
leads_to p n e = or_nil (reach p n e)

-- those of several wires, one after the other
unfoldable pub lead : Map PlanAction → ℕ → List Wire → List PortRef
lead p n [] = []
lead p n (w ∷ ws) = leads_to p n w.target ++ lead p n ws

-- the wires that a wire becomes
unfoldable pub becomes : Map PlanAction → ℕ → Wire → List Wire
becomes p n w = or_nil (rewrite_wire p n w)

-- a wire's rewriting ends, and leads to some unplanned target
pub record Live (p : Map PlanAction) (n : ℕ) (w : Wire) : Type 0 where
  pub ends : reach p n w.target ≡ Some (leads_to p n w.target)
  pub some_target : 0 < length (leads_to p n w.target)

abbrev pub exec_of : ℕ → PortRef
exec_of b = record { node_id = b; port = exec }

-- the chain of a planned Branch: wires that together lead to what a wire into the Branch leads to
pub record Expands (p : Map PlanAction) (n : ℕ) (ws : List Wire) (next : List ℕ) (b code : ℕ) : Type 0 where
  pub out : List Wire
  pub chain : Chain ws next code out
  pub live : All (Live p n) out
  pub leads : (k : ℕ) (ys : List PortRef) → k ≤ n → reach p (suc k) (exec_of b) ≡ Some ys → collect (λ w. reach p k w.target) out ≡ Some ys

-- the plan's shape and the chains of its Branches that lead to some unplanned target
pub record Net (ws : List Wire) (n : ℕ) (actions details first next : List ℕ) : Type 0 where
  pub bounded : Bounded ws n
  pub shaped : Shaped ws n actions details
  pub next_long : length next ≡ max_wires
  pub expands : (b : ℕ) → get_or actions b 0 ≡ 3 → 0 < length (leads_to (shape_of ws actions details) n (exec_of b)) → Expands (shape_of ws actions details) n ws next b (get_or first b 0)

-- ---- chains that Branches share

-- the chains of planned Branches start at wires between nodes
pub record Starts (ws : List Wire) (actions first : List ℕ) : Type 0 where
  pub within : Within ws
  pub long : length first ≡ max_nodes
  pub inside : (b : ℕ) → get_or actions b 0 ≡ 3 → get_or first b 0 ≤ length ws

-- the only live wire of planned Branch b enters planned Branch t
pub record Entered (ws : List Wire) (actions first next : List ℕ) (b t : ℕ) : Type 0 where
  pub low : t < max_nodes
  pub branch : get_or actions b 0 ≡ 3
  pub some_code : 0 < get_or first b 0
  pub alone : get_or next (get_or first b 0 - 1) 0 ≡ 0
  pub there : (get_or ws (get_or first b 0 - 1) no_wire).target.node_id ≡ t
  pub enters : get_or actions t 0 ≡ 3

-- after the sharing the chains serve any plan that they served before
pub record Shared (ws : List Wire) (actions next first first' : List ℕ) : Type 0 where
  pub starts : Starts ws actions first'
  pub serves : (n : ℕ) (details : List ℕ) → Net ws n actions details first next → Net ws n actions details first' next

-- as many nodes are stacked as `depth` says
pub record Branches (stack : List ℕ) (depth : ℕ) : Type 0 where
  pub long : length stack ≡ max_nodes
  pub few : depth ≤ max_nodes
  pub low : (k : ℕ) → k < depth → get_or stack k 0 < max_nodes

-- ---- the stack: codes of chains, the next to be walked on top

pub data Stacked (p : Map PlanAction) (n : ℕ) (ws : List Wire) (next stack : List ℕ) : ℕ → List PortRef → Type 0 where
  bottom : Stacked p n ws next stack 0 []
  above : {top : ℕ} {us : List Wire} {rs : List PortRef} → Stacked p n ws next stack top rs → Chain ws next (get_or stack top 0) us → 0 < length us → All (Live p n) us → Stacked p n ws next stack (suc top) (lead p n us ++ rs)

-- wire i and the stack stand for these targets
pub record Standing (p : Map PlanAction) (n : ℕ) (ws : List Wire) (next stack : List ℕ) (top i : ℕ) (ts : List PortRef) : Type 0 where
  pub rest : List PortRef
  pub within : i < length ws
  pub live : Live p n (get_or ws i no_wire)
  pub stacked : Stacked p n ws next stack top rest
  pub split : ts ≡ leads_to p n (get_or ws i no_wire).target ++ rest
  pub few : length ts ≤ max_wires
  pub stack_long : length stack ≡ max_wires

-- the same once wire i's own target is the first of them
pub record Descended (p : Map PlanAction) (n : ℕ) (ws : List Wire) (next stack : List ℕ) (top i : ℕ) (ts : List PortRef) : Type 0 where
  pub rest : List PortRef
  pub within : i < length ws
  pub stacked : Stacked p n ws next stack top rest
  pub split : ts ≡ (get_or ws i no_wire).target ∷ rest
  pub few : length ts ≤ max_wires
  pub stack_long : length stack ≡ max_wires

-- a code was pushed, unless it is 0
pub record Pushed (stack stack' : List ℕ) (top code r : ℕ) : Type 0 where
  pub left : code ≡ 0 → (stack' ≡ stack) × (r ≡ top)
  pub put : 0 < code → (stack' ≡ set stack top code) × (r ≡ top + 1)

-- the top entry is the code of a wire
pub record Popable (stack : List ℕ) (top : ℕ) : Type 0 where
  pub low : top ≤ max_wires
  pub some_code : 0 < top → 0 < get_or stack (top - 1) 0
  pub small : 0 < top → get_or stack (top - 1) 0 ≤ max_wires

-- its wire was taken out, and what its chain has after it was pushed
pub record Popped (next stack stack' : List ℕ) (top wire r : ℕ) : Type 0 where
  pub wire_is : 0 < top → wire ≡ get_or stack (top - 1) 0 - 1
  pub rest : 0 < top → Pushed stack stack' (top - 1) (get_or next wire 0) r
  pub same : top ≡ 0 → (stack' ≡ stack) × (r ≡ 0)

-- wires from one source
unfoldable pub fan : PortRef → List PortRef → List Wire
fan e ts = map (λ t. record { source = e; target = t }) ts

-- ---- all wires

-- the wires that there are at the end
abbrev pub rewritten : List Wire → ℕ → List ℕ → List ℕ → List Wire
rewritten ws n actions details = or_nil (rewrite_wires (shape_of ws actions details) n ws)

-- every wire's rewriting ends, there are few enough wires at the end, and the arrays are those that `rewrite` filled
pub record Ready (ws : List Wire) (n : ℕ) (actions details sources counts first next : List ℕ) : Type 0 where
  pub bounded : Bounded ws n
  pub shaped : Shaped ws n actions details
  pub rewritable : Rewritable ws n actions details sources counts first next
  pub ends : rewrite_wires (shape_of ws actions details) n ws ≡ Some (or_nil (rewrite_wires (shape_of ws actions details) n ws))
  pub few : length (or_nil (rewrite_wires (shape_of ws actions details) n ws)) ≤ max_wires

-- the same with the chains that the emission walks
pub record Prepared (ws : List Wire) (n : ℕ) (actions details sources counts first next : List ℕ) : Type 0 where
  pub net : Net ws n actions details first next
  pub origins : Sources ws n actions details sources
  pub targets : target-counts.Counts ws n actions details counts
  pub ends : rewrite_wires (shape_of ws actions details) n ws ≡ Some (or_nil (rewrite_wires (shape_of ws actions details) n ws))
  pub few : length (or_nil (rewrite_wires (shape_of ws actions details) n ws)) ≤ max_wires

-- what the writing of all wires needs
pub record EmitsAll (ws : List Wire) (n : ℕ) (actions details sources counts first next : List ℕ) (at size : ℕ) : Type 0 where
  pub ready : Ready ws n actions details sources counts first next
  pub room : at + 7 * length (or_nil (rewrite_wires (shape_of ws actions details) n ws)) ≤ size

-- what the writing of the wires that stay needs: the wire records are the bytes of the wires that they say, and there is room for all of them
pub record KeepsAll (wires : List ℕ) (n at size : ℕ) : Type 0 where
  pub records : wires ≡ each wire_bytes (wires_of wires)
  pub bounded : Bounded (wires_of wires) n
  pub room : at + 7 * length (wires_of wires) ≤ size
