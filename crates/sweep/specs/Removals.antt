-- Document 01, "What feeds nothing": "An eligible node with no outgoing wire goes, its incoming wires go with it, and so on until none is left".
use Rattle.std.specs.Prelude.{ℕ, zero, suc, ◌≤◌, ◌≡◌, Bool, true, false, not, ◌&&◌, List, [], ◌∷◌, eqb, length}
use Rattle.ir.specs.declared.Wire.{Wire}
use Rattle.graph.specs.Graph.{member}
use Rattle.model.specs.Maps.{keep, any, up_to, All}
use Rattle.wire_index.specs.Chains.{enters}
use Rattle.wire_index.specs.Linking.{leaves}

-- ---- removals, one by one

-- the nodes and the rewritten wires that are left
pub record Left : Type 0 where
  pub nodes : List ℕ
  pub wires : List Wire

-- "An eligible node with no outgoing wire"
pub record Removable (eligible : ℕ → Bool) (l : Left) (n : ℕ) : Type 0 where
  pub there : member n l.nodes ≡ true
  pub allowed : eligible n ≡ true
  pub no_wire : any (leaves n) l.wires ≡ false

-- "goes, its incoming wires go with it"
unfoldable pub remove : Left → ℕ → Left
remove l n = record { nodes = keep (λ m. not (eqb n m)) l.nodes; wires = keep (λ w. not (enters n w)) l.wires }

-- "and so on": the nodes of a list are removed one after the other
pub data Removals (eligible : ℕ → Bool) : Left → List ℕ → Left → Type 0 where
  stop : {l : Left} → Removals eligible l [] l
  next : {l m : Left} {n : ℕ} {ns : List ℕ} → Removable eligible l n → Removals eligible (remove l n) ns m → Removals eligible l (n ∷ ns) m

-- "until none is left"
abbrev pub Finished : (ℕ → Bool) → Left → Type 0
Finished eligible l = (n : ℕ) → Removable eligible l n → ⊥

-- all of so many nodes, and all wires
abbrev pub unswept : ℕ → List Wire → Left
unswept nodes ws = record { nodes = up_to nodes; wires = ws }

-- removals until none is left: which nodes they take, and what they leave
pub record Run (eligible : ℕ → Bool) (nodes : ℕ) (ws : List Wire) : Type 0 where
  pub taken : List ℕ
  pub left : Left
  pub removals : Removals eligible (unswept nodes ws) taken left
  pub finished : Finished eligible left

-- ---- the nodes taken, by rounds

-- the nodes taken after so many rounds: a round takes each eligible node whose wires all enter nodes that are taken by then
unfoldable pub taken_after : (ℕ → Bool) → List Wire → ℕ → ℕ → Bool
taken_after eligible ws zero n = false
taken_after eligible ws (suc k) n = eligible n && not (any (λ w. leaves n w && not (taken_after eligible ws k w.target.node_id)) ws)

-- a round for each of so many nodes is enough
abbrev pub is_taken : (ℕ → Bool) → ℕ → List Wire → ℕ → Bool
is_taken eligible nodes ws n = taken_after eligible ws nodes n

-- the wires, and the nodes, that are left where these nodes are taken, in their order
abbrev pub wires_left : (ℕ → Bool) → List Wire → List Wire
wires_left taken ws = keep (λ w. not (taken w.target.node_id)) ws

unfoldable pub left_by : (ℕ → Bool) → Left → Left
left_by taken l = record { nodes = keep (λ n. not (taken n)) l.nodes; wires = wires_left taken l.wires }

-- ---- "the nodes taken are the same in any order of removal"

-- nodes each of which has a wire to one of them
abbrev pub Loop : List Wire → List ℕ → Type 0
Loop ws ns = (n : ℕ) → member n ns ≡ true → any (λ w. leaves n w && member w.target.node_id ns) ws ≡ true

pub record AnyOrder (eligible : ℕ → Bool) (nodes : ℕ) (ws : List Wire) : Type 0 where
  -- the removals end, in whatever order, and there are such as go on until none is left
  pub ends : (ns : List ℕ) (l : Left) → Removals eligible (unswept nodes ws) ns l → length ns ≤ nodes
  pub runs : Run eligible nodes ws
  -- all of these take the same nodes, and leave the same nodes and wires in their order
  pub taken : (r : Run eligible nodes ws) (n : ℕ) → member n r.taken ≡ is_taken eligible nodes ws n
  pub left : (r : Run eligible nodes ws) → r.left ≡ left_by (is_taken eligible nodes ws) (unswept nodes ws)
  -- a node is taken exactly where it is eligible and each wire that leaves it enters one that is taken
  pub exactly : (n : ℕ) → is_taken eligible nodes ws n ≡ (eligible n && not (any (λ w. leaves n w && not (is_taken eligible nodes ws w.target.node_id)) ws))
  -- no wire that is left touches a node that is taken
  pub clean : All (λ w. (is_taken eligible nodes ws w.source.node_id ≡ false) × (is_taken eligible nodes ws w.target.node_id ≡ false)) (wires_left (is_taken eligible nodes ws) ws)
  -- "a pure loop stays"
  pub loops : (ns : List ℕ) → Loop ws ns → (n : ℕ) → member n ns ≡ true → is_taken eligible nodes ws n ≡ false
