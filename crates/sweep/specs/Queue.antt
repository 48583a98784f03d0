-- What the code holds while it removes nodes: which are eligible, the degree of each, and those that are taken, in the order in which they were found.
-- A degree is how many of the wires left leave the node; until the node is released for the first time, one more.
use Rattle.std.specs.Prelude.{ℕ, ◌+◌, ◌-◌, ◌≤◌, ◌<◌, ◌≡◌, Bool, true, false, not, cond, ◌&&◌, List, [], ◌∷◌, eqb, ltb, length, get_or, set, take}
use Rattle.ir.specs.Limits.{max_nodes}
use Rattle.ir.specs.Flags.{nofold, labelled}
use Rattle.ir.specs.declared.Wire.{Wire}
use Rattle.graph.specs.Graph.{Graph, member}
use Rattle.records.specs.Access.{no_wire}
use Rattle.model.specs.Maps.{keep}
use Rattle.model.specs.Inputs.{size, node_of}
use Rattle.wire_index.specs.Chains.{enters}
use Rattle.wire_index.specs.Linking.{leaves}
use Rattle.sweep.specs.Eligible.{is_pure}
use Rattle.sweep.specs.Removals.{Left, Removals, unswept, is_taken}

-- ---- the eligible nodes, by the actions: 0 is no plan, 1 a literal

abbrev pub eligible_by : ℕ → ℕ → ℕ → Bool
eligible_by class flags action = not (nofold flags) && (not (labelled flags) && cond (eqb action 0) (is_pure class) (eqb action 1))

unfoldable pub eligible_at : Graph → List ℕ → ℕ → Bool
eligible_at g actions n = ltb n (size g) && eligible_by (node_of g n).class (node_of g n).flags (get_or actions n 0)

abbrev pub eligible_in : List Bool → ℕ → Bool
eligible_in eligible n = get_or eligible n false

-- the action of a node that is taken: that of a planned Select, whose fate is 11 too
abbrev pub taken_action : ℕ
taken_action = 2

-- ---- the queue

-- how many of these wires leave node n
abbrev pub leaving : List Wire → ℕ → ℕ
leaving ws n = length (keep (leaves n) ws)

-- a node is marked, and stands once in the first places of `order`, where it is eligible and its degree is 0
pub record Queued (eligible : List Bool) (degrees : List ℕ) (marks : List Bool) (order : List ℕ) (tail : ℕ) : Type 0 where
  pub degrees_long : length degrees ≡ max_nodes
  pub marks_long : length marks ≡ max_nodes
  pub order_long : length order ≡ max_nodes
  pub marked : (n : ℕ) → n < max_nodes → get_or marks n false ≡ (eligible_in eligible n && eqb (get_or degrees n 0) 0)
  pub listed : (n : ℕ) → member n (take tail order) ≡ get_or marks n false
  pub once : (i : ℕ) → i < tail → member (get_or order i 0) (take i order) ≡ false
  pub many : tail ≡ length (keep (λ b. b) marks)

-- places were taken behind the first `tail`
pub record Longer (order : List ℕ) (tail : ℕ) (order' : List ℕ) (tail' : ℕ) : Type 0 where
  pub more : tail ≤ tail'
  pub kept : (k : ℕ) → k ≤ tail → take k order' ≡ take k order

-- one wire less leaves node n
pub record Released (n : ℕ) (degrees order : List ℕ) (tail : ℕ) (degrees' order' : List ℕ) (tail' : ℕ) : Type 0 where
  pub degree : degrees' ≡ set degrees n (get_or degrees n 0 - 1)
  pub longer : Longer order tail order' tail'

-- each node's degree fell by so much
pub record Fell (nodes : ℕ) (by : ℕ → ℕ) (degrees order : List ℕ) (tail : ℕ) (degrees' order' : List ℕ) (tail' : ℕ) : Type 0 where
  pub degree : (n : ℕ) → n < nodes → get_or degrees' n 0 + by n ≡ get_or degrees n 0
  pub longer : Longer order tail order' tail'

-- how many wires node n has into node d
abbrev pub fed_by : List Wire → ℕ → ℕ → ℕ
fed_by ws d n = leaving (keep (enters d) ws) n

-- the nodes of the first `head` places were removed
pub record Sweeping (nodes : ℕ) (ws : List Wire) (eligible : List Bool) (degrees order : List ℕ) (head tail : ℕ) : Type 0 where
  pub left : Left
  pub removals : Removals (eligible_in eligible) (unswept nodes ws) (take head order) left
  pub degree : (n : ℕ) → n < nodes → get_or degrees n 0 ≡ leaving left.wires n
  pub until : head ≤ tail

-- no node past the last is eligible
abbrev pub Within : ℕ → List Bool → Type 0
Within nodes eligible = (n : ℕ) → eligible_in eligible n ≡ true → n < nodes

-- the nodes taken are marked
pub record Marked (nodes : ℕ) (ws : List Wire) (eligible marks : List Bool) : Type 0 where
  pub marks_long : length marks ≡ max_nodes
  pub marked : (n : ℕ) → get_or marks n false ≡ is_taken (eligible_in eligible) nodes ws n

-- ---- the wires that stay

abbrev pub stays_in : List Bool → Wire → Bool
stays_in marks w = not (get_or marks w.target.node_id false)

-- wire i, if it stays
unfoldable pub staying_at : List Bool → List Wire → ℕ → List Wire
staying_at marks ws i = cond (stays_in marks (get_or ws i no_wire)) (get_or ws i no_wire ∷ []) []
