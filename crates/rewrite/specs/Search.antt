-- The search that finds the Branches' counts: depth first along the taken wires, with the Branches that wait for a count on a stack. A Branch is
-- unseen, then without a count while it waits, and then has its count. One that is found without a count closes a cycle, and all that wait lead
-- into it.
use Rattle.std.specs.Prelude.{ℕ, suc, ◌+◌, ◌-◌, ◌*◌, ◌<◌, ◌≤◌, ◌≡◌, true, false, cond, ◌⊎◌, eqb, length, get_or, Option, Some}
use mathlib.Core.List.{List, [], ◌∷◌, ◌++◌, map, Memᴰ}
use Rattle.ir.specs.Limits.{max_nodes}
use Rattle.ir.specs.Ports.{exec}
use Rattle.ir.specs.declared.PortRef.{PortRef}
use Rattle.ir.specs.declared.Wire.{Wire}
use Rattle.graph.specs.Graph.{member}
use Rattle.records.specs.Access.{no_wire}
use Rattle.model.specs.Maps.{All, Distinct}
use Rattle.model.specs.TargetCounts.{plus, total, rounds}
use Rattle.wire_index.specs.Chains.{Chain}
use Rattle.state.specs.Planned.{targets_in, shape_of}
use Rattle.rewrite.specs.Counts.{no_count, entry, count_in}
use Rattle.rewrite.specs.Taken.{taken_wires, Later}
use Rattle.rewrite.specs.declared.counts.Reached.{Reached}
use Rattle.rewrite.specs.declared.counts.Search.{Search}

-- what a Branch has before the search comes to it
abbrev pub unseen : ℕ
unseen = 4099

unfoldable pub unseen_in : List ℕ → ℕ
unseen_in [] = 0
unseen_in (c ∷ cs) = cond (eqb c unseen) (suc (unseen_in cs)) (unseen_in cs)

-- the sum of the counts at the targets of wires
unfoldable pub sum_of : List ℕ → List ℕ → List Wire → Option ℕ
sum_of actions counts xs = total (λ e. entry (count_in actions counts e)) (map (λ w. w.target) xs)

-- a walk along the chain of xs: past some wires, whose counts it adds up
pub record Walked (ws : List Wire) (actions counts next : List ℕ) (xs : List Wire) (sum : ℕ) (r : Reached) : Type 0 where
  pub passed : List Wire
  pub rest : List Wire
  pub split : xs ≡ passed ++ rest
  pub chain : Chain ws next r.code rest
  pub sums : plus (Some sum) (sum_of actions counts passed) ≡ Some r.sum

-- the same of any chain from a code on: it stops at a wire without a count or at the end
pub record Walks (ws : List Wire) (actions counts next : List ℕ) (code sum : ℕ) (r : Reached) : Type 0 where
  pub low : r.sum < no_count
  pub within : r.code ≤ length ws
  pub stops : 0 < r.code → no_count ≤ count_in actions counts (get_or ws (r.code - 1) no_wire).target
  pub along : (xs : List Wire) → Chain ws next code xs → Walked ws actions counts next xs sum r

module _ (ws : List Wire) (actions details : List ℕ) where
  -- planned Branch b takes a target at the Exec of planned Branch c
  pub record Waits (b c : ℕ) : Type 0 where
    pub target : PortRef
    pub taken : Memᴰ target (targets_in ws b (get_or details b 0))
    pub there : target.node_id ≡ c
    pub enters : target.port ≡ exec
    pub branch : get_or actions c 0 ≡ 3

  -- a Branch on the stack: the taken wires that are passed, with their sum, and the chain of the others
  pub record Frame (first next counts sums : List ℕ) (b : ℕ) : Type 0 where
    pub branch : get_or actions b 0 ≡ 3
    pub pending : get_or counts b 0 ≡ no_count
    pub passed : List Wire
    pub rest : List Wire
    pub split : taken_wires ws details b ≡ passed ++ rest
    pub chain : Chain ws next (get_or first b 0) rest
    pub sum : sum_of actions counts passed ≡ Some (get_or sums b 0)

  -- the Branch on top of the stack waits for c
  abbrev pub Above : ℕ → List ℕ → Type 0
  Above c [] = Unit {0}
  Above c (b ∷ bs) = Waits b c

  -- each Branch on the stack waits for the one above it
  abbrev pub Waiting : List ℕ → Type 0
  Waiting [] = Unit {0}
  Waiting (b ∷ bs) = Above b bs × Waiting bs

  -- a Branch that leads into a cycle: it waits for one without a count that is not on the stack
  pub record Blocked (counts path : List ℕ) (b : ℕ) : Type 0 where
    pub by : ℕ
    pub waits : Waits b by
    pub uncounted : get_or counts by 0 ≡ no_count
    pub off : member by path ≡ false

-- the stack, from the top down
abbrev pub Stacked : List ℕ → ℕ → List ℕ → Type 0
Stacked stack depth [] = depth ≡ 0
Stacked stack depth (b ∷ bs) = (d : ℕ) × (depth ≡ suc d) × (get_or stack d 0 ≡ b) × Stacked stack d bs

pub record Searching (ws : List Wire) (actions details first next counts sums stack : List ℕ) (depth : ℕ) : Type 0 where
  pub actions_long : length actions ≡ max_nodes
  pub first_long : length first ≡ max_nodes
  pub counts_long : length counts ≡ max_nodes
  pub sums_long : length sums ≡ max_nodes
  pub stack_long : length stack ≡ max_nodes
  pub actions_listed : (m : ℕ) → get_or actions m 0 ≤ 3
  pub later : Later ws next
  pub listed : (b : ℕ) → get_or counts b 0 ≤ unseen
  pub ahead : (b : ℕ) → get_or actions b 0 ≡ 3 → get_or counts b 0 ≡ unseen → Chain ws next (get_or first b 0) (taken_wires ws details b)
  pub level : ℕ
  pub sound : (b : ℕ) → get_or actions b 0 ≡ 3 → get_or counts b 0 < no_count → rounds (shape_of ws actions details) level b ≡ Some (get_or counts b 0)
  pub path : List ℕ
  pub stacked : Stacked stack depth path
  pub distinct : Distinct path
  pub frames : All (Frame ws actions details first next counts sums) path
  pub waiting : Waiting ws actions details path
  pub stuck : (b : ℕ) → get_or actions b 0 ≡ 3 → get_or counts b 0 ≡ no_count → (member b path ≡ true) ⊎ Blocked ws actions details counts path b

-- the search stands so, of some plan's details
pub record Sought (ws : List Wire) (actions next : List ℕ) (s : Search) : Type 0 where
  pub details : List ℕ
  pub searching : Searching ws actions details s.first next s.counts s.sums s.stack s.depth

-- one step of the search, of whatever plan: it goes on, and comes nearer to its end
pub record Stepped (ws : List Wire) (actions next : List ℕ) (s t : Search) : Type 0 where
  pub goes : (details : List ℕ) → Searching ws actions details s.first next s.counts s.sums s.stack s.depth → Searching ws actions details t.first next t.counts t.sums t.stack t.depth
  pub seen : (b : ℕ) → get_or s.counts b 0 ≤ no_count → get_or t.counts b 0 ≤ no_count
  pub less : 2 * unseen_in t.counts + t.depth < 2 * unseen_in s.counts + s.depth

-- a search between two states, of whatever plan
pub record Visited (ws : List Wire) (actions next : List ℕ) (s t : Search) : Type 0 where
  pub sought : Sought ws actions next t
  pub goes : (details : List ℕ) → Searching ws actions details s.first next s.counts s.sums s.stack s.depth → Searching ws actions details t.first next t.counts t.sums t.stack t.depth
  pub seen : (b : ℕ) → get_or s.counts b 0 ≤ no_count → get_or t.counts b 0 ≤ no_count
