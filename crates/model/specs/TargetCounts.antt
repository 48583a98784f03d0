-- How many unplanned targets a wire leads to, by a table of counts: what the program computes in few steps, where `Rewrite.reach` would list
-- them all.
use Rattle.std.specs.Prelude.{ℕ, zero, suc, ◌+◌, min, cond, List, [], ◌∷◌, eqb, length, Option, None, Some}
use Rattle.ir.specs.Ports.{exec}
use Rattle.ir.specs.declared.PortRef.{PortRef}
use Rattle.model.specs.Maps.{Map}
use Rattle.model.specs.Offer.{PlanAction, BecomeLiteral, ShortCircuit, Truncate}

-- one more than the rewritten wires that an answer may have: counts stop there
abbrev pub count_limit : ℕ
count_limit = 4097

unfoldable pub cap : ℕ → ℕ
cap n = min n count_limit

unfoldable pub capped_length : Option (List PortRef) → Option ℕ
capped_length None = None
capped_length (Some xs) = Some (cap (length xs))

unfoldable pub plus : Option ℕ → Option ℕ → Option ℕ
plus None o = None
plus (Some m) None = None
plus (Some m) (Some n) = Some (cap (m + n))

unfoldable pub total : (PortRef → Option ℕ) → List PortRef → Option ℕ
total f [] = Some 0
total f (e ∷ es) = plus (f e) (total f es)

-- the count at e, by the plan of its node and the table of the Branches' counts
unfoldable pub count_at : (ℕ → Option ℕ) → Option PlanAction → PortRef → Option ℕ
count_at table None e = Some 1
count_at table (Some (BecomeLiteral v)) e = Some 0
count_at table (Some (ShortCircuit s)) e = Some 0
count_at table (Some (Truncate ts)) e = cond (eqb e.port exec) (table e.node_id) (Some 0)

unfoldable pub taken_targets : Option PlanAction → List PortRef
taken_targets None = []
taken_targets (Some (BecomeLiteral v)) = []
taken_targets (Some (ShortCircuit s)) = []
taken_targets (Some (Truncate ts)) = ts

-- one round: each Branch's count from the counts of the round before
unfoldable pub round : Map PlanAction → (ℕ → Option ℕ) → ℕ → Option ℕ
round p table b = total (λ e. count_at table (p e.node_id) e) (taken_targets (p b))

-- the table after k rounds, from one that has no count
unfoldable pub rounds : Map PlanAction → ℕ → ℕ → Option ℕ
rounds p zero = λ b. None
rounds p (suc k) = round p (rounds p k)
