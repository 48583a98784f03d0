-- Trials (document 01, "A trial works on what is known and planned so far, and only adds").
use Rattle.std.specs.Prelude.{ℕ, ◌<◌, ◌≡◌, cond, List, [], ◌∷◌, None}
use Rattle.value.specs.declared.Value.{Value}
use Rattle.graph.specs.Graph.{Graph}
use Rattle.model.specs.Maps.{Map, is_some, put}
use Rattle.model.specs.Inputs.{size}
use Rattle.model.specs.Offer.{PlanAction, Offer, offer}

-- the known values and the plan, by node number
pub record State : Type 0 where
  pub known : Map Value
  pub plan : Map PlanAction

-- "nothing known and nothing planned"
unfoldable pub empty : State
empty = record { known = λ n. None; plan = λ n. None }

unfoldable pub add : State → ℕ → Offer → State
add s n o = record { known = put s.known n o.value; plan = put s.plan n o.plan }

module _ (own : Map Value) (g : Graph) where
  -- "a known node gets nothing more"
  unfoldable pub trial : State → ℕ → State
  trial s n = cond (is_some (s.known n)) s (add s n (offer own g s.known n))

  -- the trials of a list, "one after the other .., each on what the last one left"
  unfoldable pub trials : State → List ℕ → State
  trials s [] = s
  trials s (n ∷ ns) = trials (trial s n) ns

  -- "no trial of any node would then add a known value or a plan"
  abbrev pub Stable : State → Type 0
  Stable s = (n : ℕ) → n < size g → trial s n ≡ s
