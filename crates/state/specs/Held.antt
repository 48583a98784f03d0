-- How arrays hold the known values: the kind of each node's value, 0 where none is known, and four words for each node.
use Rattle.std.specs.Prelude.{ℕ, ◌+◌, ◌*◌, ◌<◌, ◌≡◌, ◌⊎◌, cond, List, eqb, get_or, Option, None, Some}
use Rattle.ir.specs.Kinds.{role_of}
use Rattle.ir.specs.declared.Role.TheVariants.{Property}
use Rattle.value.specs.declared.Value.{Value}
use Rattle.encoding.specs.Words.{held_value}
use Rattle.model.specs.Maps.{Map}

-- the kind of a value's record, or 0
abbrev pub is_kind : ℕ → Type 0
is_kind kind = (kind ≡ 0) ⊎ (role_of kind ≡ Property)

-- the value of a kind that these words hold, where one is known
unfoldable pub held : ℕ → ℕ → ℕ → ℕ → ℕ → Option Value
held kind a b c d = cond (eqb kind 0) None (Some (held_value kind a b c d))

-- the known values that the arrays hold
unfoldable pub known_of : List ℕ → List ℕ → Map Value
known_of kinds words =
    λ n. held (get_or kinds n 0) (get_or words (4 * n) 0) (get_or words (4 * n + 1) 0) (get_or words (4 * n + 2) 0) (get_or words (4 * n + 3) 0)

-- one of the kinds or actions of the first n nodes is above a bound
pub record Above (bytes : List ℕ) (n bound : ℕ) : Type 0 where
  pub node : ℕ
  pub within : node < n
  pub above : bound < get_or bytes node 0
