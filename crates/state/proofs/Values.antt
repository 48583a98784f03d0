-- What the arrays say of a node.
use Rattle.std.specs.Prelude.{None, Some}
use Prim.Native.Nat.{ℕ, ◌+◌, ◌*◌}
use mathlib.Core.Path.{◌≡◌, refl}
use mathlib.Core.List.{List}
use lib.ListN.{get_or}
use borrow.Author.Tests.{ne_eqb}
use Rattle.encoding.specs.Words.{held_by}
use Rattle.encoding.specs.declared.words.Words.{Words}
use Rattle.state.specs.Held.{held, known_of}

module _ (kinds words : List ℕ) (n : ℕ) where
  pub unknown_at : get_or kinds n 0 ≡ 0 → known_of kinds words n ≡ None
  unfolding known_of held
  unknown_at e = rw e refl

  pub known_at : {w : Words} → (get_or kinds n 0 ≡ 0 → ⊥) → w ≡ record { a = get_or words (4 * n) 0; b = get_or words (4 * n + 1) 0; c = get_or words (4 * n + 2) 0; d = get_or words (4 * n + 3) 0 } → known_of kinds words n ≡ Some (held_by (get_or kinds n 0) w)
  unfolding known_of held
  known_at k e = rw (ne_eqb (get_or kinds n 0) 0 k, e) refl
