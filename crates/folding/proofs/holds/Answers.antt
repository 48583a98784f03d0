-- `folding::holds` meets its contract.
use native.Mathlib.Omega.{arith}
use mathlib.Core.Path.{◌≡◌, refl, sym, ◌∙◌}
use mathlib.Core.Bool.{Bool, true, false}
use Prim.Native.Nat.{ℕ, ◌+◌, ◌-◌, ◌≤◌, ◌<◌}
use lib.Dec.{leb}
use borrow.Author.Tests.{leb-true, leb-false, le-leb, lt-leb}
use Rattle.folding.proofs.holds.Goals as goal

-- what is taken off the room is added to the size
module _ (size more room : ℕ) where
  moved : more ≤ room → leb size (room - more) ≡ leb (size + more) room
  moved h = go (leb size (room - more)) refl
    where
      go : (b : Bool) → leb size (room - more) ≡ b → b ≡ leb (size + more) room
      go true e = sym (le-leb (size + more) room (omega (arith, leb-true size (room - more) e)))
      go false e = sym (lt-leb (size + more) room (omega (arith, leb-false size (room - more) e)))

  over : room < more → false ≡ leb (size + more) room
  over h = sym (lt-leb (size + more) room (omega arith))

pub returns-then-wires-room : goal.returns-then-wires-room
returns-then-wires-room c words = c.nodes_fit.ensures words ∙ moved _ _ _ c.if-wires-room.true

pub returns-else-wires-room : goal.returns-else-wires-room
returns-else-wires-room c words = lt-leb _ _ c.if-wires-room.false ∙ over _ _ _ c.if-wires-room.false
