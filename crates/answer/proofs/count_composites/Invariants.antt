-- `answer::count_composites` meets its contract.
use Prim.Native.Nat.{ℕ, ◌+◌, ◌*◌, ◌≤◌}
use mathlib.Core.Path.{◌≡◌}
use mathlib.Core.List.{List}
use lib.ListN.{length}
use Rattle.answer.specs.Nodes.{known_records, fate_records, composite_count}
use Rattle.answer.proofs.count_composites.Given as goal

abbrev pub invariant-loop-i : goal.invariant-loop-i
invariant-loop-i l = (l.count ≤ l.i) × ((words actions : List ℕ) → length (known_records l.kinds words l.i) + length (fate_records l.kinds words actions l.i) ≤ 23 * l.i + 48 * l.count) × (l.count ≡ composite_count l.kinds l.i)
