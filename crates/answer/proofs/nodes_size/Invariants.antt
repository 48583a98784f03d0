-- `answer::nodes_size` meets its contract.
use Prim.Native.Nat.{ℕ, ◌+◌, ◌*◌, ◌≤◌}
use mathlib.Core.Path.{◌≡◌}
use mathlib.Core.List.{List}
use lib.ListN.{length}
use Rattle.answer.specs.Nodes.{known_records, fate_records}
use Rattle.answer.proofs.nodes_size.Given as goal

abbrev pub invariant-loop-i : goal.invariant-loop-i
invariant-loop-i l = (l.sum ≤ 72 * l.i) × ((words : List ℕ) → l.sum ≡ length (known_records l.kinds words l.i) + length (fate_records l.kinds words l.actions l.i))
