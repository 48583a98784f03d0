-- `sweep::wires::count` meets its contract.
use mathlib.Core.Path.{◌≡◌}
use lib.ListN.{length, take}
use Rattle.records.specs.Access.{wires_of}
use Rattle.model.specs.Maps.{keep}
use Rattle.sweep.specs.Queue.{stays_in}
use Rattle.sweep.proofs.wires.count.Given as goal

abbrev pub invariant-loop-i : goal.invariant-loop-i
invariant-loop-i l = l.left ≡ length (keep (stays_in l.taken) (take l.i (wires_of l.wires.records.now)))
