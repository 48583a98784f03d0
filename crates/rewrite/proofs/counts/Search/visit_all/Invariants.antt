-- `rewrite::counts::Search::visit_all` meets its contract.
use Prim.Native.Nat.{ℕ, ◌<◌, ◌≤◌}
use mathlib.Core.Path.{◌≡◌}
use lib.ListN.{get_or}
use Rattle.records.specs.Access.{wires_of}
use Rattle.rewrite.specs.Counts.{no_count}
use Rattle.rewrite.specs.Search.{Visited}
use Rattle.rewrite.proofs.counts.Search.visit_all.Given as goal

abbrev pub invariant-loop-node : goal.invariant-loop-node
invariant-loop-node l =
    Visited (wires_of l.wires.records.now) l.actions l.next l.initial.self l.self × (l.self.depth ≡ 0) × ((b : ℕ) → b < l.node → get_or l.actions b 0 ≡ 3 → get_or l.self.counts b 0 ≤ no_count)
