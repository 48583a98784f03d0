-- `rewrite::counts::Search::visit` meets its contract.
use Prim.Native.Nat.{◌+◌, ◌*◌, ◌≤◌}
use lib.ListN.{get_or}
use Rattle.records.specs.Access.{wires_of}
use Rattle.rewrite.specs.Counts.{no_count}
use Rattle.rewrite.specs.Search.{unseen_in, Visited}
use Rattle.rewrite.proofs.counts.Search.visit.Given as goal

abbrev pub invariant-loop-self : goal.invariant-loop-self
invariant-loop-self l =
    Visited (wires_of l.wires.records.now) l.actions l.next l.fn.self l.self × (get_or l.self.counts l.node 0 ≤ no_count)

abbrev pub decreases-loop-self : goal.decreases-loop-self
decreases-loop-self l = 2 * unseen_in l.self.counts + l.self.depth
