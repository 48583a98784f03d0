-- `rewrite::counts::fill` meets its contract.
use native.Mathlib.Omega.{arith}
use Rattle.std.proofs.Common.{rules}
use mathlib.Core.Bool.{◌&&◌}
use lib.Dec.{ltb}
use Rattle.records.specs.Access.{wires_of}
use Rattle.rewrite.specs.Counts.{count_in}
use Rattle.rewrite.specs.Linked.{leaves, takes_from, Linked}
use Rattle.rewrite.proofs.Counting.{counts_none}
use Rattle.rewrite.proofs.Linking.{later_start, taken_end, live_end, live_none}
use Rattle.rewrite.proofs.counts.fill.Goals as goal
use Rattle.rewrite.proofs.counts.fill.Goals.{After-link_all}

linked : (c : After-link_all) → Linked (wires_of c.args.wires.now.records.now) (leaves (λ w. takes_from c.args.plan.now.actions c.args.plan.now.details w.source)) c.link_all.new.chains.first c.link_all.new.chains.next 0
linked c = c.link_all.ensures (λ w. takes_from c.args.plan.now.actions c.args.plan.now.details w.source) (λ w r p. search rules)

pub returns-then-not-has_action : goal.returns-then-not-has_action
returns-then-not-has_action c = (counts_none _ _ _ _ c.requires c.args.wires.now.bounded.few_nodes _ c.told-counts (c.has_action.ensures.nowhere c.if-not-has_action.true), live_none _ _ _ _ c.requires c.args.wires.now.bounded.few_nodes _ _ _ (omega arith) (later_start _) (c.has_action.ensures.nowhere c.if-not-has_action.true))

pub link_all-requires-clause-later : goal.link_all-requires-clause-later
link_all-requires-clause-later c = later_start _

pub count_all-requires : goal.count_all-requires
count_all-requires c = (c.requires, taken_end _ _ _ _ c.requires c.args.wires.now.bounded.few_nodes _ _ (linked (goal.at.count_all-requires c).After-link_all))

pub link_all-requires-2-clause-later : goal.link_all-requires-2-clause-later
link_all-requires-2-clause-later c = (linked (goal.at.link_all-requires-2-clause-later c).After-link_all).later

pub returns : goal.returns
returns c = (c.count_all.ensures, live_end _ _ _ _ c.requires c.args.wires.now.bounded.few_nodes _ _ _ (c.link_all-2.ensures (λ w. takes_from c.args.plan.now.actions c.args.plan.now.details w.source && ltb 0 (count_in c.args.plan.now.actions c.count_all.new.counts w.target)) (λ w r p. search rules)))
