-- `rewrite::tally::weigh` meets its contract.
use Rattle.rewrite.proofs.Tallying.{weigh_targets, weigh_source}
use Rattle.rewrite.proofs.tally.weigh.Goals as goal

pub returns-then-count : goal.returns-then-count
returns-then-count c = weigh_targets _ _ _ _ _ _ _ c.wire-wire.ensures c.requires.0 c.count_at-count.ensures c.if-count.true

pub returns : goal.returns
returns c = weigh_source _ _ _ _ _ _ _ c.wire-wire.ensures c.requires.0 c.count_at-count.ensures _ _ c.by_origin.ensures c.if-count.false (λ n details p. c.origin.ensures n details p.shaped p.origins)
