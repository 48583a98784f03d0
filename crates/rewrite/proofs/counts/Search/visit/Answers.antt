-- `rewrite::counts::Search::visit` meets its contract.
use Rattle.rewrite.proofs.Visits.{visit_on, visit_enters, enters_seen}
use Rattle.rewrite.proofs.counts.Search.visit.Goals as goal

pub loop-self-init : goal.loop-self-init
loop-self-init c =
    rw c.enter.ensures (visit_enters _ _ _ _ _ c.if-actions-node-ne-TRUNCATE.false c.if-self-node-ne-UNSEEN.false c.requires.0 c.requires.1, enters_seen _ _ _ _ _ c.if-actions-node-ne-TRUNCATE.false c.if-self-node-ne-UNSEEN.false c.requires.0 c.requires.1)

pub loop-self-preserved : goal.loop-self-preserved
loop-self-preserved c = (visit_on _ _ _ _ _ _ c.loop-self.invariant.0 c.step.ensures, c.step.ensures.seen _ c.loop-self.invariant.1)
