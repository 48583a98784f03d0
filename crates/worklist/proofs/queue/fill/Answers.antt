-- `worklist::queue::fill` meets its contract.
use borrow.Author.Rules.{rules}
use Rattle.model.specs.Maps.{up_to}
use Rattle.worklist.proofs.Queues.{fill_on}
use Rattle.worklist.proofs.queue.fill.Goals as goal

pub loop-n-init : goal.loop-n-init
unfolding up_to
loop-n-init c = c.requires.1

pub loop-n-preserved : goal.loop-n-preserved
loop-n-preserved c = fill_on (search rules) c.loop-n.invariant
