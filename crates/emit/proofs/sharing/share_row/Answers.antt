-- `emit::sharing::share_row` meets its contract.
use Rattle.emit.proofs.SharedChains.{shared_more}
use Rattle.emit.proofs.sharing.share_row.Goals as goal

pub loop-k-preserved : goal.loop-k-preserved
loop-k-preserved c = shared_more c.loop-k.invariant c.share.ensures
