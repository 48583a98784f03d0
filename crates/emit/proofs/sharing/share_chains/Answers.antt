-- `emit::sharing::share_chains` meets its contract.
use Rattle.emit.proofs.SharedChains.{shared_more}
use Rattle.emit.proofs.sharing.share_chains.Goals as goal

pub loop-b-preserved : goal.loop-b-preserved
loop-b-preserved c = (shared_more c.loop-b.invariant.0 c.share_row.ensures.0, c.share_row.ensures.1)
