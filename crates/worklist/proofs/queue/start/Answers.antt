-- `worklist::queue::start` meets its contract.
use mathlib.Core.Path.{refl}
use Rattle.worklist.proofs.Queues.{queued_none, filled}
use Rattle.worklist.proofs.queue.start.Goals as goal

pub fill-requires : goal.fill-requires
fill-requires c = let p = c.requires in (p.0, queued_none p.1 c.new.ensures)

pub returns : goal.returns
returns c = filled c.new.ensures c.fill.ensures refl
