-- `worklist::queue::Queue::rest` meets its contract.
use mathlib.Core.Path.{refl}
use Rattle.worklist.proofs.queue.Queue.rest.Goals as goal

pub returns : goal.returns
returns c = refl
