-- `worklist::queue::push` meets its contract.
use mathlib.Core.Path.{refl}
use Rattle.worklist.proofs.queue.push.Goals as goal

pub returns : goal.returns
returns c = refl
