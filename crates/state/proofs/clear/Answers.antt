-- `state::clear` meets its contract.
use Rattle.state.proofs.Stores.{cleared}
use Rattle.state.proofs.clear.Goals as goal

pub returns : goal.returns
returns c = let k = c.new.ensures in let p = c.new-2.ensures in λ g. rw (k.kinds, k.words, p.actions, p.details) (cleared g)
