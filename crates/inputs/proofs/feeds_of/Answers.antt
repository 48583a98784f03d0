-- `inputs::feeds_of` meets its contract.
use mathlib.Core.Path.{refl}
use Rattle.inputs.proofs.Chains.{feeds_none, feeds_one, feeds_many}
use Rattle.inputs.proofs.feeds_of.Goals as goal

pub returns-then-code-eq0 : goal.returns-then-code-eq0
returns-then-code-eq0 c = feeds_none _ _ _ (rw c.from.ensures) c.if-code-eq0.true

pub returns-then-feeds-from-ne0 : goal.returns-then-feeds-from-ne0
returns-then-feeds-from-ne0 c = feeds_many _ _ _ (rw c.from.ensures) c.if-code-eq0.false c.from-2.ensures c.if-feeds-from-ne0.true

pub returns : goal.returns
returns c = feeds_one _ _ _ (rw c.from.ensures) c.if-code-eq0.false refl (rw c.from-2.ensures at c.if-feeds-from-ne0.false)
