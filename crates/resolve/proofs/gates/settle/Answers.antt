-- `resolve::gates::settle` meets its contract.
use Rattle.resolve.proofs.GateValues.{settle_some, settle_none}
use Rattle.resolve.proofs.gates.settle.Goals as goal

pub returns-then-holds_bool : goal.returns-then-holds_bool
returns-then-holds_bool c = settle_some _ _ _ _ c.holds_bool.ensures c.holds_bool-2.ensures c.holds_bool-3.ensures c.if-holds_bool.true

pub returns : goal.returns
returns c = settle_none _ _ _ _ c.holds_bool.ensures c.holds_bool-2.ensures c.holds_bool-3.ensures c.if-holds_bool.false
