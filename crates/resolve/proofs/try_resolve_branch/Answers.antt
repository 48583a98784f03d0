-- `resolve::try_resolve_branch` meets its contract.
use Rattle.resolve.proofs.Trials.{no_branch, truncates}
use Rattle.resolve.proofs.try_resolve_branch.Goals as goal

pub returns-in_default : goal.returns-in_default
returns-in_default c = no_branch _ _ c.resolve_condition.ensures c.in_default.is

pub returns : goal.returns
returns c = truncates _ _ c.resolve_condition.ensures c.in-Some.is c.taken_port-taken.ensures
