-- `resolve::try_resolve_literal` meets its contract.
use Rattle.resolve.proofs.Trials.{nothing_known}
use Rattle.resolve.proofs.try_resolve_literal.Goals as goal

pub returns-in_default : goal.returns-in_default
returns-in_default c = λ g n. nothing_known g n c.in_default.is
