-- `resolve::passed` meets its contract.
use borrow.Author.Rules.{rules}
use Rattle.resolve.proofs.Trials.{nothing_known, not_known}
use Rattle.resolve.proofs.passed.Goals as goal

pub returns-in_default : goal.returns-in_default
returns-in_default c = λ g n. nothing_known g n (not_known c.args.input (search rules))
