-- `resolve::set_to` meets its contract.
use Rattle.std.proofs.Common.{arith}
use Rattle.std.proofs.lemmas.Bool.Decides.{nat_tests}
use Rattle.resolve.proofs.Trials.{nothing_known}
use Rattle.resolve.proofs.set_to.Goals as goal

pub returns-in_default : goal.returns-in_default
returns-in_default c = λ g n. nothing_known g n (grind (arith, nat_tests))
