-- `text::Text::is_digits` meets its contract.
use Rattle.text.proofs.Digits.{Partial}
use Rattle.text.proofs.Text.is_digits.Given as goal

abbrev pub invariant-loop-rest : goal.invariant-loop-rest
invariant-loop-rest l = Partial l.n l.rest l.digits.low l.digits.high

abbrev pub decreases-loop-rest : goal.decreases-loop-rest
decreases-loop-rest l = l.rest
