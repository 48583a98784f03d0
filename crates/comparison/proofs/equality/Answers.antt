-- `comparison::equality` meets its contract.
use Rattle.comparison.proofs.Laws.{equality_as}
use Rattle.comparison.proofs.equality.Goals as goal

pub returns-in_default : goal.returns-in_default
returns-in_default c = rw (← equality_as, ← c.or_default.ensures, c.in_default.is-0, ← c.or_default-2.ensures, c.in_default.is-1)

pub returns-in_default-2 : goal.returns-in_default-2
returns-in_default-2 c = rw (← equality_as, ← c.or_default.ensures, c.in_default.is-0)

pub returns-in_default-eq_value : goal.returns-in_default-eq_value
returns-in_default-eq_value c =
    rw (← equality_as, ← c.or_default.ensures, c.in-Some-Some.is-0, ← c.or_default-2.ensures, c.in-Some-Some.is-1, ← c.eq_value.ensures, c.in_default-eq_value.is)

pub returns : goal.returns
returns c =
    rw (← equality_as, ← c.or_default.ensures, c.in-Some-Some.is-0, ← c.or_default-2.ensures, c.in-Some-Some.is-1, ← c.eq_value.ensures, c.in-Some.is)
