-- `sheet_line::place_of` meets its contract.
use mathlib.Core.Path.{refl}
use borrow.Author.Tests.{lt-ltb, le-ltb}
use Rattle.sheet_line.proofs.place_of.Goals as goal

pub returns-then-n-unit : goal.returns-then-n-unit
returns-then-n-unit c = rw (lt-ltb _ _ c.if-n-unit.true) refl

pub returns : goal.returns
returns c = rw (le-ltb _ _ c.if-n-unit.false) c.digit_of.ensures
