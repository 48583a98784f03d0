-- `ieee::sanitize` meets its contract.
use Rattle.std.proofs.Common.{rules}
use Rattle.ieee.specs.Finite.{finite_of, sanitize_of}
use Rattle.ieee.proofs.sanitize.Goals as goal

pub returns-then-is_finite : goal.returns-then-is_finite
unfolding sanitize_of finite_of
returns-then-is_finite c = search (rules, c.is_finite.ensures)

pub returns-else-is_finite : goal.returns-else-is_finite
unfolding sanitize_of finite_of
returns-else-is_finite c = search (rules, c.is_finite.ensures)
