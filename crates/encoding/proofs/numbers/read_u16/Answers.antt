-- `encoding::numbers::read_u16` meets its contract.
use native.Mathlib.Omega.{arith}
use Rattle.encoding.specs.Numbers.{number_at}
use Rattle.encoding.proofs.numbers.read_u16.Goals as goal

pub returns : goal.returns
unfolding number_at
returns c = (omega arith, omega arith)
