-- `table::mark_number` meets its contract.
use native.Mathlib.Omega.{arith}
use Rattle.table.proofs.Bits.{marks}
use Rattle.table.proofs.mark_number.Goals as goal

pub returns : goal.returns
returns c = marks c.args.cells.now c.args.n (omega (arith, c.requires.0, c.requires.1))
