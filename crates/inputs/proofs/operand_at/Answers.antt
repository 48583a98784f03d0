-- `inputs::operand_at` meets its contract.
use native.Mathlib.Omega.{arith}
use Rattle.inputs.proofs.operand_at.Goals as goal

pub returns : goal.returns
returns c i l = c.load_operand.ensures i l (omega (arith, c.if-located-le-BOOL.false))
