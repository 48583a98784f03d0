-- `gate_cases::mezburiko_gate_case` meets its contract.
use mathlib.Core.Path.{refl}
use Rattle.gate_cases.specs.Cases.{zeros}
use Rattle.gate_cases.proofs.mezburiko_gate_case.Goals as goal

pub write_given-requires : goal.write_given-requires
unfolding zeros
write_given-requires c = refl

pub returns : goal.returns
returns c = rw (c.write_given.ensures, c.eval_in.ensures.rule, c.operand_at-c.ensures, c.operand_at-b.ensures, c.operand_at-a.ensures)
