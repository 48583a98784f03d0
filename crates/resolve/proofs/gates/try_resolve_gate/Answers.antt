-- `resolve::gates::try_resolve_gate` meets its contract.
use mathlib.Core.Path.{sym}
use Rattle.resolve.proofs.Trials.{becomes_literal}
use Rattle.resolve.proofs.GateValues.{gate_settled, gate_evaluated, same_value}
use mathlib.Core.Path.{refl}
use Rattle.resolve.proofs.gates.try_resolve_gate.Goals as goal

pub returns-in_default : goal.returns-in_default
returns-in_default c =
    same_value _ _ c.args.gate.class _ (gate_settled _ _ _ c.evaluate.result c.evaluate.ensures _ c.in_default.is refl) c.settle_gate.ensures

pub returns : goal.returns
returns c =
    becomes_literal _ _ (sym (gate_evaluated _ _ _ c.evaluate.result c.evaluate.ensures c.in-Some.is))
