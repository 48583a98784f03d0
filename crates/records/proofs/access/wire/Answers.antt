-- `records::access::wire` meets its contract.
use native.Mathlib.Omega.{arith}
use mathlib.Core.Path.{◌∙◌, sym}
use Rattle.records.proofs.Runs.{wires_length, wires_at_lem}
use Rattle.records.proofs.access.wire.Goals as goal

pub overflow_mul-j : goal.overflow_mul-j
overflow_mul-j c = omega (arith, wires_length c.args.records.now)

pub read_wire-requires : goal.read_wire-requires
read_wire-requires c = omega (arith, wires_length c.args.records.now)

pub returns : goal.returns
returns c = c.read_wire.ensures ∙ sym (wires_at_lem _ _ c.requires)
