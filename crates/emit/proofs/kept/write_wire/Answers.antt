-- `emit::kept::write_wire` meets its contract.
use native.Mathlib.Omega.{arith}
use mathlib.Core.Path.{ap}
use lib.ListN.{length, get_or}
use Rattle.records.specs.Access.{wires_of, no_wire}
use Rattle.model.proofs.Each.{wires_size}
use Rattle.rewrite.specs.Tallied.{kept_wire}
use Rattle.emit.proofs.Copying.{wire_goes, wire_stays}
use Rattle.emit.proofs.Writing.{written_one, written_nothing}
use Rattle.emit.proofs.kept.write_wire.Goals as goal

pub returns-then-actions-target-ne-KEPT : goal.returns-then-actions-target-ne-KEPT
returns-then-actions-target-ne-KEPT c = written_nothing (wire_goes c.args.actions.now c.get-wire.ensures c.if-actions-target-ne-KEPT.true) (omega (arith, c.requires.1))

pub write_wire-requires : goal.write_wire-requires
write_wire-requires c =
    let e = wire_stays c.args.actions.now c.get-wire.ensures c.if-actions-target-ne-KEPT.false c.source_port.ensures in
    omega (arith, c.requires.1, wires_size (kept_wire c.args.actions.now (get_or (wires_of c.args.wires.now.records.now) c.args.i no_wire)), ap length e)

pub returns : goal.returns
returns c = written_one (wire_stays c.args.actions.now c.get-wire.ensures c.if-actions-target-ne-KEPT.false c.source_port.ensures) c.write_wire.ensures.written
