-- `sweep::wires::write_one` meets its contract.
use mathlib.Core.Path.{ap}
use lib.ListN.{length}
use native.Mathlib.Omega.{arith}
use Rattle.records.specs.Access.{wires_of}
use Rattle.model.proofs.Each.{wires_size}
use Rattle.sweep.specs.Queue.{staying_at}
use Rattle.sweep.proofs.Stays.{staying_yes, staying_no, written_one, written_nothing}
use Rattle.sweep.proofs.wires.write_one.Goals as goal

pub write_wire-requires : goal.write_wire-requires
write_wire-requires c =
    let e = staying_yes c.args.taken.now (wires_of c.args.wires.now.records.now) c.args.i c.stays.ensures c.if-stays.true in
    omega (arith, c.requires.1, wires_size (staying_at c.args.taken.now (wires_of c.args.wires.now.records.now) c.args.i), ap length e)

pub returns-then-stays : goal.returns-then-stays
returns-then-stays c = written_one (staying_yes c.args.taken.now (wires_of c.args.wires.now.records.now) c.args.i c.stays.ensures c.if-stays.true) c.get.ensures c.write_wire.ensures.written

pub returns : goal.returns
returns c = written_nothing (staying_no c.args.taken.now (wires_of c.args.wires.now.records.now) c.args.i c.stays.ensures c.if-stays.false) (omega (arith, c.requires.1))
