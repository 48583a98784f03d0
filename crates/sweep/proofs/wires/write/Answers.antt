-- `sweep::wires::write` meets its contract.
use Prim.Native.Nat.{◌<◌}
use lib.ListN.{length}
use native.Mathlib.Omega.{arith}
use Rattle.records.specs.Access.{wires_of}
use Rattle.answer.proofs.Fill.{fill_start, fill_room, fill_next, fill_end}
use Rattle.sweep.proofs.Stays.{staying_each, staying_room}
use Rattle.sweep.proofs.wires.write.Goals as goal

pub loop-i-init : goal.loop-i-init
loop-i-init c = fill_start _ _ _ _ (staying_room c.args.taken.now (wires_of c.args.wires.now.records.now) _ _ c.requires)

pub write_one-past-requires : goal.write_one-past-requires
write_one-past-requires c = let h : c.loop-i.i < length (wires_of c.args.wires.now.records.now) = omega arith in (h, fill_room c.loop-i.invariant h)

pub loop-i-preserved : goal.loop-i-preserved
loop-i-preserved c = fill_next c.loop-i.invariant (omega arith) c.write_one-past.ensures

pub returns : goal.returns
returns c = rw (staying_each c.args.taken.now (wires_of c.args.wires.now.records.now)) at (fill_end c.loop-i.invariant (omega arith))
