-- `emit::kept::write_each` meets its contract.
use native.Mathlib.Omega.{arith}
use Prim.Native.Nat.{◌<◌}
use lib.ListN.{length}
use Rattle.records.specs.Access.{wires_of}
use Rattle.answer.proofs.Fill.{fill_start, fill_room, fill_next, fill_end}
use Rattle.emit.proofs.Copying.{kept_room, kept_each}
use Rattle.emit.proofs.kept.write_each.Goals as goal

pub loop-i-init : goal.loop-i-init
loop-i-init c = fill_start _ _ _ _ (kept_room c.requires c.args.actions.now)

pub write_wire-past-requires : goal.write_wire-past-requires
write_wire-past-requires c = let h : c.loop-i.i < length (wires_of c.args.wires.now.records.now) = omega arith in (h, fill_room c.loop-i.invariant h)

pub loop-i-preserved : goal.loop-i-preserved
loop-i-preserved c = fill_next c.loop-i.invariant (omega arith) c.write_wire-past.ensures

pub returns : goal.returns
returns c = rw (kept_each c.requires c.args.actions.now) at (fill_end c.loop-i.invariant (omega arith))
