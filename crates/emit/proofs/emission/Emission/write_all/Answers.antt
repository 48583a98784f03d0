-- `emit::emission::Emission::write_all` meets its contract.
use native.Mathlib.Omega.{arith}
use Prim.Native.Nat.{◌<◌}
use lib.ListN.{length}
use Rattle.model.proofs.Each.{wires_size}
use Rattle.answer.proofs.Fill.{fill_start, fill_room, fill_next, fill_end}
use Rattle.emit.specs.Emission.{wires_in, wires_for}
use Rattle.emit.proofs.Writing.{whole_room, whole_written}
use Rattle.emit.proofs.emission.Emission.write_all.Goals as goal

pub loop-i-init : goal.loop-i-init
loop-i-init c = ((c.new-stack.ensures.height, c.new-stack.ensures.long), fill_start _ _ _ _ (whole_room c.requires.0 _ _ c.requires.1))

pub write_wire-past-requires : goal.write_wire-past-requires
write_wire-past-requires c =
    let h : c.loop-i.i < length (wires_in c.args.self.now) = omega arith in
    record {
      prepared = c.requires.0;
      within = h;
      empty = c.loop-i.invariant.0;
      room = omega (arith, fill_room c.loop-i.invariant.1 h, wires_size (wires_for c.args.self.now c.loop-i.i));
    }

pub loop-i-preserved : goal.loop-i-preserved
loop-i-preserved c = (c.write_wire-past.ensures.empty, fill_next c.loop-i.invariant.1 (omega arith) c.write_wire-past.ensures.written)

pub returns : goal.returns
returns c = whole_written c.requires.0 (fill_end c.loop-i.invariant.1 (omega arith))
