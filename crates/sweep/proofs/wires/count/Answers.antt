-- `sweep::wires::count` meets its contract.
use mathlib.Core.Path.{refl, ap, ◌∙◌, ◌≡◌}
use Prim.Native.Nat.{◌+◌}
use lib.ListN.{length}
use lib.Seq.{take-length}
use native.Mathlib.Omega.{arith}
use Rattle.records.specs.Access.{wires_of}
use Rattle.model.specs.Maps.{keep}
use Rattle.sweep.specs.Queue.{stays_in}
use Rattle.sweep.proofs.Stays.{counted_more, counted_few}
use Rattle.sweep.proofs.wires.count.Goals as goal

pub loop-i-init : goal.loop-i-init
unfolding keep
loop-i-init c = refl

pub overflow_add-left : goal.overflow_add-left
overflow_add-left c =
    let e = counted_more c.args.taken.now (wires_of c.args.wires.now.records.now) c.loop-i.i c.stays.result (omega arith) c.stays.ensures in
    let f = counted_few c.args.taken.now (wires_of c.args.wires.now.records.now) (c.loop-i.i + 1) in
    record { fits = omega (arith, c.loop-i.invariant, c.from-left.ensures, e, f) }

pub loop-i-preserved : goal.loop-i-preserved
loop-i-preserved c = rw (c.loop-i.invariant, c.from-left.ensures) (counted_more c.args.taken.now (wires_of c.args.wires.now.records.now) c.loop-i.i c.stays.result (omega arith) c.stays.ensures)
