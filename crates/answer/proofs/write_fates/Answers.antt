-- `answer::write_fates` meets its contract.
use native.Mathlib.Omega.{arith}
use Rattle.answer.proofs.Fill.{fill_start, fill_room, fill_next}
use Rattle.answer.proofs.write_fates.Goals as goal

pub loop-i-init : goal.loop-i-init
loop-i-init c = fill_start _ _ _ _ c.requires.1

pub write_fate-next-requires : goal.write_fate-next-requires
write_fate-next-requires c = (omega (arith, c.requires.0, c.loop-i-test.true), fill_room c.loop-i.invariant c.loop-i-test.true, c.requires.2)

pub loop-i-preserved : goal.loop-i-preserved
loop-i-preserved c = fill_next c.loop-i.invariant c.loop-i-test.true c.write_fate-next.ensures
