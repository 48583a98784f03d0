-- `answer::write_known_records` meets its contract.
use native.Mathlib.Omega.{arith}
use Rattle.answer.proofs.Fill.{fill_start, fill_room, fill_next}
use Rattle.answer.proofs.write_known_records.Goals as goal

pub loop-i-init : goal.loop-i-init
loop-i-init c = fill_start _ _ _ _ c.requires.1

pub write_known-next-requires : goal.write_known-next-requires
write_known-next-requires c = (omega (arith, c.requires.0, c.loop-i-test.true), fill_room c.loop-i.invariant c.loop-i-test.true, c.requires.2)

pub loop-i-preserved : goal.loop-i-preserved
loop-i-preserved c = fill_next c.loop-i.invariant c.loop-i-test.true c.write_known-next.ensures
