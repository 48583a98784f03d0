-- `rewrite::tally::count_kept` meets its contract.
use native.Mathlib.Omega.{arith}
use Rattle.records.proofs.Runs.{wires_length}
use Rattle.rewrite.proofs.KeptTargets.{counting_next, counting_end}
use Rattle.rewrite.proofs.tally.count_kept.Goals as goal

pub wire-requires : goal.wire-requires
wire-requires c = omega (arith, wires_length c.args.records.now)

pub loop-i-preserved : goal.loop-i-preserved
loop-i-preserved c = counting_next _ _ _ _ _ (omega (arith, wires_length c.args.records.now)) c.loop-i.invariant (rw c.wire.ensures at c.from-count.ensures)

pub returns : goal.returns
returns c = counting_end _ _ _ _ (omega (arith, wires_length c.args.records.now, c.loop-i-test.false)) c.loop-i.invariant
