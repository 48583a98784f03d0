-- `table::index_rows` meets its contract.
use native.Mathlib.Omega.{arith}
use mathlib.Core.Path.{refl}
use Rattle.records.proofs.Runs.{rows_length}
use Rattle.table.proofs.Search.{none_marked, further, end}
use Rattle.table.proofs.index_rows.Goals as goal

pub loop-k-init : goal.loop-k-init
loop-k-init c = none_marked

pub mark-requires : goal.mark-requires
mark-requires c = (omega (arith, rows_length c.args.rows.now, c.loop-k-test.true), c.loop-k.invariant.long)

pub loop-k-preserved : goal.loop-k-preserved
loop-k-preserved c = further _ _ _ _ _ refl c.loop-k-test.true c.mark.ensures c.loop-k.invariant

pub returns : goal.returns
returns c = end _ _ _ _ refl c.loop-k-test.false c.loop-k.invariant
