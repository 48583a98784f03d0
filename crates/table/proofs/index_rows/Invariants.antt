-- `table::index_rows` meets its contract.
use lib.ListN.{take}
use Rattle.records.specs.Access.{rows_of}
use Rattle.table.specs.Table.{Cells}
use Rattle.table.proofs.index_rows.Given as goal

abbrev pub invariant-loop-k : goal.invariant-loop-k
invariant-loop-k l = Cells (take l.k (rows_of l.rows)) l.cells
