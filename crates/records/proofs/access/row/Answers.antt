-- `records::access::row` meets its contract.
use native.Mathlib.Omega.{arith}
use mathlib.Core.Path.{sym}
use Rattle.records.proofs.Runs.{rows_length, rows_at}
use Rattle.records.proofs.access.row.Goals as goal

pub overflow_mul-at : goal.overflow_mul-at
overflow_mul-at c = omega (arith, rows_length c.args.rows.now)

pub overflow_add-result : goal.overflow_add-result
overflow_add-result c = omega (arith, rows_length c.args.rows.now)

pub bounds-rows-at : goal.bounds-rows-at
bounds-rows-at c = omega (arith, rows_length c.args.rows.now)

pub overflow_add-result-2 : goal.overflow_add-result-2
overflow_add-result-2 c = omega (arith, rows_length c.args.rows.now)

pub bounds-rows-at-2 : goal.bounds-rows-at-2
bounds-rows-at-2 c = omega (arith, rows_length c.args.rows.now)

pub overflow_add-result-3 : goal.overflow_add-result-3
overflow_add-result-3 c = omega (arith, rows_length c.args.rows.now)

pub bounds-rows-at-3 : goal.bounds-rows-at-3
bounds-rows-at-3 c = omega (arith, rows_length c.args.rows.now)

pub overflow_add-result-4 : goal.overflow_add-result-4
overflow_add-result-4 c = omega (arith, rows_length c.args.rows.now)

pub bounds-rows-at-4 : goal.bounds-rows-at-4
bounds-rows-at-4 c = omega (arith, rows_length c.args.rows.now)

pub returns : goal.returns
returns c = sym (rows_at _ _ c.requires)
