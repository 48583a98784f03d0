-- `records::access::Records::rows_offset` meets its contract.
use native.Mathlib.Omega.{arith}
use Rattle.records.proofs.Laid.{room}
use Rattle.records.proofs.access.Records.rows_offset.Goals as goal

pub overflow_mul-result : goal.overflow_mul-result
overflow_mul-result c = omega (arith, room c.args.self.now)

pub overflow_sub-result : goal.overflow_sub-result
overflow_sub-result c = omega (arith, room c.args.self.now)
