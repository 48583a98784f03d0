-- `records::access::Records::properties_offset` meets its contract.
use native.Mathlib.Omega.{arith}
use Rattle.records.proofs.Laid.{room}
use Rattle.records.proofs.access.Records.properties_offset.Goals as goal

pub overflow_mul-result : goal.overflow_mul-result
overflow_mul-result c = omega (arith, room c.args.self.now)

pub overflow_add-result : goal.overflow_add-result
overflow_add-result c = omega (arith, room c.args.self.now)
