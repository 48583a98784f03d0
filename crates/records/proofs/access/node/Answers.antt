-- `records::access::node` meets its contract.
use native.Mathlib.Omega.{arith}
use Rattle.records.proofs.Laid.{node_inside, node_says}
use Rattle.records.proofs.access.node.Goals as goal

pub overflow_mul-at : goal.overflow_mul-at
overflow_mul-at c = omega (arith, node_inside c.args.input.now c.args.i c.requires)

pub overflow_add-result : goal.overflow_add-result
overflow_add-result c = omega (arith, node_inside c.args.input.now c.args.i c.requires)

pub bounds-input-at : goal.bounds-input-at
bounds-input-at c = omega (arith, node_inside c.args.input.now c.args.i c.requires)

pub overflow_add-result-2 : goal.overflow_add-result-2
overflow_add-result-2 c = omega (arith, node_inside c.args.input.now c.args.i c.requires)

pub bounds-input-at-2 : goal.bounds-input-at-2
bounds-input-at-2 c = omega (arith, node_inside c.args.input.now c.args.i c.requires)

pub returns : goal.returns
returns c = node_says _ _ c.requires
