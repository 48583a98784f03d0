-- `worklist::consumers::join` meets its contract.
use native.Mathlib.Omega.{arith}
use Rattle.worklist.proofs.Joining.{walk_starts, walk_ends, walk_wire, walk_target, walk_less, walk_next, walk_on}
use Rattle.worklist.proofs.consumers.join.Goals as goal

pub loop-code-init : goal.loop-code-init
loop-code-init c = let p = c.requires in walk_starts p.0 p.2 c.from-code.ensures

pub overflow_sub-code : goal.overflow_sub-code
overflow_sub-code c = omega (arith, c.loop-code-test.true)

pub get-target-requires : goal.get-target-requires
get-target-requires c = walk_wire c.loop-code.invariant c.loop-code-test.true

pub join_one-total-requires : goal.join_one-total-requires
join_one-total-requires c =
    (walk_target c.loop-code.invariant c.loop-code-test.true c.get-target.ensures, c.loop-code.invariant.queued)

pub overflow_sub-code-in-loop-code : goal.overflow_sub-code-in-loop-code
overflow_sub-code-in-loop-code c = omega (arith, c.loop-code-test.true)

pub offset_bounds-consumers-code : goal.offset_bounds-consumers-code
offset_bounds-consumers-code c =
    record { fits = omega (arith, walk_next c.loop-code.invariant c.loop-code-test.true) }

pub bounds-consumers-code : goal.bounds-consumers-code
bounds-consumers-code c = walk_next c.loop-code.invariant c.loop-code-test.true

pub loop-code-smaller : goal.loop-code-smaller
loop-code-smaller c = walk_less c.loop-code.invariant c.loop-code-test.true c.from-code-in-loop-code.ensures

pub loop-code-preserved : goal.loop-code-preserved
loop-code-preserved c =
    walk_on c.loop-code.invariant c.loop-code-test.true c.get-target.ensures c.join_one-total.ensures c.from-code-in-loop-code.ensures

pub returns : goal.returns
returns c = walk_ends c.loop-code.invariant c.loop-code-test.false
