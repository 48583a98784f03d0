-- `worklist::run` meets its contract. The measure: a pop for each node and each wire is enough.
use mathlib.Core.Path.{refl}
use native.Mathlib.Omega.{arith}
use Rattle.worklist.proofs.Running.{nodes_few, at_start, at_most, at_end, at_less, at_node, at_unknown, at_rest, at_next}
use Rattle.worklist.proofs.run.Goals as goal

pub start-requires : goal.start-requires
start-requires c = let p = c.requires.0 in (nodes_few _ p.counts p.bounded, refl)

pub loop-queue-init : goal.loop-queue-init
loop-queue-init c = let p = c.requires in at_start p.0.counts p.2 c.start.ensures

pub front-n-requires : goal.front-n-requires
front-n-requires c = c.loop-queue.invariant.queued.head_in

pub rest-queue-requires : goal.rest-queue-requires
rest-queue-requires c = (c.loop-queue.invariant.queued.head_in, c.loop-queue-test.true)

pub bounds-marks-n : goal.bounds-marks-n
bounds-marks-n c =
    let b = c.requires.0.bounded in
    omega (arith, at_node c.loop-queue.invariant b c.loop-queue-test.true c.front-n.ensures, b.few_nodes)

pub turn-waiting-requires : goal.turn-waiting-requires
turn-waiting-requires c =
    let p = c.requires in
    let i = c.loop-queue.invariant in
    let w = c.loop-queue-test.true in
    let e = c.front-n.ensures in
    (p.0, p.1, at_node i p.0.bounded w e, at_unknown i p.0.bounded w e, at_rest i p.0.bounded w e c.rest-queue.ensures)

pub overflow_add-pops : goal.overflow_add-pops
overflow_add-pops c =
    let b = c.requires.0.bounded in
    record { fits = omega (arith, at_most c.loop-queue.invariant b, b.few_nodes, b.few_wires) }

pub loop-queue-smaller : goal.loop-queue-smaller
loop-queue-smaller c =
    omega (arith, at_less c.loop-queue.invariant c.requires.0.bounded c.loop-queue-test.true)

pub loop-queue-preserved : goal.loop-queue-preserved
loop-queue-preserved c =
    at_next c.loop-queue.invariant c.requires.0.bounded c.loop-queue-test.true c.front-n.ensures c.rest-queue.ensures c.turn-waiting.ensures c.longer-queue.ensures

pub returns : goal.returns
returns c = at_end c.loop-queue.invariant c.requires.0.bounded (omega (arith, c.loop-queue-test.false))
