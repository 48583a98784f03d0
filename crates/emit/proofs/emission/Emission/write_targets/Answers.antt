-- `emit::emission::Emission::write_targets` meets its contract.
use mathlib.Core.Path.{refl, ap}
use native.Mathlib.Omega.{arith}
use lib.ListN.{length}
use Rattle.emit.proofs.Stacks.{upward}
use Rattle.emit.proofs.Fanning.{going_start, some_rest, leaf_room, going_on, going_end, popped_long}
use Rattle.emit.proofs.emission.Emission.write_targets.Goals as goal

pub loop-init : goal.loop-init
loop-init c = going_start c.requires _ _ refl

pub descend-leaf-requires : goal.descend-leaf-requires
descend-leaf-requires c =
    let G = c.loop.invariant in
    record { net = c.requires.net; ts = G.rest; stands = G.stands (some_rest G (omega (arith, c.requires.many))) }

pub write_leaf-past-requires : goal.write_leaf-past-requires
write_leaf-past-requires c =
    let G = c.loop.invariant in
    let D = c.descend-leaf.ensures G.rest (G.stands (some_rest G (omega (arith, c.requires.many)))) in
    (D.within, leaf_room G (omega (arith, c.requires.many)))

pub pop-wire-requires : goal.pop-wire-requires
pop-wire-requires c =
    let G = c.loop.invariant in
    let D = c.descend-leaf.ensures G.rest (G.stands (some_rest G (omega (arith, c.requires.many)))) in
    (upward c.requires.net.bounded.few_wires D.stack_long (omega (arith, D.few, ap length D.split)) D.stacked).popable

pub loop-preserved : goal.loop-preserved
loop-preserved c =
    let G = c.loop.invariant in
    let D = c.descend-leaf.ensures G.rest (G.stands (some_rest G (omega (arith, c.requires.many)))) in
    going_on G c.requires.net.bounded.few_wires D c.write_leaf-past.ensures c.pop-wire.ensures (popped_long D.stack_long c.pop-wire.ensures)

pub returns : goal.returns
returns c =
    let E = going_end c.loop.invariant (omega (arith, c.requires.many)) in
    record { empty = (E.1, c.loop.invariant.stack_long); written = E.0 }
