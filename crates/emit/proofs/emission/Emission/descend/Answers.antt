-- `emit::emission::Emission::descend` meets its contract.
use mathlib.Core.Path.{ap}
use Prim.Native.Nat.{ℕ, ◌-◌}
use native.Mathlib.Omega.{arith}
use Rattle.ir.specs.declared.Wire.{Wire}
use Rattle.emit.proofs.Stacks.{track_start, track_low, stepped, track_step, track_leaf}
use Rattle.emit.proofs.emission.Emission.descend.Goals as goal

pub overflow_sub-wire : goal.overflow_sub-wire
overflow_sub-wire c = omega (arith, c.from-wire.ensures, (stepped c.requires.net c.requires.stands c.loop-target.invariant c.loop-target-test.true).some_code)

pub bounds-self-wire : goal.bounds-self-wire
bounds-self-wire c = omega (arith, c.from-wire.ensures, (stepped c.requires.net c.requires.stands c.loop-target.invariant c.loop-target-test.true).inside, c.requires.net.bounded.few_wires)

pub push-requires : goal.push-requires
push-requires c = (stepped c.requires.net c.requires.stands c.loop-target.invariant c.loop-target-test.true).room

pub get-target-requires-in-loop-target : goal.get-target-requires-in-loop-target
get-target-requires-in-loop-target c = omega (arith, c.from-wire.ensures, (stepped c.requires.net c.requires.stands c.loop-target.invariant c.loop-target-test.true).inside)

pub overflow_sub-steps : goal.overflow_sub-steps
overflow_sub-steps c = (stepped c.requires.net c.requires.stands c.loop-target.invariant c.loop-target-test.true).some_steps

pub loop-target-smaller : goal.loop-target-smaller
loop-target-smaller c = omega (arith, (stepped c.requires.net c.requires.stands c.loop-target.invariant c.loop-target-test.true).some_steps)

pub loop-target-preserved : goal.loop-target-preserved
loop-target-preserved c = track_step c.requires.net c.requires.stands c.loop-target.invariant c.loop-target-test.true _ _ _ _ (ap (λ (x : ℕ). x - 1) c.from-wire.ensures) c.push.ensures (ap (λ (w : Wire). w.target.node_id) c.get-target-in-loop-target.ensures)

pub returns : goal.returns
returns c = track_leaf c.requires.net c.requires.stands c.loop-target.invariant c.loop-target-test.false
