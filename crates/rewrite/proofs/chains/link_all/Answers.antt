-- `rewrite::chains::link_all` meets its contract.
use Prim.Native.Nat.{◌+◌, ◌-◌}
use native.Mathlib.Omega.{arith}
use mathlib.Core.Path.{◌≡◌, refl, sym}
use Rattle.records.proofs.Runs.{wires_length}
use Rattle.rewrite.proofs.Linking.{linked_start, picked_on, picked_not}
use Rattle.rewrite.proofs.chains.link_all.Goals as goal

pub loop-i-init : goal.loop-i-init
loop-i-init g c picks same = rw (← wires_length c.args.records.now) (linked_start _ _ _ _ refl c.requires.later)

pub wire-wire-requires : goal.wire-wire-requires
wire-wire-requires g c = omega (arith, wires_length c.args.records.now)

pub bounds-chains-i : goal.bounds-chains-i
bounds-chains-i g c = omega (arith, wires_length c.args.records.now, c.requires.within.few)

pub overflow_cast-chains : goal.overflow_cast-chains
overflow_cast-chains g c = omega (arith, wires_length c.args.records.now, c.requires.within.few)

pub loop-i-preserved-then-test : goal.loop-i-preserved-then-test
loop-i-preserved-then-test g c picks same =
    let e : c.loop-i.i - 1 + 1 ≡ c.loop-i.i = omega arith in
    picked_on _ picks _ _ (c.loop-i.i - 1) (omega (arith, wires_length c.args.records.now)) c.requires.within (rw e (c.loop-i.invariant picks same)) _ c.wire-wire.ensures (sym (same _ _ c.if-test.ensures))

pub loop-i-preserved : goal.loop-i-preserved
loop-i-preserved g c picks same =
    let e : c.loop-i.i - 1 + 1 ≡ c.loop-i.i = omega arith in
    picked_not _ picks _ _ (c.loop-i.i - 1) (omega (arith, wires_length c.args.records.now)) c.requires.within (rw e (c.loop-i.invariant picks same)) _ c.wire-wire.ensures (sym (same _ _ c.if-test.ensures))
