-- `rewrite::sources::fill` meets its contract.
use Prim.Native.Nat.{◌-◌, ◌<◌}
use Rattle.records.specs.Access.{wires_of}
use Rattle.rewrite.specs.Jumps.{Jumped}
use Rattle.rewrite.specs.Sources.{Traced}
use Rattle.rewrite.proofs.sources.fill.Given as goal

abbrev pub invariant-loop-far : goal.invariant-loop-far
invariant-loop-far l =
    Traced (wires_of l.wires.records.now) l.plan.actions l.sources × (0 < l.far) × Jumped (wires_of l.wires.records.now) l.plan.actions l.plan.details l.sources l.far

abbrev pub decreases-loop-far : goal.decreases-loop-far
decreases-loop-far l = l.wires.nodes - l.far
