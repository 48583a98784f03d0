-- `rewrite::tally::weigh_all` meets its contract.
use mathlib.Core.Path.{ap, ◌∙◌}
use Prim.Native.Nat.{ℕ, ◌+◌}
use native.Mathlib.Omega.{arith}
use Rattle.records.proofs.Runs.{wires_length}
use Rattle.model.specs.TargetCounts.{cap}
use Rattle.rewrite.proofs.Tallying.{scan_start, scan_stuck, scan_next, scan_end, cap_later}
use Rattle.rewrite.proofs.tally.weigh_all.Goals as goal

pub loop-i-init : goal.loop-i-init
unfolding cap
loop-i-init c = (omega arith, scan_start _ _ _ _)

pub weigh-weight-requires : goal.weigh-weight-requires
weigh-weight-requires c = (c.requires, omega (arith, wires_length c.args.records.now))

pub returns-then-weight-eq-NO_COUNT : goal.returns-then-weight-eq-NO_COUNT
returns-then-weight-eq-NO_COUNT c = scan_stuck _ _ _ _ _ _ _ (omega (arith, wires_length c.args.records.now)) c.loop-i.invariant.1 c.weigh-weight.ensures c.if-weight-eq-NO_COUNT.true

pub loop-i-preserved : goal.loop-i-preserved
loop-i-preserved c =
    (omega (arith, c.from-count.ensures, c.weigh-weight.ensures.low), scan_next _ _ _ _ _ _ _ (omega (arith, wires_length c.args.records.now)) c.loop-i.invariant.1 c.weigh-weight.ensures c.if-weight-eq-NO_COUNT.false _ (cap_later _ _ ∙ ap (λ (w : ℕ). cap (cap c.loop-i.count + w)) c.from-count.ensures))

pub returns : goal.returns
unfolding cap
returns c n details F = rw (c.min.ensures, c.from.ensures) (scan_end _ _ _ _ _ _ (omega (arith, wires_length c.args.records.now)) c.loop-i.invariant.1 n details F)
