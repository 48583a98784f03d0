-- `rewrite::tally::scan` meets its contract.
use native.Mathlib.Omega.{arith}
use Rattle.records.specs.Access.{wires_of}
use Rattle.rewrite.proofs.KeptTargets.{kept_few, kept_counted}
use Rattle.rewrite.proofs.tally.scan.Goals as goal

pub returns-then-any_above : goal.returns-then-any_above
returns-then-any_above c = c.weigh_all.ensures _

pub returns : goal.returns
returns c details F =
    kept_counted _ _ details _ F.shaped (c.any_above.ensures.low c.if-any_above.false) _ (omega (arith, kept_few c.args.plan.now.actions (wires_of c.args.records.now), c.requires.0.within.few)) _ c.count_kept.ensures
