-- `stages::mezburiko_worklist` meets its contract.
use mathlib.Core.Path.{◌∙◌}
use Rattle.stages.proofs.Verdicts.{accepted_says, plain_pops, refused_says}
use Rattle.stages.proofs.mezburiko_worklist.Goals as goal

pub returns-in-Ok : goal.returns-in-Ok
returns-in-Ok c =
    let W = c.in-Ok.ensures in
    let S = accepted_says _ _ W.accepts in
    record { number = S.0; pops = W.finished.pops_are ∙ (plain_pops _ ∙ S.1) }

pub returns-in-Err : goal.returns-in-Err
returns-in-Err c =
    let S = refused_says _ _ _ c.in-Err.ensures.verdict in
    record { number = c.number.ensures ∙ S.0; pops = S.1 }
