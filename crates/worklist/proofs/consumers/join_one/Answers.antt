-- `worklist::consumers::join_one` meets its contract.
-- the node does not wait, so it finds a place
use native.Mathlib.Omega.{arith}
use mathlib.Core.List.{[]}
use Prim.Native.Nat.{◌<◌}
use Rattle.model.specs.Worklist.{queue_places}
use Rattle.worklist.proofs.Joining.{one_known, one_waits, one_place, one_joins}
use Rattle.worklist.proofs.consumers.join_one.Goals as goal
use Rattle.worklist.proofs.consumers.join_one.Goals.{Else-is_known, then-marks-c-via-then-marks-c, then-marks-c-via-else-marks-c+then-is_known}

left : (c : Else-is_known) → c.args.count < queue_places
left c =
    let p = c.requires in
    one_place [] _ _ _ _ _ p.1 p.0 c.if-marks-c.false

pub returns-then-marks-c : goal.returns-then-marks-c
returns-then-marks-c c =
    let p = c.requires in
    elim c.then-marks-c.branch [
      | then-marks-c-via-then-marks-c w ↦ one_waits _ _ _ _ _ _ p.1 p.0 w.if-marks-c.true
      | then-marks-c-via-else-marks-c+then-is_known w ↦ one_known _ _ _ _ _ _ p.1 w.is_known.ensures w.if-is_known.true
    ]

pub push-requires : goal.push-requires
push-requires c = let p = c.requires in (p.1.head_in, left (goal.at.push-requires c).Else-is_known, p.0)

pub overflow_add-result : goal.overflow_add-result
overflow_add-result c = record { fits = omega (arith, left (goal.at.overflow_add-result c).Else-is_known) }

pub returns : goal.returns
returns c =
    let p = c.requires in
    one_joins _ _ _ _ _ _ p.1 p.0 c.if-marks-c.false c.is_known.ensures c.if-is_known.false c.push.ensures
