-- `worklist::turn` meets its contract.
use native.Mathlib.Omega.{arith}
use Rattle.worklist.proofs.Joining.{chained}
use Rattle.worklist.proofs.Turning.{tried, turn_tried, turn_joined}
use Rattle.worklist.proofs.turn.Goals as goal

pub try_resolve-trial-requires : goal.try_resolve-trial-requires
try_resolve-trial-requires c = let p = c.requires in (p.0, p.2)

pub store-requires : goal.store-requires
store-requires c = let p = c.requires in omega (arith, p.2, p.0.bounded.few_nodes)

pub join-requires : goal.join-requires
join-requires c =
    let p = c.requires in
    (chained _ _ p.0.wires_part p.0.bounded p.1 p.2, omega (arith, p.2, p.0.bounded.few_nodes), p.4)

pub returns-then-store : goal.returns-then-store
returns-then-store c =
    let p = c.requires in
    turn_joined (tried _ _ _ c.try_resolve-trial.result _ _ _ _ _ _ _ _ _ p.3 p.2 c.try_resolve-trial.ensures c.store.ensures) p.0.wires_part p.0.bounded c.if-store.true c.join.ensures

pub returns : goal.returns
returns c =
    let p = c.requires in
    turn_tried (tried _ _ _ c.try_resolve-trial.result _ _ _ _ _ _ _ _ _ p.3 p.2 c.try_resolve-trial.ensures c.store.ensures) p.4 c.if-store.false
