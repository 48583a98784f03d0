-- `emit::emission::Emission::write_wire` meets its contract.
use mathlib.Core.Path.{◌≡◌, sym, ap, ◌∙◌}
use native.Mathlib.Omega.{arith}
use lib.ListN.{length, get_or}
use Rattle.ir.specs.declared.Wire.{Wire}
use Rattle.records.specs.Access.{no_wire}
use Rattle.model.specs.Rewrite.{follow}
use Rattle.rewrite.specs.Sources.{origin_of}
use Rattle.emit.specs.Emission.{wires_in, shape_in}
use Rattle.emit.proofs.Writing.{kept_none, kept_from, written_one, written_nothing}
use Rattle.emit.proofs.emission.Emission.write_wire.Goals as goal
use Rattle.emit.proofs.emission.Emission.write_wire.Goals.{After-origin}

-- where the source comes to, as it is defined
origin_is : (c : After-origin) → origin_of (follow (shape_in c.args.self.now) c.args.self.now.wires.now.nodes (get_or (wires_in c.args.self.now) c.args.i no_wire).source) ≡ c.origin.result
origin_is c =
    let R = c.requires.prepared in
    sym (c.origin.ensures _ _ R.net.shaped R.origins ∙ ap (λ (w : Wire). origin_of (follow (shape_in c.args.self.now) c.args.self.now.wires.now.nodes w.source)) c.get-wire.ensures)

-- the target is not planned
kept_is : (c : After-origin) → get_or c.args.self.now.plan.now.actions (get_or (wires_in c.args.self.now) c.args.i no_wire).target.node_id 0 ≡ 0
kept_is c = ap (λ (w : Wire). get_or c.args.self.now.plan.now.actions w.target.node_id 0) (sym c.get-wire.ensures) ∙ c.if-self-target-ne-KEPT.false

pub write_wire-requires : goal.write_wire-requires
write_wire-requires c =
    let P = c.requires in
    let o = (goal.at.write_wire-requires c).After-origin in
    omega (arith, P.room, ap length (kept_from P.prepared c.args.i P.within (kept_is o) _ (origin_is o ∙ c.in-From.is)))

pub returns-in-Cycles : goal.returns-in-Cycles
returns-in-Cycles c =
    let P = c.requires in
    let o = (goal.at.returns-in-Cycles c).After-origin in
    record { empty = P.empty; written = written_nothing (kept_none P.prepared c.args.i P.within (kept_is o) (origin_is o) c.in-Cycles.is) (omega (arith, P.room)) }

pub returns-in-From-clause-written : goal.returns-in-From-clause-written
returns-in-From-clause-written c =
    let P = c.requires in
    let o = (goal.at.returns-in-From-clause-written c).After-origin in
    written_one (kept_from P.prepared c.args.i P.within (kept_is o) _ (origin_is o ∙ c.in-From.is)) (rw c.get-wire.ensures at c.write_wire.ensures.written)
