-- `emit::emission::Emission::write_planned` meets its contract.
use mathlib.Core.Path.{◌≡◌, sym, ap, ◌∙◌}
use native.Mathlib.Omega.{arith}
use lib.ListN.{get_or}
use Rattle.ir.specs.declared.Wire.{Wire}
use Rattle.records.specs.Access.{no_wire}
use Rattle.model.specs.Rewrite.{follow}
use Rattle.rewrite.specs.Counts.{count_in}
use Rattle.rewrite.specs.Sources.{origin_of}
use Rattle.emit.specs.Emission.{wires_in, shape_in}
use Rattle.emit.proofs.Writing.{zero_becomes, none_from, origin_from, written_nothing}
use Rattle.emit.proofs.emission.Emission.write_planned.Goals as goal
use Rattle.emit.proofs.emission.Emission.write_planned.Goals.{After-from-count, After-origin}

-- the count, as it is defined
count_is : (c : After-from-count) → c.from-count.result ≡ count_in c.args.self.now.plan.now.actions c.args.self.now.rewrites.now.counts (get_or (wires_in c.args.self.now) c.args.i no_wire).target
count_is c = c.from-count.ensures ∙ (c.count_at.ensures ∙ ap (λ (w : Wire). count_in c.args.self.now.plan.now.actions c.args.self.now.rewrites.now.counts w.target) c.get-wire.ensures)

-- where the source comes to, as it is defined
origin_is : (c : After-origin) → origin_of (follow (shape_in c.args.self.now) c.args.self.now.wires.now.nodes (get_or (wires_in c.args.self.now) c.args.i no_wire).source) ≡ c.origin.result
origin_is c =
    let R = c.requires.prepared in
    sym (c.origin.ensures _ _ R.net.shaped R.origins ∙ ap (λ (w : Wire). origin_of (follow (shape_in c.args.self.now) c.args.self.now.wires.now.nodes w.source)) c.get-wire.ensures)

pub returns-then-count-eq0-clause-written : goal.returns-then-count-eq0-clause-written
returns-then-count-eq0-clause-written c =
    let P = c.requires in
    written_nothing (zero_becomes P.prepared c.args.i P.within _ (count_is (goal.at.returns-then-count-eq0-clause-written c).After-from-count) c.if-count-eq0.true) (omega (arith, P.room))

pub write_targets-requires : goal.write_targets-requires
write_targets-requires c =
    let P = c.requires in
    let o = (goal.at.write_targets-requires c).After-origin in
    let F = origin_from P.prepared c.args.i P.within _ (count_is (goal.at.write_targets-requires c).After-from-count) c.if-count-eq0.false _ (origin_is o ∙ c.in-From.is) in
    record { net = P.prepared.net; within = P.within; live = F.live; many = F.many; few = F.few; empty = P.empty; room = omega (arith, P.room, F.room) }

pub returns-in-Cycles : goal.returns-in-Cycles
returns-in-Cycles c =
    let P = c.requires in
    let o = (goal.at.returns-in-Cycles c).After-origin in
    record { empty = P.empty; written = written_nothing (none_from P.prepared c.args.i P.within _ (count_is (goal.at.returns-in-Cycles c).After-from-count) c.if-count-eq0.false (origin_is o) c.in-Cycles.is) (omega (arith, P.room)) }

pub returns-in-From-clause-written : goal.returns-in-From-clause-written
returns-in-From-clause-written c =
    let P = c.requires in
    let o = (goal.at.returns-in-From-clause-written c).After-origin in
    rw (origin_from P.prepared c.args.i P.within _ (count_is (goal.at.returns-in-From-clause-written c).After-from-count) c.if-count-eq0.false _ (origin_is o ∙ c.in-From.is)).is c.write_targets.ensures.written
