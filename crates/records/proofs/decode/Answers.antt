-- `records::decode` meets its contract.
use Prim.Native.Nat.{◌+◌}
use native.Mathlib.Omega.{arith}
use mathlib.Core.Path.{◌≡◌, sym}
use mathlib.Core.Bool.{false}
use borrow.Author.Rules.{rules}
use Rattle.graph.specs.Index.{Sound}
use Rattle.graph.specs.Decode.{refusal_at}
use Rattle.graph.specs.Layout.{role_at, size_at}
use Rattle.encoding.specs.Numbers.{byte}
use Rattle.records.proofs.Scanned.{start, further, positive, reports_long, reports_refused, reports_accepted}
use Rattle.graph.proofs.Asked.{passed}
use Rattle.graph.proofs.Added.{few_texts}
use Rattle.graph.proofs.Roles.{size_by_lem}
use Rattle.records.proofs.decode.Goals as goal
use Rattle.records.proofs.decode.Goals.{In_default}

ok : (c : In_default) → refusal_at c.loop-at.last c.loop-at.invariant.graph c.args.input.now c.loop-at.at ≡ 0
ok c = sym (rw c.in_default.is at (c.check.ensures.first c.loop-at.invariant.graph c.loop-at.invariant.held))

sound : (c : In_default) → Sound c.loop-at.counts.nodes (role_at c.args.input.now c.loop-at.at) c.args.input.now c.loop-at.at
sound c =
    let p = passed _ _ _ _ (ok c) in
    let i = c.loop-at.invariant in
    record { whole = omega (arith, p.whole, size_by_lem (byte c.args.input.now c.loop-at.at)); listed = p.listed; there = rw i.held.counts p.there; few = rw i.held.counts i.few }

pub returns-then-input-gt-INPUT : goal.returns-then-input-gt-INPUT
returns-then-input-gt-INPUT c = reports_long _ c.if-input-gt-INPUT.true

pub loop-at-init : goal.loop-at-init
loop-at-init c =
    let e : c.default-counts.result ≡ record { nodes = 0; wires = 0; properties = 0; texts = 0; rows = 0; annihilators = 0; and_false = false; or_true = false } = search rules in
    rw e (start _)

pub returns-in-Some : goal.returns-in-Some
returns-in-Some c =
    let i = c.loop-at.invariant in
    let n = rw c.in-Some.is at (c.check.ensures.first i.graph i.held) in
    reports_refused _ c.if-input-gt-INPUT.false _ _ _ _ i c.loop-at-test.true _ _ n.0 (positive c.in-Some.refusal) n.1

pub invariant_of-record : goal.invariant_of-record
invariant_of-record c = record { whole = rw c.role_of-role.ensures (sound (goal.at.invariant_of-record c).In_default).whole }

pub index-requires : goal.index-requires
index-requires c =
    let p = passed _ _ _ _ (ok (goal.at.index-requires c).In_default) in
    let i = c.loop-at.invariant in
    record {
      role_value = (c.role_of-role.ensures, p.whole);
      at_bound = (omega (arith, c.loop-at-test.true, c.if-input-gt-INPUT.false), (c.loop-at.counts.nodes, rw c.role_of-role.ensures (sound (goal.at.index-requires c).In_default), rw i.held.counts i.begun));
    }

pub count-counts-requires : goal.count-counts-requires
count-counts-requires c =
    let p = passed _ _ _ _ (ok (goal.at.count-counts-requires c).In_default) in
    let i = c.loop-at.invariant in
    (rw c.role_of-role.ensures (sound (goal.at.count-counts-requires c).In_default), rw (c.role_of-role.ensures, i.held.counts) p.fits, rw i.held.counts (omega (arith, i.few_annihilators, c.loop-at-test.true, c.if-input-gt-INPUT.false)), rw i.held.counts (few_texts i.graph.properties), c.role_of-role.ensures)

pub read_same-run-requires : goal.read_same-run-requires
read_same-run-requires c =
    let i = c.loop-at.invariant in
    let s = c.args.input.now in
    let at = c.loop-at.at in
    let size : 1 + c.body_of-size.result ≡ size_at s at = omega (arith, c.body_of-size.ensures) in
    let r = c.role_of-role.ensures in (
      r,
      size,
      c.if-input-gt-INPUT.false,
      rw size
          (further _ _ _ _ _ _ _ i c.loop-at-test.true (ok (goal.at.read_same-run-requires c).In_default)
          (record {
            counts = rw r at (c.count-counts.ensures i.graph i.held.counts);
            indexed = rw r at (c.index.ensures i.graph (rw r (passed _ _ _ _ (ok (goal.at.read_same-run-requires c).In_default)).new) i.held.indexed);
          })),
    )

pub returns : goal.returns
returns c = reports_accepted _ c.if-input-gt-INPUT.false _ _ _ _ c.loop-at.invariant c.loop-at-test.false
