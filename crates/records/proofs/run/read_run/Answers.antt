-- `records::run::read_run` meets its contract.
use native.Mathlib.Omega.{arith}
use Rattle.records.proofs.Scanned.{role_here, whole_here, sound_here, room_here, new_here, begun_here, few_here, few_texts_here, one_more}
use Rattle.records.proofs.run.read_run.Goals as goal

pub invariant_of-record : goal.invariant_of-record
invariant_of-record c =
    let p = c.requires in
    record { whole = (sound_here p.0 p.1 c.loop-role.invariant.1 (c.is_next.ensures.next c.loop-role-test.true)).whole }

pub index-requires : goal.index-requires
index-requires c =
    let i = c.loop-role.invariant.1 in
    let p = c.requires in
    let n = c.is_next.ensures.next c.loop-role-test.true in
    record {
      role_value = (role_here p.0 p.1 i n, whole_here p.0 p.1 i n);
      at_bound = (omega (arith, n.inside, p.2), (_, sound_here p.0 p.1 i n, begun_here p.0 p.1 i n));
    }

pub count-more-requires : goal.count-more-requires
count-more-requires c =
    let i = c.loop-role.invariant.1 in
    let p = c.requires in
    let n = c.is_next.ensures.next c.loop-role-test.true in
    (sound_here p.0 p.1 i n, room_here p.0 p.1 i n, omega (arith, p.2, few_here p.0 p.1 i n), few_texts_here p.0 p.1 i n, role_here p.0 p.1 i n)

pub loop-role-preserved : goal.loop-role-preserved
loop-role-preserved c =
    let i = c.loop-role.invariant.1 in
    let p = c.requires in
    let n = c.is_next.ensures.next c.loop-role-test.true in
    (omega (arith, c.loop-role.invariant.0), one_more p.0 p.1 i n (c.count-more.ensures i.graph i.held.counts) (c.index.ensures i.graph (new_here p.0 p.1 i n) i.held.indexed))
