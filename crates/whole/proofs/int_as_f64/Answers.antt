-- `whole::int_as_f64` meets its contract.
use Rattle.whole.proofs.Bits.{read_shift}
use Rattle.whole.proofs.Convert.{shift_of, given, not_given}
use Rattle.whole.proofs.int_as_f64.Goals as goal

pub returns-then-m : goal.returns-then-m
returns-then-m c =
    let f = c.ranges.n in
    let r = given c.args.n _ _ (shift_of _ _ _ _ f c.unsigned_abs.ensures.value c.min-k.ensures (read_shift _ f)) c.if-m.true in
    record { value = r.0; exact = r.1.0; whenever = r.1.1.0; short = r.1.1.1.0; counters = r.1.1.1.1.0; examples = r.1.1.1.1.1 }

pub returns-else-m : goal.returns-else-m
returns-else-m c =
    let f = c.ranges.n in
    let r = not_given c.args.n _ _ f (shift_of _ _ _ _ f c.unsigned_abs.ensures.value c.min-k.ensures (read_shift _ f)) c.if-m.false in
    record { value = r.0; exact = r.1.0; whenever = r.1.1.0; short = r.1.1.1.0; counters = r.1.1.1.1.0; examples = r.1.1.1.1.1 }
