use Rattle.whole.proofs.Laws.{eq_bits}
use Rattle.whole.proofs.eq.Goals as goal

pub returns : goal.returns
returns c = eq_bits c.args.a c.args.b c.ranges.a c.ranges.b
