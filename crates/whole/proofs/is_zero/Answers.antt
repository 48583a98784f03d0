use lib.Dec.{lit<}
use lib.IntN.{pos}
use Rattle.whole.proofs.Laws.{eq_bits}
use Rattle.whole.proofs.is_zero.Goals as goal

pub returns : goal.returns
returns c = eq_bits c.args.n (pos 0) c.ranges.n (record { sfits = lit< tt })
