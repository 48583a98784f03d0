-- `encoding::numbers::write_head` meets its contract.
use native.Mathlib.Omega.{arith}
use Rattle.encoding.specs.Numbers.{bytes_of}
use Rattle.encoding.proofs.Splices.{written_more}
use Rattle.encoding.proofs.numbers.write_head.Goals as goal

pub returns : goal.returns
unfolding bytes_of
returns c = written_more c.write_byte-past_kind.ensures (omega arith) c.write_u16.ensures
