-- `encoding::numbers::write_u16` meets its contract.
use native.Mathlib.Omega.{arith}
use mathlib.Core.Path.{◌∙◌, ap}
use lib.ListN.{take}
use Rattle.encoding.specs.Numbers.{bytes_of}
use Rattle.encoding.proofs.Splices.{part_written}
use Rattle.encoding.proofs.numbers.write_u16.Goals as goal

pub returns : goal.returns
unfolding bytes_of
returns c = part_written c.args.out.now c.args.at _ (c.copy_from_slice.ensures.after ∙ ap (take 2) c.to_le_bytes.ensures) (omega arith)
