-- `encoding::numbers::write_u64` meets its contract.
use mathlib.Core.Path.{refl, ◌∙◌}
use Rattle.encoding.specs.Numbers.{bytes_of}
use Rattle.encoding.proofs.Splices.{part_written, low_bytes}
use Rattle.encoding.proofs.numbers.write_u64.Goals as goal

pub returns : goal.returns
unfolding bytes_of
returns c = part_written c.args.out.now c.args.at _ (c.copy_from_slice.ensures.after ∙ c.to_le_bytes.ensures ∙ low_bytes c.args.x) refl
