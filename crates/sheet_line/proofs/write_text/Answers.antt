-- `sheet_line::write_text` meets its contract.
use Rattle.sheet_line.proofs.Pieces.{written_part}
use Rattle.sheet_line.proofs.write_text.Goals as goal

pub returns : goal.returns
returns c = written_part c.args.out.now c.args.bytes.now c.args.at c.copy_from_slice.ensures.after c.requires
