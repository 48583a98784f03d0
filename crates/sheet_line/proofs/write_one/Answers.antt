-- `sheet_line::write_one` meets its contract.
use Rattle.sheet_line.proofs.Pieces.{one_all}
use Rattle.sheet_line.proofs.write_one.Goals as goal

pub returns : goal.returns
returns c = one_all c.args.letter c.args.n c.requires c.write_byte-next.ensures c.write_number.ensures
