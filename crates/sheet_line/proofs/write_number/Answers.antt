-- `sheet_line::write_number` meets its contract.
use Rattle.sheet_line.proofs.Pieces.{number_all}
use Rattle.sheet_line.proofs.write_number.Goals as goal

pub returns : goal.returns
returns c = number_all c.args.n c.requires c.write_spaces-next.ensures c.write_hex.ensures
