-- `sheet_line::write_blank` meets its contract.
use Rattle.sheet_line.proofs.Pieces.{blank_all}
use Rattle.sheet_line.proofs.write_blank.Goals as goal

pub returns : goal.returns
returns c = blank_all c.requires c.write_spaces-next.ensures c.write_byte.ensures
