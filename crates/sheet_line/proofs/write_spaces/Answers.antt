-- `sheet_line::write_spaces` meets its contract.
use Rattle.sheet_line.proofs.Pieces.{written_spaces}
use Rattle.sheet_line.proofs.write_spaces.Goals as goal

pub returns : goal.returns
returns c = written_spaces c.args.out.now c.args.at c.args.count (c.fill.ensures.after (λ y e. e)) c.requires
