-- `sheet_line::write_head` meets its contract.
use Rattle.sheet_line.proofs.Pieces.{head_all}
use Rattle.sheet_line.proofs.write_head.Goals as goal

pub returns : goal.returns
returns c = head_all c.args.node c.args.class c.place_of.ensures c.place_of-2.ensures c.place_of-3.ensures c.digit_of.ensures c.place_of-4.ensures c.digit_of-2.ensures c.write_text.ensures
