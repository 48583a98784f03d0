-- `sheet_line::write_hex` meets its contract.
use Rattle.sheet_line.proofs.Pieces.{half_room, hex_all}
use Rattle.sheet_line.proofs.write_hex.Goals as goal

pub write_u64-requires : goal.write_u64-requires
write_u64-requires c = half_room c.hex_word-high.result _ c.requires c.hex_word-high.ensures c.write_u64-next.ensures

pub returns : goal.returns
returns c = hex_all c.args.n c.hex_word-high.result c.hex_word-low.result c.requires c.hex_word-high.ensures c.hex_word-low.ensures c.write_u64-next.ensures c.write_u64.ensures
