-- `sheet_line::write_vector` meets its contract.
use native.Mathlib.Omega.{arith}
use Rattle.sheet_line.proofs.Widths.{number_length}
use Rattle.sheet_line.proofs.Pieces.{after, vector_all}
use Rattle.sheet_line.proofs.write_vector.Goals as goal

pub write_number-third-requires : goal.write_number-third-requires
write_number-third-requires c = after c.write_one-second.ensures 18 (omega (arith, c.requires, number_length c.args.x))

pub write_number-requires : goal.write_number-requires
write_number-requires c = after c.write_number-third.ensures 18 (omega (arith, after c.write_one-second.ensures 36 (omega (arith, c.requires, number_length c.args.x)), number_length c.args.y))

pub returns : goal.returns
returns c = vector_all c.args.x c.args.y c.args.z c.requires c.write_one-second.ensures c.write_number-third.ensures c.write_number.ensures
