-- `sheet_line::write_line` meets its contract.
use Rattle.encoding.proofs.Splices.{written_length}
use mathlib.Core.List.{[]}
use native.Mathlib.Omega.{arith}
use Rattle.sheet_line.proofs.Pieces.{after, line_all}
use Rattle.sheet_line.proofs.ReadBack.{reads_back}
use Rattle.sheet_line.proofs.Widths.{head_length, line_wide, ended_length}
use Rattle.sheet_line.proofs.write_line.Goals as goal

pub write_head-past-requires : goal.write_head-past-requires
write_head-past-requires c = omega (arith, c.requires, written_length c.write_blank-next.ensures (omega (arith, c.requires, ended_length [] (omega arith))))

pub write_fate-requires : goal.write_fate-requires
write_fate-requires c = after c.write_head-past.ensures 55 (omega (arith, c.requires, head_length c.args.line.node c.args.line.class, written_length c.write_blank-next.ensures (omega (arith, c.requires, ended_length [] (omega arith)))))

pub returns : goal.returns
returns c = record { written = line_all c.args.line c.requires c.write_blank-next.ensures c.write_head-past.ensures c.write_fate.ensures; width = line_wide _; read_back = reads_back _ }
