-- `sheet_line::write_header` meets its contract.
use native.Mathlib.Omega.{arith}
use Rattle.sheet_line.specs.Characters.{header_text}
use Rattle.sheet_line.proofs.Pieces.{over_blank}
use Rattle.sheet_line.proofs.Widths.{header_wide}
use Rattle.sheet_line.proofs.write_header.Goals as goal

pub returns : goal.returns
returns c = record { written = over_blank header_text (omega arith) c.requires c.write_blank-next.ensures c.write_text.ensures; width = header_wide }
