-- `table::mark` meets its contract.
use Rattle.table.proofs.Search.{marks_row, passes_row}
use Rattle.table.proofs.mark.Goals as goal

pub returns-then-has_cell : goal.returns-then-has_cell
returns-then-has_cell c = λ before m.
    let cell = c.has_cell.ensures in
    let number = c.row_number.ensures in
    marks_row before c.row-row.ensures cell.cell m c.if-has_cell.true cell.fits number.number number.same_number c.mark_number.ensures

pub returns-else-has_cell : goal.returns-else-has_cell
returns-else-has_cell c = λ before m. passes_row before c.row-row.ensures c.has_cell.ensures.cell m c.if-has_cell.false
