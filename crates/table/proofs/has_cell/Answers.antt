-- `table::has_cell` meets its contract.
use Rattle.table.proofs.Search.{answers}
use Rattle.table.proofs.has_cell.Goals as goal

pub returns : goal.returns
returns c =
    let e = answers c.args.row (rw (c.from.ensures, c.from-2.ensures, c.from-3.ensures, c.from-4.ensures)) in
    record { cell = e.0; listed = e.1.0; fits = e.1.1 }
