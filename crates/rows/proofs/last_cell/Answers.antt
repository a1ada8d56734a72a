use Rattle.rows.proofs.Short.{last_found, last_room}
use Rattle.std.proofs.Common.{arith}
use Rattle.rows.proofs.last_cell.Goals as goal

pub overflow_add-result : goal.overflow_add-result
overflow_add-result c =
    let h = last_room c.args.text.now c.args.at c.integer_cell-cell.ensures c.requires c.in-Ends.own c.in-Ends.end c.in-Ends.is c.width.ensures in
    omega (arith, h, c.well_formed)

pub returns-then-allows : goal.returns-then-allows
returns-then-allows c = search last_found
