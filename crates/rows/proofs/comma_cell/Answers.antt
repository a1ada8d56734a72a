use Rattle.rows.proofs.Short.{comma_found}
use Rattle.rows.proofs.comma_cell.Goals as goal

pub returns : goal.returns
returns c = search comma_found
