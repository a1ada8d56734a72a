use Rattle.rows.proofs.Short.{short_fits, short_step}
use Rattle.rows.proofs.block_at.Goals as goal

pub block_row-verdict-requires : goal.block_row-verdict-requires
block_row-verdict-requires c = search (short_fits, c.in-Some.ensures)

pub returns-in-Some : goal.returns-in-Some
returns-in-Some c = search (short_step, c.in-Some.ensures)
