use Rattle.tables.proofs.Copies.{filled}
use Rattle.tables.proofs.fill.Goals as goal

pub returns : goal.returns
returns g c = filled c.args.column.now c.args.values.now c.args.count c.requires.0 c.requires.1 c.copy_from_slice.ensures.after
