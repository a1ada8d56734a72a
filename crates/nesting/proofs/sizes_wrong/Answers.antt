use Rattle.nesting.specs.Columns.{routine_of}
use Rattle.nesting.proofs.Chain.{either_table}
use Rattle.nesting.proofs.sizes_wrong.Goals as goal

pub returns-then-block_sizes_wrong : goal.returns-then-block_sizes_wrong
returns-then-block_sizes_wrong c = rw (← either_table (routine_of c.args.tables.now), ← c.block_sizes_wrong.ensures, c.if-block_sizes_wrong.true)

pub returns-else-block_sizes_wrong : goal.returns-else-block_sizes_wrong
returns-else-block_sizes_wrong c = rw (← either_table (routine_of c.args.tables.now), ← c.block_sizes_wrong.ensures, c.if-block_sizes_wrong.false) c.loop_sizes_wrong.ensures
