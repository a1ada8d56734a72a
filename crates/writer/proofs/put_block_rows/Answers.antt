use Rattle.std.proofs.Common.{arith}
use Rattle.writer.proofs.Spans.{filled_none, filled_space, filled_next, filled_all}
use Rattle.writer.proofs.put_block_rows.Goals as goal

pub loop-u-init : goal.loop-u-init
loop-u-init c = filled_none _ _ _ c.args.out.now (omega arith) c.requires

pub put-requires : goal.put-requires
put-requires c = rw c.block_row.ensures (filled_space _ _ _ c.args.out.now _ _ c.loop-u.invariant (omega arith))

pub loop-u-preserved : goal.loop-u-preserved
loop-u-preserved c = filled_next _ _ _ c.args.out.now _ _ c.loop-u.invariant (omega arith) (rw c.block_row.ensures at c.put.ensures)

pub returns : goal.returns
returns c = filled_all _ _ _ c.args.out.now _ _ c.loop-u.invariant (omega arith)
