use Rattle.std.proofs.Common.{arith}
use Rattle.writer.proofs.Spans.{filled_none, filled_space, filled_next, filled_all}
use Rattle.writer.proofs.put_loop_rows.Goals as goal

pub loop-l-init : goal.loop-l-init
loop-l-init c = filled_none _ _ _ c.args.out.now (omega arith) c.requires.1

pub put-requires : goal.put-requires
put-requires c = rw c.loop_row.ensures (filled_space _ _ _ c.args.out.now _ _ c.loop-l.invariant (omega arith))

pub loop-l-preserved : goal.loop-l-preserved
loop-l-preserved c = filled_next _ _ _ c.args.out.now _ _ c.loop-l.invariant (omega arith) (rw c.loop_row.ensures at c.put.ensures)

pub returns : goal.returns
returns c = filled_all _ _ _ c.args.out.now _ _ c.loop-l.invariant (omega arith)
