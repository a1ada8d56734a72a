use Rattle.stages.proofs.Stages.{none_there, blocks_there, blocks_unread, blocks_refused, blocks_taken}
use Rattle.stages.proofs.blocks_stage.Goals as goal

pub returns-in-Neither : goal.returns-in-Neither
returns-in-Neither c = blocks_unread _ _ _ _ (none_there c.in-Neither.is) c.refused.ensures

pub returns-in-Err : goal.returns-in-Err
returns-in-Err c = blocks_refused _ _ _ _ (blocks_there _ c.in_default.not-Neither) c.read_blocks-read.ensures c.in-Err.fault c.in-Err.is (rw (c.number.ensures, c.place.ensures) at c.refused-in-Err.ensures)

pub returns-in-Ok : goal.returns-in-Ok
returns-in-Ok c = blocks_taken _ _ _ _ (blocks_there _ c.in_default.not-Neither) c.read_blocks-read.ensures c.in-Ok.rows c.leading.ensures c.leading-in-Ok.ensures c.leading-in-Ok-2.ensures c.leading-in-Ok-3.ensures c.leading-in-Ok-4.ensures c.loops_stage.ensures c.in-Ok.is
