use Rattle.stages.proofs.Stages.{table_told, all_there, no_loops_there, loops_unread, loops_refused, loops_taken}
use Rattle.stages.proofs.loops_stage.Goals as goal

pub returns-in_default : goal.returns-in_default
returns-in_default c = loops_unread _ _ _ _ _ _ _ _ (no_loops_there _ c.in_default.not-Both) c.refused.ensures

pub returns-in-Err : goal.returns-in-Err
returns-in-Err c = loops_refused _ _ _ _ _ _ _ _ (all_there c.in-Both.is) c.read_loops-read.ensures c.in-Err.fault c.in-Err.is (rw (c.number.ensures, c.place.ensures) at c.refused-in-Err.ensures)

pub returns-in-Ok : goal.returns-in-Ok
returns-in-Ok c = loops_taken _ _ _ _ _ _ _ _ (all_there c.in-Both.is) c.read_loops-read.ensures c.in-Ok.rows c.leading.ensures c.leading-in-Ok.ensures c.leading-in-Ok-2.ensures c.leading-in-Ok-3.ensures (table_told _ c.check.result c.check.ensures c.table_stage.ensures) c.in-Ok.is
