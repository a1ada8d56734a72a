use Rattle.std.proofs.Common.{◌∙◌, ap, Ok, rules}
use Rattle.std.proofs.lemmas.Result.{err_from_is_err_and}
use Rattle.recordings.proofs.Gathering.{turn_start, turn_same, turn_full, turn_read, turn_bad, turn_ended}
use Rattle.recordings.proofs.gather.Goals as goal

pub loop-to-init : goal.loop-to-init
loop-to-init c = turn_start _ _ _ _ _ c.requires

pub returns-in_err-to : goal.returns-in_err-to
returns-in_err-to c =
    let p = err_from_is_err_and c.from_residual.result c.from_residual.ensures.1 in
    rw (p.1, p.2) (turn_bad _ _ _ _ _ _ _ _ c.loop-to.invariant c.command_at.ensures _ c.in_err-to.was)

pub returns-then-count-room : goal.returns-then-count-room
returns-then-count-room c =
    turn_full _ _ _ _ _ _ _ _ c.loop-to.invariant c.command_at.ensures _ _ _ (c.in_ok-to.was ∙ ap Ok c.in-Value.is) (λ e. search rules) c.if-count-room.true

pub loop-to-preserved-else-count-room : goal.loop-to-preserved-else-count-room
loop-to-preserved-else-count-room c =
    turn_read _ _ _ _ _ _ _ _ c.loop-to.invariant c.command_at.ensures _ _ _ (c.in_ok-to.was ∙ ap Ok c.in-Value.is) (λ e. search rules) c.if-count-room.false

pub loop-to-preserved : goal.loop-to-preserved
loop-to-preserved c =
    turn_same _ _ _ _ _ _ _ _ c.loop-to.invariant c.command_at.ensures _ _ _ (c.in_ok-to.was ∙ ap Ok c.in-Value.is) (search rules)

pub returns-in-Ended : goal.returns-in-Ended
returns-in-Ended c = turn_ended _ _ _ _ _ _ _ _ c.loop-to.invariant c.command_at.ensures (c.in_ok-to.was ∙ ap Ok c.in-Ended.is)
