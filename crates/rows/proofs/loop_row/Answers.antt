use Rattle.std.proofs.lemmas.Result.{err_from_is_err_and}
use Rattle.rows.proofs.Rows.{loop_0, loop_1, loop_2, loop_3, loop_4, loop_placed}
use Rattle.rows.proofs.loop_row.Goals as goal

pub returns-in_err-number : goal.returns-in_err-number
returns-in_err-number c =
    let p = err_from_is_err_and c.from_residual.result c.from_residual.ensures.1 in
    rw (p.1, p.2) (search (loop_0, c.in_err-number.was))

pub returns-in_err-parent : goal.returns-in_err-parent
returns-in_err-parent c =
    let p = err_from_is_err_and c.from_residual-in_err-parent.result c.from_residual-in_err-parent.ensures.1 in
    rw (p.1, p.2) (search (loop_1, c.in_ok-number.was, c.in_err-parent.was))

pub returns-in_err-header : goal.returns-in_err-header
returns-in_err-header c =
    let p = err_from_is_err_and c.from_residual-in_err-header.result c.from_residual-in_err-header.ensures.1 in
    rw (p.1, p.2) (search (loop_2, c.in_ok-number.was, c.in_ok-parent.was, c.in_err-header.was))

pub returns-in_err-limit : goal.returns-in_err-limit
returns-in_err-limit c =
    let p = err_from_is_err_and c.from_residual-in_err-limit.result c.from_residual-in_err-limit.ensures.1 in
    rw (p.1, p.2) (search (loop_3, c.in_ok-number.was, c.in_ok-parent.was, c.in_ok-header.was, c.in_err-limit.was))

pub returns-in_err-multiplier : goal.returns-in_err-multiplier
returns-in_err-multiplier c =
    let p = err_from_is_err_and c.from_residual-in_err-multiplier.result c.from_residual-in_err-multiplier.ensures.1 in
    rw (p.1, p.2) (search (loop_4, c.in_ok-number.was, c.in_ok-parent.was, c.in_ok-header.was, c.in_ok-limit.was, c.in_err-multiplier.was))

pub returns : goal.returns
returns c = search (loop_placed, c.in_ok-number.was, c.in_ok-parent.was, c.in_ok-header.was, c.in_ok-limit.was, c.in_ok-multiplier.was)
