use Rattle.std.proofs.lemmas.Result.{err_from_is_err_and}
use Rattle.rows.proofs.Rows.{loop_faulty, loop_sound, loop_fits}
use Rattle.rows.proofs.loop_of.Goals as goal

pub returns-in_err-own : goal.returns-in_err-own
returns-in_err-own c = λ at q.
    let p = err_from_is_err_and c.from_residual.result c.from_residual.ensures.1 in
    rw (p.1, p.2) (search (loop_faulty, c.in_err-own.was))

pub loop_row-requires : goal.loop_row-requires
loop_row-requires c = search loop_fits

pub returns : goal.returns
returns c = λ at q. search (loop_sound, c.in_ok-own.was)
