use Rattle.std.proofs.lemmas.Result.{err_from_is_err_and}
use Rattle.rows.proofs.Rows.{block_faulty, block_sound, block_fits}
use Rattle.rows.proofs.block_of.Goals as goal

pub returns-in_err-own : goal.returns-in_err-own
returns-in_err-own c = λ at q.
    let p = err_from_is_err_and c.from_residual.result c.from_residual.ensures.1 in
    rw (p.1, p.2) (search (block_faulty, c.in_err-own.was))

pub block_row-requires : goal.block_row-requires
block_row-requires c = search block_fits

pub returns : goal.returns
returns c = λ at q. search (block_sound, c.in_ok-own.was)
