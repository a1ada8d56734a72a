use Rattle.std.proofs.lemmas.Result.{err_from_is_err_and}
use Rattle.rows.proofs.Rows.{block_0, block_1, block_2, block_3, block_4, block_5, block_placed}
use Rattle.rows.proofs.block_row.Goals as goal

pub returns-in_err-number : goal.returns-in_err-number
returns-in_err-number c =
    let p = err_from_is_err_and c.from_residual.result c.from_residual.ensures.1 in
    rw (p.1, p.2) (search (block_0, c.in_err-number.was))

pub returns-in_err-cost : goal.returns-in_err-cost
returns-in_err-cost c =
    let p = err_from_is_err_and c.from_residual-in_err-cost.result c.from_residual-in_err-cost.ensures.1 in
    rw (p.1, p.2) (search (block_1, c.in_ok-number.was, c.in_err-cost.was))

pub returns-in_err-innermost : goal.returns-in_err-innermost
returns-in_err-innermost c =
    let p = err_from_is_err_and c.from_residual-in_err-innermost.result c.from_residual-in_err-innermost.ensures.1 in
    rw (p.1, p.2) (search (block_2, c.in_ok-number.was, c.in_ok-cost.was, c.in_err-innermost.was))

pub returns-in_err-first : goal.returns-in_err-first
returns-in_err-first c =
    let p = err_from_is_err_and c.from_residual-in_err-first.result c.from_residual-in_err-first.ensures.1 in
    rw (p.1, p.2) (search (block_3, c.in_ok-number.was, c.in_ok-cost.was, c.in_ok-innermost.was, c.in_err-first.was))

pub returns-in_err-second : goal.returns-in_err-second
returns-in_err-second c =
    let p = err_from_is_err_and c.from_residual-in_err-second.result c.from_residual-in_err-second.ensures.1 in
    rw (p.1, p.2) (search (block_4, c.in_ok-number.was, c.in_ok-cost.was, c.in_ok-innermost.was, c.in_ok-first.was, c.in_err-second.was))

pub returns-in_err-figure : goal.returns-in_err-figure
returns-in_err-figure c =
    let p = err_from_is_err_and c.from_residual-in_err-figure.result c.from_residual-in_err-figure.ensures.1 in
    rw (p.1, p.2) (search (block_5, c.in_ok-number.was, c.in_ok-cost.was, c.in_ok-innermost.was, c.in_ok-first.was, c.in_ok-second.was, c.in_err-figure.was))

pub returns : goal.returns
returns c = search (block_placed, c.in_ok-number.was, c.in_ok-cost.was, c.in_ok-innermost.was, c.in_ok-first.was, c.in_ok-second.was, c.in_ok-figure.was, c.requires.figure)
