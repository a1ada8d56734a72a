use Rattle.std.proofs.lemmas.Result.{err_from_is_err_and}
use Rattle.numbers.proofs.Numbers.{plus_none, plus_cast, plus_number}
use Rattle.numbers.proofs.positive_by.Goals as goal

pub returns-in_err-n : goal.returns-in_err-n
returns-in_err-n c =
    let p = err_from_is_err_and c.from_residual.result c.from_residual.ensures.1 in
    rw (p.1, p.2) (search (plus_none, c.in_err-n.was))

pub overflow_cast-result : goal.overflow_cast-result
overflow_cast-result c = search (plus_cast, c.in_ok-n.was)

pub returns : goal.returns
returns c = search (plus_number, c.in_ok-n.was)
