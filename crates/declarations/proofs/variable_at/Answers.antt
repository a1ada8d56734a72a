use Rattle.std.proofs.lemmas.Result.{err_from_is_err_and}
use Rattle.declarations.proofs.Parts.{first_bad, second_bad, third_read}
use Rattle.declarations.proofs.variable_at.Goals as goal

pub returns-in_err-second : goal.returns-in_err-second
returns-in_err-second c = let h = err_from_is_err_and c.from_residual.result c.from_residual.ensures.1 in rw (h.1, h.2) (first_bad _ _ _ c.plain_word.ensures _ c.in_err-second.was)

pub returns-in_err-third : goal.returns-in_err-third
returns-in_err-third c =
    let h = err_from_is_err_and c.from_residual-in_err-third.result c.from_residual-in_err-third.ensures.1 in
    rw (h.1, h.2) (second_bad _ _ _ c.plain_word.ensures _ c.in_ok-second.was c.plain_word-2.ensures _ c.in_err-third.was)

pub returns : goal.returns
returns c = third_read _ _ _ c.plain_word.ensures _ c.in_ok-second.was c.plain_word-2.ensures _ c.in_ok-third.was c.variable_code.ensures
