use Rattle.std.proofs.Common.{rules}
use Rattle.std.proofs.lemmas.Result.{err_from_is_err_and}
use Rattle.declarations.proofs.Parts.{variable_text, variable_bad}
use Rattle.declarations.proofs.variable_end.Goals as goal

pub returns-in_err-found : goal.returns-in_err-found
returns-in_err-found c = let h = err_from_is_err_and c.from_residual.result c.from_residual.ensures.1 in rw (h.1, h.2) (variable_bad _ _ _ _ c.variable_at.ensures _ c.in_err-found.was)

pub returns : goal.returns
returns c = variable_text _ _ _ _ c.variable_at.ensures _ c.in_ok-found.was (grind rules) c.text_at.ensures
