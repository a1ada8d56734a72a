use Rattle.commands.proofs.Refusals.{refused}
use Rattle.commands.proofs.Steps.{vector_bad, vector_value}
use Rattle.commands.proofs.vector_at.Goals as goal

pub returns-in_err-digits : goal.returns-in_err-digits
returns-in_err-digits c = let h = refused _ _ _ _ c.in_err-digits.ensures.value c.from_residual.ensures.1 in rw h.1 (vector_bad _ _ _ _ c.digits_at.ensures h.0)

pub returns-in-Some : goal.returns-in-Some
returns-in-Some c = vector_value _ _ _ _ _ c.digits_at.ensures c.in_ok-digits.ensures.ok_part (rw c.in-Some.is c.change_at.ensures)

pub returns-in-None : goal.returns-in-None
returns-in-None c = vector_value _ _ _ _ _ c.digits_at.ensures c.in_ok-digits.ensures.ok_part (rw c.in-None.is c.unfit_at.ensures)
