use Rattle.commands.proofs.Refusals.{refused}
use Rattle.declarations.proofs.Parts.{code_missing, code_read}
use Rattle.declarations.proofs.variable_code.Goals as goal

pub returns-in_err-from : goal.returns-in_err-from
returns-in_err-from c = let h = refused _ _ _ _ c.in_err-from.ensures.value c.from_residual.ensures.1 in rw h.1 (code_missing _ _ _ c.next_start.ensures h.0)

pub returns : goal.returns
returns c = code_read _ _ _ c.next_start.ensures _ c.in_ok-from.ensures.ok_part c.code_at.ensures c.ok_or-2.ensures.value
