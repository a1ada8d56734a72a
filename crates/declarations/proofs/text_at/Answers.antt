use Rattle.commands.proofs.Refusals.{refused}
use Rattle.declarations.proofs.Parts.{text_ends, text_missing}
use Rattle.declarations.proofs.text_at.Goals as goal

pub returns-in_err-to : goal.returns-in_err-to
returns-in_err-to c = let h = refused _ _ _ _ c.in_err-to.ensures.value c.from_residual.ensures.1 in rw h.1 (text_missing _ _ _ c.after_end.ensures h.0)

pub returns : goal.returns
returns c = text_ends _ _ _ c.after_end.ensures _ c.in_ok-to.ensures.ok_part
