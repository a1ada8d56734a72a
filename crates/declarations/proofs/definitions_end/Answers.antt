use Rattle.commands.proofs.Refusals.{refused}
use Rattle.declarations.proofs.Parts.{definitions_end, definitions_missing, undeclared}
use Rattle.declarations.proofs.definitions_end.Goals as goal

pub returns-then-not-declared : goal.returns-then-not-declared
returns-then-not-declared c = search undeclared

pub returns-in_err-to : goal.returns-in_err-to
returns-in_err-to c = let h = refused _ _ _ _ c.in_err-to.ensures.value c.from_residual.ensures.1 in rw h.1 (definitions_missing _ _ _ c.after_end.ensures _ c.if-not-declared.false h.0)

pub returns : goal.returns
returns c = definitions_end _ _ _ c.after_end.ensures _ c.if-not-declared.false _ c.in_ok-to.ensures.ok_part
