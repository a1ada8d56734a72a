use Rattle.commands.proofs.Refusals.{refused}
use Rattle.commands.proofs.Steps.{scalar_bad, scalar_named, scalar_other}
use Rattle.commands.proofs.scalar_at.Goals as goal

pub returns-in_err-found : goal.returns-in_err-found
returns-in_err-found c = let h = refused _ _ _ _ c.in_err-found.ensures.value c.from_residual.ensures.1 in rw h.1 (scalar_bad _ _ _ _ c.code_at.ensures h.0)

pub returns-then-found : goal.returns-then-found
returns-then-found c = scalar_named _ _ _ _ c.code_at.ensures _ c.in_ok-found.ensures.ok_part c.if-found.true

pub returns : goal.returns
returns c = scalar_other _ _ _ _ c.code_at.ensures _ c.requires c.in_ok-found.ensures.ok_part c.if-found.false
