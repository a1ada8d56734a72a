use Rattle.std.proofs.Common.{refl, None}
use Rattle.commands.proofs.Refusals.{refused}
use Rattle.commands.proofs.Steps.{change_missing, change_bad, change_other, change_refused}
use Rattle.commands.proofs.unfit_at.Goals as goal

pub returns-in_err-from : goal.returns-in_err-from
returns-in_err-from c = let h = refused _ _ _ _ c.in_err-from.ensures.value c.from_residual.ensures.1 in rw h.1 (change_missing _ _ _ _ None c.args.place c.next_start.ensures h.0)

pub returns-in_err-found : goal.returns-in_err-found
returns-in_err-found c =
    let h = refused _ _ _ _ c.in_err-found.ensures.value c.from_residual-in_err-found.ensures.1 in
    rw h.1 (change_bad _ _ _ _ None c.args.place c.next_start.ensures _ c.in_ok-from.ensures.ok_part c.code_at.ensures h.0)

pub returns-then-not-found : goal.returns-then-not-found
returns-then-not-found c = change_other _ _ _ _ None c.args.place c.next_start.ensures _ c.in_ok-from.ensures.ok_part c.code_at.ensures _ c.in_ok-found.ensures.ok_part c.if-not-found.true

pub returns : goal.returns
returns c =
    change_refused _ _ _ _ None c.args.place c.next_start.ensures _ c.in_ok-from.ensures.ok_part c.code_at.ensures _ c.in_ok-found.ensures.ok_part c.if-not-found.false refl
