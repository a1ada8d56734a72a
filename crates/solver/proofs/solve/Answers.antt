use Rattle.std.proofs.Common.{rules, refl, arith, FitsSigned}
use Rattle.std.proofs.lemmas.Result.{err_from_is_err_and}
use mir.Syntax.{w64}
use mir.Facts.{to_z-of_z}
use Rattle.nesting.specs.Columns.{routine}
use Rattle.nesting.proofs.Stages.{headed}
use Rattle.nesting.proofs.Chain.{sound_holds, sound_sets}
use Rattle.solver.specs.declared.SolveFault.TheVariants.{Structure}
use Rattle.solver.proofs.Reply.{structure_refused, fault_solved}
use Rattle.solver.proofs.Columns.{zeros, priced, figures_written, accepted_solved}
use Rattle.solver.proofs.solve.Goals as goal

pub returns-in_err-around : goal.returns-in_err-around
returns-in_err-around c =
    let a = c.args in
    let t = routine a.cost.now a.loops.now a.first.now a.second.now a.figure.now a.parent.now a.header.now a.limit.now a.multiplier.now in
    let p = err_from_is_err_and c.from_residual.result c.from_residual.ensures.1 in
    rw (p.1, p.2) (fault_solved t (Structure _) (structure_refused t _ c.in_err-around.ensures))

pub solve_sound-remade-requires : goal.solve_sound-remade-requires
solve_sound-remade-requires c =
    let a = c.args in
    let t = routine a.cost.now a.loops.now a.first.now a.second.now a.figure.now a.parent.now a.header.now a.limit.now a.multiplier.now in
    (sound_holds t _ c.in_ok-around.ensures, sound_sets t _ c.in_ok-around.ensures, refl, refl, zeros 64)

pub finish-requires : goal.finish-requires
finish-requires c =
    let a = c.args in
    let t = routine a.cost.now a.loops.now a.first.now a.second.now a.figure.now a.parent.now a.header.now a.limit.now a.multiplier.now in
    let Q = c.in_ok-remade.ensures in
    let R = (headed t Q.solvable.rules).ranged in
    let M = Q.columns.multiplied in
    let F = Q.columns.figured in (
      omega (arith, R.sized.figures, R.sized.few_blocks),
      omega (arith, R.sized.multipliers, R.sized.few_loops),
      λ fs W. rw (figures_written t _ _ Q.solvable _ _ _ M _ F fs W) (priced t _ _ Q.solvable _ _ _ M _ F),
    )

pub returns : goal.returns
returns c =
    let a = c.args in
    let t = routine a.cost.now a.loops.now a.first.now a.second.now a.figure.now a.parent.now a.header.now a.limit.now a.multiplier.now in
    let Q = c.in_ok-remade.ensures in
    let E = c.finish.ensures in
    let f : FitsSigned w64 c.finish.result = search rules in
    rw (to_z-of_z f) (accepted_solved t _ _ Q.solvable _ _ _ Q.columns.multiplied _ Q.columns.figured _ E.figures_written _ E.multipliers_written _ E.bounded)
