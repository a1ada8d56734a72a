use Rattle.std.proofs.Common.{rules, pos, arith, FitsSigned}
use mir.Syntax.{w64}
use mir.Facts.{to_z-of_z}
use Rattle.solver.proofs.Written.{written}
use Rattle.solver.proofs.finish.Goals as goal

pub returns : goal.returns
returns c =
    let f : FitsSigned w64 c.bound_at_exit.result = search rules in
    rw (to_z-of_z f) (record {
      figures_written = written (pos 0) c.args.figures.now c.args.figure.now _ (omega arith) c.copy_from_slice.ensures.after;
      multipliers_written = written 0 c.args.made.now c.args.multiplier.now _ (omega arith) c.copy_from_slice-2.ensures.after;
      bounded = c.bound_at_exit.ensures;
    })
