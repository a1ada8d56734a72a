use Rattle.std.proofs.Common.{rules, FitsSigned}
use mir.Syntax.{w64}
use mir.Facts.{to_z-of_z}
use Rattle.figures.proofs.Signs.{higher_max}
use Rattle.figures.proofs.higher.Goals as goal

pub returns : goal.returns
returns c =
    let f : FitsSigned w64 c.max.result = search rules in
    rw (to_z-of_z f) (higher_max c.args.a c.args.b c.max.result (rw (to_z-of_z c.ranges.a, to_z-of_z c.ranges.b) at c.max.ensures.value))
