use Rattle.std.proofs.Common.{rules, arith, FitsSigned}
use mir.Syntax.{w64}
use mir.Facts.{to_z-of_z}
use Rattle.multipliers.proofs.Rounds.{keeping_set, keeping_skip}
use Rattle.multipliers.proofs.keep_tails.Goals as goal
use Rattle.multipliers.proofs.keep_tails.Goals.{then-d-depths, else-d-depths}

pub loop-l-preserved : goal.loop-l-preserved
loop-l-preserved c =
    let p = c.requires in
    let loop = c.loop-l in
    elim c.if-d-depths.branch [
      | then-d-depths w ↦
          let f : FitsSigned w64 w.tail_of.result = search rules in
          rw (w.kept-is, w.kept_at.ensures.0, to_z-of_z f) (keeping_set _ _ _ _ _ _ _ loop.kept loop.l loop.invariant (omega (arith, p.3)) p.1 p.2 _ w.tail_of.ensures)
      | else-d-depths w ↦ rw w.kept-is (keeping_skip _ _ _ _ _ _ _ loop.kept loop.l loop.invariant (omega arith))
    ]
