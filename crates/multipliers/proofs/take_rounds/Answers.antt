use Rattle.std.proofs.Common.{rules, pos, get_or, arith, FitsSigned}
use mir.Syntax.{w64}
use mir.Facts.{to_z-of_z}
use Rattle.multipliers.specs.Columns.{kept_at}
use Rattle.multipliers.proofs.Rounds.{taking_set, taking_skip}
use Rattle.multipliers.proofs.take_rounds.Goals as goal
use Rattle.multipliers.proofs.take_rounds.Goals.{then-depths-l+else-k-gt-MOST_MULTIPLIER, else-depths-l}

pub loop-l-preserved : goal.loop-l-preserved
loop-l-preserved c =
    let p = c.requires in
    let loop = c.loop-l in
    let a = c.args in
    elim c.if-depths-l.branch [
      | then-depths-l+else-k-gt-MOST_MULTIPLIER w ↦
          let f : FitsSigned w64 w.entry_weight.result = search rules in
          let g : FitsSigned w64 (get_or a.kept.now (kept_at loop.l a.d) (pos 0)) = search rules in
          rw (w.made-is, w.weights-is, to_z-of_z f)
          (taking_set _ _ _ _ _ _ _ _ loop.made loop.weights loop.l loop.invariant (omega arith) p.4 (omega (arith, (p.7 loop.l (omega arith)).0, p.6)) w.if-depths-l.true _ _
          (rw (w.kept_at.ensures.0, to_z-of_z g) at w.round_of-k.ensures) (omega (arith, w.if-k-gt-MOST_MULTIPLIER.false)) w.entry_weight.ensures.0 w.entry_weight.ensures.1)
      | else-depths-l w ↦ rw (w.made-is, w.weights-is) (taking_skip _ _ _ _ _ _ _ _ loop.made loop.weights loop.l loop.invariant (omega arith) w.if-depths-l.false)
    ]
