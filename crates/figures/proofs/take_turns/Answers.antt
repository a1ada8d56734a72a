use Rattle.std.proofs.Common.{rules, ◌≡◌, sym, true, pos, arith, get_or, is_err, FitsSigned}
use mir.Syntax.{w64}
use mir.Facts.{to_z-of_z}
use Rattle.integers.proofs.Laws.{ints}
use Rattle.multipliers.specs.Columns.{kept_at}
use Rattle.figures.proofs.Turns.{turning_skip, turning_next, turning_over}
use Rattle.figures.proofs.take_turns.Goals as goal
use Rattle.figures.proofs.take_turns.Goals.{then-j+in_ok-heads, else-j}

pub returns-in_err-heads : goal.returns-in_err-heads
returns-in_err-heads c =
    let a = c.args in
    let o = c.loop-l in
    let l = o.l in
    let vf : FitsSigned w64 (get_or o.heads l (pos 0)) = search rules in
    let gf : FitsSigned w64 c.turn_at-given.result = search rules in
    let ff : FitsSigned w64 c.higher.result = search rules in
    let wf : FitsSigned w64 (get_or a.kept.now (kept_at l a.d) (pos 0)) = search rules in
    let over : is_err c.from_residual.result ≡ true = c.from_residual.ensures.0 in
    let e = sym (rw (to_z-of_z ff) at c.in_err-heads.ensures.over) in
    rw over
    (turning_over a.kept.now a.made.now a.level.now a.d a.m a.heads.now c.requires.0 o.heads l o.invariant (omega arith) c.if-j.true c.turn_at-given.result c.higher.result
    (rw (c.kept_at.ensures.0, to_z-of_z wf) at c.turn_at-given.ensures) (rw (to_z-of_z vf, to_z-of_z gf) at c.higher.ensures.0) (omega (ints, e)))

pub loop-l-preserved : goal.loop-l-preserved
loop-l-preserved c =
    let a = c.args in
    let o = c.loop-l in
    let l = o.l in
    elim c.if-j.branch [
      | then-j+in_ok-heads w ↦
          let vf : FitsSigned w64 (get_or o.heads l (pos 0)) = search rules in
          let gf : FitsSigned w64 w.turn_at-given.result = search rules in
          let ff : FitsSigned w64 w.higher.result = search rules in
          let wf : FitsSigned w64 (get_or a.kept.now (kept_at l a.d) (pos 0)) = search rules in
          let r = rw (to_z-of_z vf, to_z-of_z gf) at w.higher.ensures in
          let e = sym (rw (to_z-of_z ff) at w.in_ok-heads.ensures.over) in
          let s = rw (to_z-of_z ff) at w.in_ok-heads.ensures.same in
          rw (w.heads-is, s, to_z-of_z ff)
          (turning_next a.kept.now a.made.now a.level.now a.d a.m a.heads.now c.requires.0 o.heads l o.invariant (omega arith) w.if-j.true w.turn_at-given.result w.higher.result
          (rw (w.kept_at.ensures.0, to_z-of_z wf) at w.turn_at-given.ensures) r.0 r.1 (omega (ints, e)))
      | else-j w ↦ rw w.heads-is (turning_skip a.kept.now a.made.now a.level.now a.d a.m a.heads.now c.requires.0 o.heads l o.invariant (omega arith) w.if-j.false)
    ]
