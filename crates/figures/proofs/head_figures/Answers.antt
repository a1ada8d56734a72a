use Rattle.std.proofs.Common.{◌≡◌, ◌+◌, ◌-◌, true, arith, suc, is_err}
use Rattle.figures.proofs.Heads.{filling_first, filling_turnable, filling_next, filling_over, filling_all}
use Rattle.figures.proofs.head_figures.Goals as goal

pub loop-d-init : goal.loop-d-init
loop-d-init c =
    let a = c.args in
    let D = a.depths.now in
    (omega arith, filling_first a.parent.now a.kept.now a.made.now D.each D.most c.requires.0 a.heads.now c.requires.1 c.requires.2)

pub take_turns-requires : goal.take_turns-requires
take_turns-requires c =
    let a = c.args in
    let D = a.depths.now in
    let o = c.loop-d in
    let up : o.d ≡ suc (o.d - 1) = omega arith in (
      rw (← up) at (filling_turnable a.parent.now a.kept.now a.made.now D.each D.most c.requires.0 o.heads (o.d - 1) o.invariant.1 c.level_of-level.result (rw up at c.level_of-level.ensures) (omega arith)),
      c.requires.0.kept_low,
    )

pub returns-in_err-take_turns : goal.returns-in_err-take_turns
returns-in_err-take_turns c =
    let a = c.args in
    let D = a.depths.now in
    let o = c.loop-d in
    let up : o.d ≡ suc (o.d - 1) = omega arith in
    let over : is_err c.from_residual.result ≡ true = c.from_residual.ensures.0 in
    rw over
    (filling_over a.parent.now a.kept.now a.made.now D.each D.most c.requires.0 o.heads (o.d - 1) o.invariant.1 c.level_of-level.result (rw up at c.level_of-level.ensures) c.take_turns.new.heads (rw up at c.in_err-take_turns.ensures))

pub loop-d-preserved : goal.loop-d-preserved
loop-d-preserved c =
    let a = c.args in
    let D = a.depths.now in
    let o = c.loop-d in
    let up : o.d ≡ suc (o.d - 1) = omega arith in
    let next : o.d + 1 - 1 ≡ suc (o.d - 1) = omega arith in (
      omega arith,
      rw next
          (filling_next a.parent.now a.kept.now a.made.now D.each D.most c.requires.0 o.heads (o.d - 1) o.invariant.1 c.level_of-level.result (rw up at c.level_of-level.ensures) c.take_turns.new.heads (rw up at c.in_ok-take_turns.ensures)),
    )

pub returns : goal.returns
returns c =
    let a = c.args in
    let D = a.depths.now in
    let o = c.loop-d in
    let all : o.d - 1 ≡ D.most = omega arith in
    filling_all a.parent.now a.kept.now a.made.now D.each D.most c.requires.0 o.heads (rw all at o.invariant.1)

pub returns-in_ok-take_turns : goal.returns-in_ok-take_turns
returns-in_ok-take_turns c =
    let a = c.args in
    let D = a.depths.now in
    let o = c.loop-d in
    let up : o.d ≡ suc (o.d - 1) = omega arith in
    let all : suc (o.d - 1) ≡ D.most = omega arith in
    filling_all a.parent.now a.kept.now a.made.now D.each D.most c.requires.0 c.take_turns.new.heads
    (rw all at (filling_next a.parent.now a.kept.now a.made.now D.each D.most c.requires.0 o.heads (o.d - 1) o.invariant.1 c.level_of-level.result (rw up at c.level_of-level.ensures) c.take_turns.new.heads (rw up at c.in_ok-take_turns.ensures)))
