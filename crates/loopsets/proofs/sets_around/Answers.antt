use Rattle.std.proofs.Common.{◌≡◌, arith, length}
use Rattle.loopsets.specs.Sets.{set_at}
use Rattle.loopsets.proofs.Laws.{filled_first, filled_next, filled_all}
use Rattle.loopsets.proofs.sets_around.Goals as goal

pub loop-l-init : goal.loop-l-init
loop-l-init c = filled_first _ c.requires.2

pub offset_bounds-around-l : goal.offset_bounds-around-l
offset_bounds-around-l c = omega (arith, c.requires.1)

pub loop-l-preserved : goal.loop-l-preserved
unfolding set_at
loop-l-preserved c =
    filled_next c.args.parent.now c.loop-l.around c.requires.2 c.loop-l.l c.loop-l.auto.l c.loop-l-test.true c.requires.1 c.loop-l.invariant c.with-t.result (omega arith)
    (rw c.set_at-s.ensures at c.with-t.ensures)

pub returns : goal.returns
returns c =
    let p = c.args.parent.now in
    let all : c.loop-l.l ≡ length p = omega arith in
    filled_all p c.loop-l.around (rw all at c.loop-l.invariant)
