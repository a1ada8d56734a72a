use Rattle.std.proofs.Common.{◌≡◌, arith, length}
use Rattle.levels.proofs.Filled.{filled_first, filled_small, filled_next, filled_all}
use Rattle.levels.proofs.depths_of.Goals as goal

pub loop-l-init : goal.loop-l-init
loop-l-init c = filled_first _ c.requires.2

pub overflow_add-depth : goal.overflow_add-depth
overflow_add-depth c =
    omega (arith, filled_small c.args.parent.now c.requires.2 c.loop-l.each c.loop-l.most c.loop-l.l (omega arith) c.loop-l.invariant)

pub loop-l-preserved : goal.loop-l-preserved
loop-l-preserved c =
    filled_next c.args.parent.now c.requires.2 c.loop-l.each c.loop-l.most c.loop-l.l _ (omega arith) (omega arith) (omega arith) c.loop-l.invariant (omega arith)

pub returns : goal.returns
returns c =
    let all : c.loop-l.l ≡ length c.args.parent.now = omega arith in
    filled_all c.args.parent.now c.requires.2 c.loop-l.each c.loop-l.most (rw all at c.loop-l.invariant)
