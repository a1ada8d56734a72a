use Rattle.std.proofs.Common.{◌≡◌, arith}
use Rattle.exits.proofs.Passes.{pass_marks, passed}
use Rattle.exits.proofs.mark_pass.Goals as goal

pub loop-i-preserved-then-can_mark : goal.loop-i-preserved-then-can_mark
loop-i-preserved-then-can_mark c =
    let o = c.loop-i in
    pass_marks _ _ _ c.requires.0 _ _ o.i (c.requires.1.block _ (omega arith)) o.invariant (rw c.can_mark.ensures at c.if-can_mark.true)

pub returns : goal.returns
returns c =
    let done : c.loop-i.i ≡ 0 = omega arith in
    passed _ _ _ c.requires.1 _ _ (rw done at c.loop-i.invariant)
