use Rattle.std.proofs.Common.{arith, refl, ◌∙◌, length-set}
use Rattle.cards.proofs.Digits.{digits_none, digits_next, digits_all}
use Rattle.cards.proofs.with_digits.Goals as goal

pub loop-i-init : goal.loop-i-init
loop-i-init g c = (omega arith, refl, digits_none _ _ _ _)

pub loop-i-preserved : goal.loop-i-preserved
loop-i-preserved g c = let inv = c.loop-i.invariant in
    (omega arith, rw length-set inv.1, digits_next _ _ _ _ (omega arith) (omega arith) ∙ inv.2)

pub returns : goal.returns
returns g c = let inv = c.loop-i.invariant in digits_all _ _ _ _ _ (omega arith) inv.2
