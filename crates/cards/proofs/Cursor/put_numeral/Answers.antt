use Rattle.std.proofs.Common.{arith, refl, ◌∙◌, length-set}
use Rattle.cards.proofs.Digits.{digits_next, digits_all, numeral_none}
use Rattle.cards.proofs.Cursor.put_numeral.Goals as goal

pub loop-i-init : goal.loop-i-init
loop-i-init c = (omega arith, refl, refl, numeral_none _ _ _ _ c.numeral_length.ensures)

pub loop-i-preserved : goal.loop-i-preserved
loop-i-preserved c = let inv = c.loop-i.invariant in
    (omega arith, inv.1, rw length-set inv.2, digits_next _ _ _ _ (omega arith) (omega (arith, inv.2, c.loop-i.auto.i, c.numeral_length.ensures, c.requires)) ∙ inv.3)

pub returns : goal.returns
returns c = let inv = c.loop-i.invariant in
    record { same = inv.1; next = omega (arith, c.numeral_length.ensures); held = digits_all _ _ _ _ _ (omega arith) inv.3 }
