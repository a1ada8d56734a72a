use Rattle.cards.specs.Cards.{signed}
use Rattle.cards.proofs.Buffer.{signed_zero, signed_some, no_card, space_head, space_integer, space_end, put_card}
use Rattle.cards.proofs.Cursor.put_signed_number.Goals as goal

pub put-requires : goal.put-requires
put-requires c = let a = c.args in space_head a.head.now (signed a.negative a.n) a.self.now (signed_some a.negative a.n c.if-n-ne0.true) c.requires

pub put_integer-requires-clause-space : goal.put_integer-requires-clause-space
put_integer-requires-clause-space c = let a = c.args in space_integer a.head.now (signed a.negative a.n) a.self.now (signed_some a.negative a.n c.if-n-ne0.true) c.requires c.put.ensures

pub put-requires-then-n-ne0 : goal.put-requires-then-n-ne0
put-requires-then-n-ne0 c = let a = c.args in
    space_end a.head.now (signed a.negative a.n) a.self.now (signed_some a.negative a.n c.if-n-ne0.true) c.requires c.put.ensures c.put_integer.ensures

pub returns-then-n-ne0 : goal.returns-then-n-ne0
returns-then-n-ne0 c = let a = c.args in
    put_card a.head.now (signed a.negative a.n) a.self.now (signed_some a.negative a.n c.if-n-ne0.true) c.requires c.put.ensures c.put_integer.ensures c.put-then-n-ne0.ensures

pub returns-else-n-ne0 : goal.returns-else-n-ne0
returns-else-n-ne0 c = let a = c.args in no_card a.head.now (signed a.negative a.n) a.self.now (signed_zero a.negative a.n c.if-n-ne0.false)
