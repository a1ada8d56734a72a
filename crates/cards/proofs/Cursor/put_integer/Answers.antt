use Rattle.cards.specs.Cards.{Put}
use Rattle.cards.proofs.Buffer.{minus, no_minus, some_minus, space_minus, space_digits, put_digits}
use Rattle.cards.proofs.Cursor.put_integer.Goals as goal
use Rattle.cards.proofs.Cursor.put_integer.Goals.{then-negative, else-negative}

pub put-requires : goal.put-requires
put-requires c = space_minus c.args.negative c.args.n c.args.self.now c.requires.some c.requires.space c.if-negative.true

pub put_numeral-requires : goal.put_numeral-requires
put_numeral-requires c =
    let p : Put (minus c.args.negative) c.args.self.now c.if-negative.self = elim c.if-negative.branch [
      | then-negative w ↦ rw w.self-is (some_minus c.args.negative c.args.self.now w.if-negative.true w.put.ensures)
      | else-negative w ↦ rw w.self-is (no_minus c.args.negative c.args.self.now w.if-negative.false)
    ] in
    space_digits c.args.negative c.args.n c.args.self.now c.requires.some c.requires.space p

pub returns : goal.returns
returns c =
    let p : Put (minus c.args.negative) c.args.self.now c.if-negative.self = elim c.if-negative.branch [
      | then-negative w ↦ rw w.self-is (some_minus c.args.negative c.args.self.now w.if-negative.true w.put.ensures)
      | else-negative w ↦ rw w.self-is (no_minus c.args.negative c.args.self.now w.if-negative.false)
    ] in
    put_digits c.args.negative c.args.n c.args.self.now c.requires.some c.requires.space p c.put_numeral.ensures
