use Rattle.std.proofs.Common.{arith, ◌/◌}
use Rattle.cards.proofs.Buffer.{length_one, length_more, length_fits}
use Rattle.cards.proofs.+numeral_length.Goals as goal

pub overflow_add-result : goal.overflow_add-result
overflow_add-result t c = length_fits (c.args.n / 10) _ _ (omega arith) c.numeral_length.ensures (omega arith)

pub returns-then-n-lt10 : goal.returns-then-n-lt10
returns-then-n-lt10 t c = length_one _ c.if-n-lt10.true

pub returns-else-n-lt10 : goal.returns-else-n-lt10
returns-else-n-lt10 t c = length_more _ _ c.if-n-lt10.false c.numeral_length.ensures
