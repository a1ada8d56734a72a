use Rattle.std.proofs.Common.{arith, ◌≤◌}
use Rattle.cards.proofs.Buffer.{signed_zero, length_none, minus_most, length_fits, length_sum, length_card}
use Rattle.cards.proofs.signed_length.Goals as goal

pub returns-then-n-eq0 : goal.returns-then-n-eq0
returns-then-n-eq0 c = length_none _ (signed_zero c.args.negative c.args.n c.if-n-eq0.true)

pub overflow_add-result : goal.overflow_add-result
overflow_add-result c =
    let b : c.from.result ≤ 1 = rw c.from.ensures (minus_most _) in
    length_fits c.args.n c.numeral_length.result c.from.result (omega arith) c.numeral_length.ensures (omega arith)

pub overflow_add-result-2 : goal.overflow_add-result-2
overflow_add-result-2 c =
    let b : c.from.result ≤ 1 = rw c.from.ensures (minus_most _) in
    length_sum c.args.n c.numeral_length.result c.from.result _ (omega arith) c.numeral_length.ensures b (omega arith)

pub returns : goal.returns
returns c = length_card c.args.negative c.args.n c.numeral_length.result c.from.result c.if-n-eq0.false (omega arith) c.numeral_length.ensures c.from.ensures
