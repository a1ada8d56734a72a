use Rattle.std.proofs.Common.{ap, length, length-append, arith}
use Rattle.report.proofs.Lines.{refusal_length, refusal_told}
use Rattle.report.proofs.Line.push_refusal.Goals as goal

pub push-requires : goal.push-requires
push-requires c = omega (arith, refusal_length c.args.refusal, ap length c.word.ensures)

pub push-requires-2 : goal.push-requires-2
push-requires-2 c =
    let stage = simp length-append at (ap length c.push.ensures) in
    omega (arith, refusal_length c.args.refusal, ap length c.word.ensures, stage)

pub push_numeral-requires : goal.push_numeral-requires
push_numeral-requires c =
    let stage = simp length-append at (ap length c.push.ensures) in
    let space = simp length-append at (ap length c.push-2.ensures) in
    rw c.from.ensures (omega (arith, refusal_length c.args.refusal, ap length c.word.ensures, stage, space))

pub push-requires-3 : goal.push-requires-3
push-requires-3 c =
    let stage = simp length-append at (ap length c.push.ensures) in
    let space = simp length-append at (ap length c.push-2.ensures) in
    let number = simp (length-append, c.from.ensures) at (ap length c.push_numeral.ensures) in
    omega (arith, refusal_length c.args.refusal, ap length c.word.ensures, stage, space, number)

pub push_numeral-requires-2 : goal.push_numeral-requires-2
push_numeral-requires-2 c =
    let stage = simp length-append at (ap length c.push.ensures) in
    let space = simp length-append at (ap length c.push-2.ensures) in
    let number = simp (length-append, c.from.ensures) at (ap length c.push_numeral.ensures) in
    let second = simp length-append at (ap length c.push-3.ensures) in
    omega (arith, refusal_length c.args.refusal, ap length c.word.ensures, stage, space, number, second)

pub returns : goal.returns
returns c = refusal_told c.args.refusal c.args.self.now c.word.ensures c.push.ensures c.push-2.ensures (rw c.from.ensures at c.push_numeral.ensures) c.push-3.ensures c.push_numeral-2.ensures
