use Rattle.std.proofs.Common.{arith}
use Rattle.report.proofs.Lines.{one_fits, one_text, front_fits, last_fits, last_text}
use Rattle.report.proofs.Line.+push_numeral.Goals as goal
use Rattle.report.proofs.Line.+push_numeral.Goals.{then-n-ge10, else-n-ge10}

pub push_numeral-requires : goal.push_numeral-requires
push_numeral-requires t c = (omega arith, front_fits c.args.self.now c.args.n c.if-n-ge10.true c.requires)

pub push-requires : goal.push-requires
push-requires t c =
    elim c.if-n-ge10.branch [ then-n-ge10 w ↦ rw w.self-is (last_fits c.args.self.now c.args.n w.if-n-ge10.true w.push_numeral.ensures c.requires) | else-n-ge10 w ↦ rw w.self-is (one_fits c.args.self.now c.args.n w.if-n-ge10.false c.requires) ]

pub returns : goal.returns
returns t c =
    elim c.if-n-ge10.branch [ then-n-ge10 w ↦ last_text c.args.self.now c.args.n w.if-n-ge10.true w.push_numeral.ensures (rw w.self-is at c.push.ensures) | else-n-ge10 w ↦ one_text c.args.self.now c.args.n w.if-n-ge10.false (rw w.self-is at c.push.ensures) ]
