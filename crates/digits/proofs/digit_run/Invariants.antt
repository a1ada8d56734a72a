use Rattle.digits.proofs.Runs.{Gathered}
use Rattle.digits.proofs.digit_run.Given as goal

abbrev pub invariant-loop-i : goal.invariant-loop-i
invariant-loop-i g l = Gathered g.T.Unsigned.of g.T.Unsigned.greatest l.text l.at (g.T.Unsigned.number l.n) l.i
