use Rattle.digits.proofs.Runs.{none_here, run_here, run_over, run_on, run_past}
use Rattle.digits.proofs.digit_run.Goals as goal

pub returns-then-not-is_ascii_digit : goal.returns-then-not-is_ascii_digit
returns-then-not-is_ascii_digit g c = let z = g.met.T.Unsigned.of_number c.loop-i.n in search (run_here, none_here)

pub returns-in_default : goal.returns-in_default
returns-in_default g c = search run_past

pub loop-i-preserved : goal.loop-i-preserved
loop-i-preserved g c = run_on g.T.Unsigned.of g.T.Unsigned.greatest c.args.text.now c.args.at _ c.loop-i.i c.loop-i.invariant c.loop-i-test.true c.is_ascii_digit.ensures.value c.if-not-is_ascii_digit.false c.with_digit.ensures g.T.Unsigned.number g.met.T.Unsigned.number_of c.in-Some.next c.in-Some.is

pub returns : goal.returns
returns g c = let z = g.met.T.Unsigned.of_number c.loop-i.n in search run_over
