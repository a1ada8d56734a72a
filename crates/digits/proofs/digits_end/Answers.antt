use Rattle.digits.proofs.Runs.{none_here, end_here, end_on, end_of_text}
use Rattle.digits.proofs.digits_end.Goals as goal

pub returns-then-not-is_ascii_digit : goal.returns-then-not-is_ascii_digit
returns-then-not-is_ascii_digit c = search (end_here, none_here)

pub loop-i-preserved : goal.loop-i-preserved
loop-i-preserved c = search end_on

pub returns : goal.returns
returns c = search end_of_text
