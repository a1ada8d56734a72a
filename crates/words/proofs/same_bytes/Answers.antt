use Rattle.words.proofs.Same.{same_lengths, same_over, same_stops, same_on}
use Rattle.words.proofs.same_bytes.Goals as goal

pub returns-then-a-b : goal.returns-then-a-b
returns-then-a-b c = same_lengths _ _ c.if-a-b.true

pub returns-then-a-i : goal.returns-then-a-i
returns-then-a-i c = search same_stops

pub loop-i-preserved : goal.loop-i-preserved
loop-i-preserved c = search same_on

pub returns : goal.returns
returns c = search same_over
