use Rattle.bits.proofs.Laws.{test_has}
use Rattle.loopsets.specs.Sets.{member}
use Rattle.loopsets.proofs.LoopSet.contains.Goals as goal

pub returns : goal.returns
unfolding member
returns c = test_has _ _
