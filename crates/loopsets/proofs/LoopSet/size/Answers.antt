use native.Mathlib.Omega.{arith}
use Rattle.bits.proofs.Laws.{ones_count}
use Rattle.loopsets.specs.Sets.{member}
use Rattle.loopsets.proofs.LoopSet.size.Goals as goal

pub returns : goal.returns
unfolding member
returns c = ones_count 64 _ (omega arith)
