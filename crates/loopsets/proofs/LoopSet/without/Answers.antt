use native.Mathlib.Omega.{arith}
use Rattle.bits.proofs.Laws.{has_and_not}
use Rattle.loopsets.specs.Sets.{member}
use Rattle.loopsets.proofs.LoopSet.without.Goals as goal

pub returns : goal.returns
unfolding member
returns c = λ k h. has_and_not 64 _ _ k (omega arith) h
