use Rattle.levels.proofs.Filled.{Filled}
use Rattle.levels.proofs.depths_of.Given as goal

abbrev pub invariant-loop-l : goal.invariant-loop-l
invariant-loop-l l = Filled l.parent l.each l.most l.l
