use Rattle.loopsets.proofs.Laws.{Filled}
use Rattle.loopsets.proofs.sets_around.Given as goal

abbrev pub invariant-loop-l : goal.invariant-loop-l
invariant-loop-l l = Filled l.parent l.around l.l
