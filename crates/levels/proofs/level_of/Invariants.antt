use Rattle.levels.proofs.Filled.{Levelled}
use Rattle.levels.proofs.level_of.Given as goal

abbrev pub invariant-loop-l : goal.invariant-loop-l
invariant-loop-l l = Levelled l.parent l.d l.level l.l
