use Rattle.nesting.specs.Columns.{routine_of}
use Rattle.walk.proofs.Walks.{Underway}
use Rattle.walk.proofs.follow.Given as goal

abbrev pub invariant-loop-i : goal.invariant-loop-i
invariant-loop-i l = Underway (routine_of l.tables) l.blocks l.counts l.run l.i
