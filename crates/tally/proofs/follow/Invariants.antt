use Rattle.nesting.specs.Columns.{routine_of}
use Rattle.tally.proofs.Tallying.{Tallying}
use Rattle.tally.proofs.follow.Given as goal

abbrev pub invariant-loop-i : goal.invariant-loop-i
invariant-loop-i l = Tallying (routine_of l.tables) l.blocks l.counts l.run l.i l.tallies
