use Rattle.multipliers.proofs.Rounds.{Taking}
use Rattle.multipliers.proofs.take_rounds.Given as goal

abbrev pub invariant-loop-l : goal.invariant-loop-l
invariant-loop-l l = Taking l.kept l.tables.cost.now l.tables.header.now l.tables.limit.now l.depths.each l.d l.initial.made l.initial.weights l.made l.weights l.l
