use Rattle.multipliers.proofs.Rounds.{Keeping}
use Rattle.multipliers.proofs.keep_tails.Given as goal

abbrev pub invariant-loop-l : goal.invariant-loop-l
invariant-loop-l l = Keeping l.values l.edges.firsts l.edges.seconds l.header l.depths.each l.d l.initial.kept l.kept l.l
