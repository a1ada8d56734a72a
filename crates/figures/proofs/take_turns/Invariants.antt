use Rattle.figures.proofs.Turns.{Turning}
use Rattle.figures.proofs.take_turns.Given as goal

abbrev pub invariant-loop-l : goal.invariant-loop-l
invariant-loop-l l = Turning l.kept l.made l.level l.d l.initial.heads l.heads l.m l.l
