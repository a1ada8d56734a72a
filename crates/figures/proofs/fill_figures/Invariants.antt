use Rattle.figures.proofs.Pass.{Passing}
use Rattle.figures.proofs.fill_figures.Given as goal

abbrev pub invariant-loop-i : goal.invariant-loop-i
invariant-loop-i l = Passing l.weights l.edges.firsts l.edges.seconds l.edges.order l.n l.initial.values l.figures l.values l.i
