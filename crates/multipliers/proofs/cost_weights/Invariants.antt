use Rattle.multipliers.proofs.Weights.{Weighing}
use Rattle.multipliers.proofs.cost_weights.Given as goal

abbrev pub invariant-loop-x : goal.invariant-loop-x
invariant-loop-x l = Weighing l.cost l.weights l.x
