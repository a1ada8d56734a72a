use Rattle.std.proofs.Common.{◌<◌, ◌≤◌, length}
use Rattle.multipliers.proofs.Weights.{Closing}
use Rattle.multipliers.proofs.first_weights.Given as goal

abbrev pub invariant-loop-l : goal.invariant-loop-l
invariant-loop-l l = (1 < l.l → l.l ≤ length l.header) × Closing l.cost l.header l.weights l.l
