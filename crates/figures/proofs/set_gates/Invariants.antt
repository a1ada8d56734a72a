use Rattle.std.proofs.Common.{◌<◌, ◌≤◌, length}
use Rattle.figures.proofs.Pass.{Gating}
use Rattle.figures.proofs.set_gates.Given as goal

abbrev pub invariant-loop-l : goal.invariant-loop-l
invariant-loop-l l = (1 < l.l → l.l ≤ length l.header) × Gating l.cost l.header l.made l.heads l.initial.values l.values l.l
