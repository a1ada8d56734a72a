use Rattle.std.proofs.Common.{◌+◌, ◌-◌, ◌≤◌}
use Rattle.figures.proofs.Heads.{Filling}
use Rattle.figures.proofs.head_figures.Given as goal

abbrev pub invariant-loop-d : goal.invariant-loop-d
invariant-loop-d l = (l.d ≤ l.depths.most + 1) × Filling l.parent l.kept l.made l.heads (l.d - 1)
