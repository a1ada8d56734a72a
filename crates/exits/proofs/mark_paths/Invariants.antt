use Rattle.std.proofs.Common.{◌≡◌, ◌-◌, true, length}
use Rattle.limits.specs.Limits.{most_blocks}
use Rattle.exits.specs.Marks.{link_columns, marked, unmarked, Sound}
use Rattle.exits.proofs.mark_paths.Given as goal

abbrev pub invariant-loop : goal.invariant-loop
invariant-loop l = (length l.marks ≡ most_blocks) × (marked l.marks (length l.first - 1) ≡ true) × Sound (link_columns l.first l.second) l.marks

abbrev pub decreases-loop : goal.decreases-loop
decreases-loop l = unmarked (length l.first) l.marks
