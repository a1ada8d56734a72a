use Rattle.exits.specs.Marks.{link_columns}
use Rattle.exits.proofs.Passes.{PassedFrom}
use Rattle.exits.proofs.mark_pass.Given as goal

abbrev pub invariant-loop-i : goal.invariant-loop-i
invariant-loop-i l = PassedFrom (link_columns l.first l.second) l.order l.initial.marks l.marks l.more l.i
