use Prim.Native.Nat.{◌*◌, ◌-◌}
use lib.ListN.{length}
use Rattle.order.specs.Edges.{edge_target}
use Rattle.order.proofs.Removal.{Taken}
use Rattle.order.proofs.order_of.Given as goal

abbrev pub invariant-loop-i : goal.invariant-loop-i
invariant-loop-i l = Taken (edge_target l.around l.tables.loops.now l.tables.first.now l.tables.second.now l.tables.header.now) (length l.tables.loops.now) l.counts l.blocks (2 * l.i) l.count

abbrev pub decreases-loop-i : goal.decreases-loop-i
decreases-loop-i l = length l.tables.loops.now - l.i
