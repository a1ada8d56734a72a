use Prim.Native.Nat.{◌*◌, ◌≤◌}
use lib.ListN.{length}
use Rattle.order.specs.Edges.{edge_target, Counted}
use Rattle.order.proofs.incoming_edges.Given as goal

abbrev pub invariant-loop-u : goal.invariant-loop-u
invariant-loop-u l = (l.u ≤ length l.tables.loops.now) × Counted (edge_target l.around l.tables.loops.now l.tables.first.now l.tables.second.now l.tables.header.now) (length l.tables.loops.now) l.counts (2 * l.u)
