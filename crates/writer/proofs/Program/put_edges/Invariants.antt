use Rattle.std.proofs.Common.{◌*◌}
use Rattle.wcet.specs.Table.{block_count}
use Rattle.writer.specs.Programs.{sets_of, table_of}
use Rattle.writer.proofs.Edges.{lines_at}
use Rattle.writer.proofs.Spans.{Filled}
use Rattle.writer.proofs.Program.put_edges.Given as goal

abbrev pub invariant-loop-e : goal.invariant-loop-e
invariant-loop-e l = Filled (lines_at (sets_of l.self) (table_of l.self)) 0 (2 * block_count (table_of l.self)) l.initial.out l.e l.out
