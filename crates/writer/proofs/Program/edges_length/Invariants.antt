use Rattle.writer.specs.Programs.{sets_of, table_of}
use Rattle.writer.proofs.Edges.{Measured}
use Rattle.writer.proofs.Program.edges_length.Given as goal

abbrev pub invariant-loop-e : goal.invariant-loop-e
invariant-loop-e l = Measured (sets_of l.self) (table_of l.self) l.total l.e
