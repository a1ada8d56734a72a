-- The loop sets and the routine of a program's tables.
use Rattle.std.specs.Prelude.{ℕ, List}
use Rattle.wcet.specs.Table.{Routine}
use Rattle.nesting.specs.Columns.{routine_of}
use Rattle.writer.specs.declared.Program.{Program}

abbrev pub sets_of : Program → List ℕ
sets_of p = p.around.now

abbrev pub table_of : Program → Routine
table_of p = routine_of p.tables.now
