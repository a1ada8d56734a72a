use Rattle.writer.specs.Programs.{table_of}
use Rattle.writer.proofs.Reply.{whole_length}
use Rattle.writer.proofs.Program.length.Goals as goal

pub returns : goal.returns
returns c = whole_length _ (table_of c.args.self.now) _ c.args.self.now.readable.headers c.edges_length.ensures
