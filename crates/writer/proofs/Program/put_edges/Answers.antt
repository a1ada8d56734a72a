use Rattle.std.proofs.Common.{arith}
use Rattle.writer.specs.Programs.{sets_of, table_of}
use Rattle.writer.specs.Pieces.{edges_text}
use Rattle.writer.proofs.Edges.{lines_at, lines_none}
use Rattle.writer.proofs.Spans.{filled_none, filled_space, filled_next, filled_skip, filled_all}
use Rattle.writer.proofs.Program.put_edges.Goals as goal
use Rattle.writer.proofs.Program.put_edges.Goals.{in-Some, in_default}

pub loop-e-init : goal.loop-e-init
unfolding edges_text
loop-e-init c = filled_none (lines_at (sets_of c.args.self.now) (table_of c.args.self.now)) _ _ c.args.out.now (omega arith) c.requires

pub put-requires : goal.put-requires
put-requires c = rw (← c.in-Some.ensures) at (filled_space (lines_at (sets_of c.args.self.now) (table_of c.args.self.now)) _ _ c.args.out.now _ _ c.loop-e.invariant c.loop-e-test.true)

pub loop-e-preserved : goal.loop-e-preserved
loop-e-preserved c = elim c.match-edge_at.branch [
  | in-Some w ↦ rw w.out-is (filled_next (lines_at (sets_of c.args.self.now) (table_of c.args.self.now)) _ _ c.args.out.now _ _ c.loop-e.invariant c.loop-e-test.true (rw (← w.in-Some.ensures) w.put.ensures))
  | in_default w ↦ rw w.out-is (filled_skip (lines_at (sets_of c.args.self.now) (table_of c.args.self.now)) _ _ c.args.out.now _ _ c.loop-e.invariant c.loop-e-test.true (lines_none _ (table_of c.args.self.now) _ _ c.edge_at.ensures w.in_default.not-Some))
]

pub returns : goal.returns
unfolding edges_text
returns c = filled_all (lines_at (sets_of c.args.self.now) (table_of c.args.self.now)) _ _ c.args.out.now _ _ c.loop-e.invariant c.loop-e-test.false
