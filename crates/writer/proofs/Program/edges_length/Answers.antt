use Rattle.writer.specs.Programs.{sets_of, table_of}
use Rattle.writer.proofs.Edges.{lines_none, measured_none, measured_skip, measured_next, measured_fits, measured_all}
use Rattle.writer.proofs.Program.edges_length.Goals as goal
use Rattle.writer.proofs.Program.edges_length.Goals.{in-Some, in_default}

pub loop-e-init : goal.loop-e-init
loop-e-init c = measured_none _ _

pub overflow_add-total : goal.overflow_add-total
overflow_add-total c = measured_fits (sets_of c.args.self.now) (table_of c.args.self.now) _ _ c.loop-e.invariant c.args.self.now.readable.linked.few _ c.length-total.ensures.most

pub loop-e-preserved : goal.loop-e-preserved
loop-e-preserved c = elim c.match-edge_at.branch [
  | in-Some w ↦ rw w.total-is (measured_next (sets_of c.args.self.now) (table_of c.args.self.now) _ _ c.loop-e.invariant c.loop-e-test.true _ (rw (← w.in-Some.ensures) w.length-total.ensures.exact) w.length-total.ensures.most)
  | in_default w ↦ rw w.total-is (measured_skip (sets_of c.args.self.now) (table_of c.args.self.now) _ _ c.loop-e.invariant c.loop-e-test.true (lines_none _ (table_of c.args.self.now) _ _ c.edge_at.ensures w.in_default.not-Some))
]

pub returns : goal.returns
returns c = measured_all (sets_of c.args.self.now) (table_of c.args.self.now) _ _ c.loop-e.invariant c.loop-e-test.false
