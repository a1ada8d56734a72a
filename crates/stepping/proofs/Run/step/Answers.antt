use Rattle.std.proofs.Common.{arith}
use Rattle.std.proofs.lemmas.Result.{err_from_is_err_and}
use Rattle.stepping.specs.Step.{step_columns}
use Rattle.stepping.proofs.Steps.{refused, passed, few_visits, moved}
use Rattle.stepping.proofs.Run.step.Goals as goal

pub returns-in_err-edge_answer : goal.returns-in_err-edge_answer
returns-in_err-edge_answer c =
    let p = err_from_is_err_and c.from_residual.result c.from_residual.ensures.1 in
    rw (p.1, p.2) record {
      counts_are = λ x. (refused _ c.args.around.now _ _ _ _ (c.requires.walkable, c.requires.standing) _ c.edge_answer.ensures _ c.in_err-edge_answer.was).counts_are;
      is_step = λ x W S. refused (step_columns c.args.tables.now x) c.args.around.now _ _ _ _ (W, S) _ c.edge_answer.ensures _ c.in_err-edge_answer.was;
    }

pub bounds-tables-to : goal.bounds-tables-to
bounds-tables-to c = omega (arith, passed _ c.args.around.now c.args.counts.now _ _ _ (c.requires.walkable, c.requires.standing) _ c.edge_answer.ensures _ c.in_ok-edge_answer.was)

pub visit-requires : goal.visit-requires
visit-requires c = (
  omega (arith, passed _ c.args.around.now c.args.counts.now _ _ _ (c.requires.walkable, c.requires.standing) _ c.edge_answer.ensures _ c.in_ok-edge_answer.was),
  few_visits _ c.args.around.now _ _ _ _ (c.requires.walkable, c.requires.standing) _ c.edge_answer.ensures _ c.in_ok-edge_answer.was _ _ c.set_at-here.ensures c.contains.ensures,
)

pub bounds-tables-to-2 : goal.bounds-tables-to-2
bounds-tables-to-2 c = omega (arith, passed _ c.args.around.now c.args.counts.now _ _ _ (c.requires.walkable, c.requires.standing) _ c.edge_answer.ensures _ c.in_ok-edge_answer.was)

pub returns : goal.returns
returns c = record {
  counts_are = λ x.
      (moved _ c.args.around.now _ _ _ _ (c.requires.walkable, c.requires.standing) _ c.edge_answer.ensures _ c.in_ok-edge_answer.was _ _ c.set_at-here.ensures c.contains.ensures
      _ c.visit.ensures.0 _ c.visit.ensures.1).counts_are;
  is_step = λ x W S.
      moved (step_columns c.args.tables.now x) c.args.around.now _ _ _ _ (W, S) _ c.edge_answer.ensures _ c.in_ok-edge_answer.was _ _ c.set_at-here.ensures c.contains.ensures
      _ c.visit.ensures.0 _ c.visit.ensures.1;
}
