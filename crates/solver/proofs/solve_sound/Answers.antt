use Rattle.std.proofs.Common.{arith}
use Rattle.nesting.specs.Columns.{routine_of}
use Rattle.nesting.proofs.Stages.{headed, innermost, linked}
use Rattle.order.proofs.Orders.{declared, topological}
use Rattle.solver.proofs.Reply.{undeclared_refused}
use Rattle.solver.proofs.solve_sound.Goals as goal

pub order_of-order-requires : goal.order_of-order-requires
order_of-order-requires c =
    let t = routine_of c.args.tables.now in
    let R = (headed t c.requires.0).ranged in
    (innermost t R, rw R.sized.loops (linked t R))

pub returns-then-order-tables : goal.returns-then-order-tables
returns-then-order-tables c =
    let t = routine_of c.args.tables.now in
    let O = c.order_of-order.ensures _ _ _ _ _ c.requires.0 c.requires.1 in
    undeclared_refused t c.requires.0 _ O (omega arith)

pub remake-requires : goal.remake-requires
remake-requires c =
    let t = routine_of c.args.tables.now in
    let O = c.order_of-order.ensures _ _ _ _ _ c.requires.0 c.requires.1 in (
      record {
        rules = c.requires.0;
        sets_around_lem = c.requires.1;
        ordered = topological t c.requires.0 _ O (omega (arith, O.few));
        declared = declared t c.requires.0 _ O (omega arith);
      },
      c.requires.2,
      c.requires.3,
      c.requires.4,
    )
