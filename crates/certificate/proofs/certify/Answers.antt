use Rattle.std.proofs.Common.{◌∙◌, ap, arith, FitsSigned, w64}
use mir.Facts.{to_z-of_z}
use Rattle.wcet.specs.Rules.{accepted, bound}
use Rattle.nesting.specs.Columns.{routine_of, Ranged}
use Rattle.nesting.proofs.Stages.{headed, innermost, linked}
use Rattle.certificate.proofs.Edge.{weighable, priced_of}
use Rattle.certificate.proofs.Reply.{undeclared_refused, inequality_refused, bound_accepted}
use Rattle.certificate.proofs.certify.Goals as goal

pub order_of-order-requires : goal.order_of-order-requires
order_of-order-requires c =
    let t = routine_of c.args.tables.now in
    let R : Ranged t = (headed t c.requires.0).ranged in
    (innermost t R, rw R.sized.loops (linked t R))

pub returns-then-order-tables : goal.returns-then-order-tables
returns-then-order-tables c = undeclared_refused (routine_of c.args.tables.now) c.requires.0 _ (c.order_of-order.ensures _ _ _ _ _ c.requires.0 c.requires.1) (omega arith)

pub first_broken-requires : goal.first_broken-requires
first_broken-requires c =
    let t = routine_of c.args.tables.now in
    let R : Ranged t = (headed t c.requires.0).ranged in
    (weighable t R, linked t R)

pub returns-in-Some : goal.returns-in-Some
returns-in-Some c =
    inequality_refused (routine_of c.args.tables.now) c.requires.0 _ (c.order_of-order.ensures _ _ _ _ _ c.requires.0 c.requires.1) (omega arith) _ c.requires.1 _ c.first_broken.ensures _ c.in-Some.is

pub bound_at_exit-requires : goal.bound_at_exit-requires
bound_at_exit-requires c = let t = routine_of c.args.tables.now in priced_of t (weighable t (headed t c.requires.0).ranged)

pub returns : goal.returns
unfolding bound
returns c =
    let fits : FitsSigned w64 c.bound_at_exit.result = record { sfits = c.bound_at_exit.type_inv } in
    ap accepted (to_z-of_z fits ∙ c.bound_at_exit.ensures)
    ∙ bound_accepted (routine_of c.args.tables.now) c.requires.0 _ (c.order_of-order.ensures _ _ _ _ _ c.requires.0 c.requires.1) (omega arith) _ c.requires.1 _ c.first_broken.ensures c.in_default.is
