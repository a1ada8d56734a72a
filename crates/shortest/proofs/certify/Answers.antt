use Rattle.std.proofs.Common.{◌∙◌, sym, ap, arith, FitsSigned, w64}
use mir.Facts.{to_z-of_z}
use Rattle.wcet.specs.Rules.{accepted, bound}
use Rattle.wcet.specs.Shortest.{low_loop_wrong, low_figure_wrong, low_bound}
use Rattle.nesting.specs.Columns.{routine_of, Ranged}
use Rattle.nesting.proofs.Chain.{place_holds}
use Rattle.nesting.proofs.Stages.{headed, innermost, linked}
use Rattle.certificate.proofs.Edge.{claiming, priced_of}
use Rattle.shortest.specs.Answers.{certificate_of}
use Rattle.shortest.proofs.Ranges.{weighed}
use Rattle.shortest.proofs.Reply.{Fits, fits, columns_comparable, undeclared_refused, loop_refused, figure_refused, inequality_refused, bound_accepted}
use Rattle.shortest.proofs.certify.Goals as goal

pub order_of-order-requires : goal.order_of-order-requires
order_of-order-requires c =
    let t = routine_of c.args.tables.now in
    let R : Ranged t = (headed t c.requires.0).ranged in
    (innermost t R, rw R.sized.loops (linked t R))

pub returns-then-order-tables : goal.returns-then-order-tables
returns-then-order-tables c =
    undeclared_refused (routine_of c.args.tables.now) (certificate_of c.args.low.now) c.requires.2 c.requires.0 _ (c.order_of-order.ensures _ _ _ _ _ c.requires.0 c.requires.1) (omega arith)

pub first_wrong_loop-requires : goal.first_wrong_loop-requires
first_wrong_loop-requires c =
    let t = routine_of c.args.tables.now in
    let F : Fits t (certificate_of c.args.low.now) c.requires.2 = fits t (certificate_of c.args.low.now) c.requires.2 in
    (omega (arith, F.multipliers, (headed t c.requires.0).ranged.sized.few_loops), F.leasts ∙ sym F.multipliers)

pub returns-in-Some : goal.returns-in-Some
returns-in-Some c =
    loop_refused (routine_of c.args.tables.now) (certificate_of c.args.low.now) c.requires.2 c.requires.0 _ (c.order_of-order.ensures _ _ _ _ _ c.requires.0 c.requires.1) (omega arith) _ c.first_wrong_loop.ensures _ c.in-Some.is

pub first_wrong_figure-requires : goal.first_wrong_figure-requires
first_wrong_figure-requires c =
    let t = routine_of c.args.tables.now in
    let F : Fits t (certificate_of c.args.low.now) c.requires.2 = fits t (certificate_of c.args.low.now) c.requires.2 in
    omega (arith, F.figures, (headed t c.requires.0).ranged.sized.few_blocks)

pub returns-in-Some-first_wrong_figure : goal.returns-in-Some-first_wrong_figure
unfolding low_figure_wrong
returns-in-Some-first_wrong_figure c =
    figure_refused (routine_of c.args.tables.now) (certificate_of c.args.low.now) c.requires.2 c.requires.0 _ (c.order_of-order.ensures _ _ _ _ _ c.requires.0 c.requires.1) (omega arith) _ c.first_wrong_loop.ensures c.in_default.is _ c.first_wrong_figure.ensures _ c.in-Some-first_wrong_figure.is

pub first_broken-requires : goal.first_broken-requires
unfolding low_figure_wrong
first_broken-requires c =
    let t = routine_of c.args.tables.now in
    let claimed = certificate_of c.args.low.now in
    (weighed claimed t (columns_comparable t claimed c.requires.2 c.requires.0) (place_holds _ (low_loop_wrong claimed) _ c.first_wrong_loop.ensures c.in_default.is) (place_holds _ (low_figure_wrong claimed) _ c.first_wrong_figure.ensures c.in_default-first_wrong_figure.is), linked t (headed t c.requires.0).ranged)

pub returns-in-Some-first_broken : goal.returns-in-Some-first_broken
unfolding low_figure_wrong
returns-in-Some-first_broken c =
    inequality_refused (routine_of c.args.tables.now) (certificate_of c.args.low.now) c.requires.2 c.requires.0 _ (c.order_of-order.ensures _ _ _ _ _ c.requires.0 c.requires.1) (omega arith) _ c.first_wrong_loop.ensures c.in_default.is _ c.first_wrong_figure.ensures c.in_default-first_wrong_figure.is _ c.requires.1 _ c.first_broken.ensures _ c.in-Some-first_broken.is

pub bound_at_exit-requires : goal.bound_at_exit-requires
unfolding low_figure_wrong
bound_at_exit-requires c =
    let t = routine_of c.args.tables.now in
    let claimed = certificate_of c.args.low.now in
    priced_of (claiming t claimed.figures claimed.leasts claimed.multipliers) (weighed claimed t (columns_comparable t claimed c.requires.2 c.requires.0) (place_holds _ (low_loop_wrong claimed) _ c.first_wrong_loop.ensures c.in_default.is) (place_holds _ (low_figure_wrong claimed) _ c.first_wrong_figure.ensures c.in_default-first_wrong_figure.is))

pub returns : goal.returns
unfolding bound low_bound low_figure_wrong
returns c =
    let fits_word : FitsSigned w64 c.bound_at_exit.result = record { sfits = c.bound_at_exit.type_inv } in
    ap accepted (to_z-of_z fits_word ∙ c.bound_at_exit.ensures)
    ∙ bound_accepted (routine_of c.args.tables.now) (certificate_of c.args.low.now) c.requires.2 c.requires.0 _ (c.order_of-order.ensures _ _ _ _ _ c.requires.0 c.requires.1) (omega arith) _ c.first_wrong_loop.ensures c.in_default.is _ c.first_wrong_figure.ensures c.in_default-first_wrong_figure.is _ c.requires.1 _ c.first_broken.ensures c.in_default-first_broken.is
