use Rattle.std.proofs.Common.{◌≡◌, ◌∙◌, sym, false}
use Rattle.std.proofs.lemmas.Result.{err_from_is_err_and}
use Rattle.wcet.specs.Shortest.{low_sizes_wrong}
use Rattle.wcet.proofs.Shortest.{shortest_checked}
use Rattle.nesting.specs.Columns.{routine_of}
use Rattle.nesting.proofs.Chain.{sound_holds, sound_sets}
use Rattle.shortest.specs.Answers.{certificate_of}
use Rattle.shortest.proofs.Reply.{sizes_refused, structure_refused}
use Rattle.shortest.proofs.shortest.Goals as goal

pub returns-then-sizes_wrong : goal.returns-then-sizes_wrong
unfolding low_sizes_wrong
returns-then-sizes_wrong c =
    let t = routine_of c.args.tables.now in
    let claimed = certificate_of c.args.low.now in
    shortest_checked t claimed _ (sizes_refused t claimed (sym c.sizes_wrong.ensures ∙ c.if-sizes_wrong.true))

pub returns-in_err-around : goal.returns-in_err-around
unfolding low_sizes_wrong
returns-in_err-around c =
    let t = routine_of c.args.tables.now in
    let claimed = certificate_of c.args.low.now in
    let p = err_from_is_err_and c.from_residual.result c.from_residual.ensures.1 in
    let fit : low_sizes_wrong t claimed ≡ false = sym c.sizes_wrong.ensures ∙ c.if-sizes_wrong.false in
    rw (p.1, p.2) (shortest_checked t claimed _ (structure_refused t claimed fit _ c.in_err-around.ensures))

pub certify-requires : goal.certify-requires
unfolding low_sizes_wrong
certify-requires c =
    let t = routine_of c.args.tables.now in
    (sound_holds t _ c.in_ok-around.ensures, sound_sets t _ c.in_ok-around.ensures, sym c.sizes_wrong.ensures ∙ c.if-sizes_wrong.false)

pub returns : goal.returns
returns c = shortest_checked (routine_of c.args.tables.now) (certificate_of c.args.low.now) _ c.certify.ensures
