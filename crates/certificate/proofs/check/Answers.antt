use Rattle.std.proofs.lemmas.Result.{err_from_is_err_and}
use Rattle.wcet.proofs.Bound.{checked}
use Rattle.nesting.specs.Columns.{routine_of}
use Rattle.nesting.proofs.Chain.{sound_holds, sound_sets}
use Rattle.certificate.proofs.Reply.{structure_refused}
use Rattle.certificate.proofs.check.Goals as goal

pub returns-in_err-around : goal.returns-in_err-around
returns-in_err-around c =
    let t = routine_of c.args.tables.now in
    let p = err_from_is_err_and c.from_residual.result c.from_residual.ensures.1 in
    rw (p.1, p.2) (checked t _ (structure_refused t _ c.in_err-around.ensures))

pub certify-requires : goal.certify-requires
certify-requires c = let t = routine_of c.args.tables.now in (sound_holds t _ c.in_ok-around.ensures, sound_sets t _ c.in_ok-around.ensures)

pub returns : goal.returns
returns c = checked (routine_of c.args.tables.now) _ c.certify.ensures
