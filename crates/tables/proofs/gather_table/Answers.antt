use Rattle.std.proofs.lemmas.Result.{err_from_is_err_and}
use Rattle.tables.proofs.Starts.{start_says, table_started, table_stopped}
use Rattle.tables.proofs.gather_table.Goals as goal

pub returns-in_err-start : goal.returns-in_err-start
returns-in_err-start g c =
    let p = err_from_is_err_and c.from_residual.result c.from_residual.ensures.1 in
    rw (p.1, p.2) (table_stopped (g.C.Columns.judge c.args.room) c.args.text.now c.args.fields c.args.header_row c.start_of.ensures g.C.Columns.stored c.args.columns.now c.in_err-start.field-0.0 c.in_err-start.was)

pub gather-requires : goal.gather-requires
gather-requires g c =
    let i = (start_says (g.C.Columns.judge c.args.room) c.args.text.now c.args.fields c.args.header_row c.start_of.ensures c.in_ok-start.start c.in_ok-start.was).0 in
    (i.at, i.place, c.requires.0, c.requires.1)

pub returns : goal.returns
returns g c = table_started (g.C.Columns.judge c.args.room) c.args.text.now c.args.fields c.args.header_row c.start_of.ensures g.C.Columns.stored c.args.columns.now c.in_ok-start.start c.in_ok-start.was c.gather.ensures
