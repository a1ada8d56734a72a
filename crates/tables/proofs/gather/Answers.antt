use Rattle.std.proofs.Common.{drop, sym, ap, ◌∙◌, arith}
use Rattle.csv_text.specs.Grammar.{record_of}
use Rattle.rows.specs.declared.Step.{Step}
use Rattle.tables.proofs.Passes.{pass_range, pass_on, pass_fault, pass_done}
use Rattle.tables.proofs.gather.Goals as goal

pub returns-in-Err : goal.returns-in-Err
returns-in-Err g c =
    let step = c.row_at-verdict in
    let verdict = sym (ap (λ (x : Step g.row.C-Row.Denot). x.verdict) step.ensures) ∙ c.in-Err.is in
    pass_fault g.C.Columns.stored (g.C.Columns.judge c.args.room) c.args.text.now c.args.start.ending c.args.start.place c.loop-p.k c.loop-p.p c.loop-p-test.true c.in-Err.fault verdict c.loop-p.columns c.loop-p.invariant.rest

pub loop-p-smaller : goal.loop-p-smaller
loop-p-smaller g c =
    let step = c.row_at-verdict in
    let verdict = sym (ap (λ (x : Step g.row.C-Row.Denot). x.verdict) step.ensures) ∙ c.in-Ok.is in
    let known = g.met.C.Columns.taken c.args.room c.args.start.ending c.loop-p.k (record_of (drop c.loop-p.p c.args.text.now)) c.in-Ok.row verdict in
    let range = pass_range g.C.Columns.stored (g.C.Columns.judge c.args.room) c.args.text.now c.args.start.ending c.args.start.place c.loop-p.k c.loop-p.p c.loop-p-test.true c.in-Ok.row verdict known.0 step.result.next (ap (λ (x : Step g.row.C-Row.Denot). x.next) step.ensures) in
    omega (arith, range)

pub loop-p-preserved : goal.loop-p-preserved
loop-p-preserved g c =
    let step = c.row_at-verdict in
    let verdict = sym (ap (λ (x : Step g.row.C-Row.Denot). x.verdict) step.ensures) ∙ c.in-Ok.is in
    let known = g.met.C.Columns.taken c.args.room c.args.start.ending c.loop-p.k (record_of (drop c.loop-p.p c.args.text.now)) c.in-Ok.row verdict in
    let next = ap (λ (x : Step g.row.C-Row.Denot). x.next) step.ensures in
    let range = pass_range g.C.Columns.stored (g.C.Columns.judge c.args.room) c.args.text.now c.args.start.ending c.args.start.place c.loop-p.k c.loop-p.p c.loop-p-test.true c.in-Ok.row verdict known.0 step.result.next next in
    record {
      in_text = range.1;
      counted = omega (arith, range);
      rest = rw c.store.ensures (pass_on g.C.Columns.stored (g.C.Columns.judge c.args.room) c.args.text.now c.args.start.ending c.args.start.place c.loop-p.k c.loop-p.p c.loop-p-test.true c.in-Ok.row verdict known.0 step.result.next next c.loop-p.columns c.loop-p.invariant.rest);
    }

pub returns : goal.returns
returns g c = pass_done g.C.Columns.stored (g.C.Columns.judge c.args.room) c.args.text.now c.args.start.ending c.args.start.place c.loop-p.k c.loop-p.p c.loop-p-test.false c.loop-p.columns c.loop-p.invariant.rest
