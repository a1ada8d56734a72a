use Rattle.std.proofs.Common.{◌≤◌, ◌-◌, length, length-drop, arith}
use Rattle.streams.proofs.Laws.{left, took_most, wrote_none, wrote_all, wrote_failed, wrote_more}
use Rattle.streams.proofs.write_to.Goals as goal

pub loop-done-init : goal.loop-done-init
loop-done-init c = (omega arith, wrote_none _ _)

pub returns-then-put-eq0 : goal.returns-then-put-eq0
returns-then-put-eq0 c =
    let l = c.loop-done in
    let took = rw (left c.args.bytes.now l.done) at c.write_some.ensures.took in
    wrote_failed _ _ l.done l.invariant.1 (omega arith) c.write_some.result (rw (← c.unwrap_or-put.ensures) c.if-put-eq0.true) took

pub loop-done-preserved : goal.loop-done-preserved
loop-done-preserved c =
    let l = c.loop-done in
    let took = rw (left c.args.bytes.now l.done) at c.write_some.ensures.took in
    let most : c.unwrap_or-put.result ≤ length c.args.bytes.now - l.done = took_most c.write_some.result c.unwrap_or-put.ensures (rw (left c.args.bytes.now l.done, length-drop l.done c.args.bytes.now) at c.write_some.ensures.moved) in
    (omega (arith, most), wrote_more _ _ l.done l.invariant.1 (omega arith) c.write_some.result c.unwrap_or-put.result c.unwrap_or-put.ensures c.if-put-eq0.false took)

pub returns : goal.returns
returns c = wrote_all _ _ c.loop-done.done c.loop-done.invariant.1 (omega arith)
