use Rattle.std.proofs.lemmas.Result.{err_from_is_err_and}
use Rattle.nesting.specs.Columns.{routine_of}
use Rattle.nesting.proofs.Chain.{sound_holds, sound_sets}
use Rattle.nesting.proofs.Stages.{headed, innermost, linked}
use Rattle.writer.proofs.Reply.{structure_exported, undeclared_exported, text_exported, readable}
use Rattle.writer.proofs.mps.Goals as goal

pub returns-in_err-around : goal.returns-in_err-around
returns-in_err-around c =
    let p = err_from_is_err_and c.from_residual.result c.from_residual.ensures.1 in
    rw (p.1, p.2) (structure_exported (routine_of c.args.tables.now) c.args.text.now _ c.in_err-around.ensures)

pub order_of-order-requires : goal.order_of-order-requires
order_of-order-requires c =
    let t = routine_of c.args.tables.now in
    let R = (headed t (sound_holds t _ c.in_ok-around.ensures)).ranged in
    (innermost t R, rw R.sized.loops (linked t R))

pub returns-then-order-tables : goal.returns-then-order-tables
returns-then-order-tables c =
    let t = routine_of c.args.tables.now in
    let h = sound_holds t _ c.in_ok-around.ensures in
    undeclared_exported t c.args.text.now h _ (c.order_of-order.ensures _ _ _ _ _ h (sound_sets t _ c.in_ok-around.ensures)) c.if-order-tables.true

pub invariant_of-program : goal.invariant_of-program
invariant_of-program c = let t = routine_of c.args.tables.now in record { readable = readable t (sound_holds t _ c.in_ok-around.ensures) }

pub returns : goal.returns
returns c =
    let t = routine_of c.args.tables.now in
    let h = sound_holds t _ c.in_ok-around.ensures in
    let s = sound_sets t _ c.in_ok-around.ensures in
    text_exported t c.args.text.now h _ (c.order_of-order.ensures _ _ _ _ _ h s) c.if-order-tables.false _ s _ _ c.write.ensures
