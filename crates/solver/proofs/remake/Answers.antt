use Rattle.std.proofs.Common.{refl}
use Rattle.nesting.specs.Columns.{routine_of}
use Rattle.nesting.proofs.Stages.{headed, innermost, linked}
use Rattle.exits.proofs.Places.{searchable}
use Rattle.solver.proofs.Reply.{making_refused}
use Rattle.solver.proofs.remake.Goals as goal

pub slots_of-firsts-requires : goal.slots_of-firsts-requires
slots_of-firsts-requires c =
    let t = routine_of c.args.tables.now in
    let R = (headed t c.requires.0.rules).ranged in
    rw R.sized.loops (innermost t R, R.sized.few_blocks, R.sized.some_block, R.sized.firsts, (linked t R).first_names)

pub slots_of-seconds-requires : goal.slots_of-seconds-requires
slots_of-seconds-requires c =
    let t = routine_of c.args.tables.now in
    let R = (headed t c.requires.0.rules).ranged in
    rw R.sized.loops (innermost t R, R.sized.few_blocks, R.sized.some_block, R.sized.seconds, (linked t R).second_names)

pub refuse-requires : goal.refuse-requires
refuse-requires c =
    let O = c.requires.0.ordered in
    searchable (routine_of c.args.tables.now) c.requires.0.rules c.args.order (record { block = O.block; position = O.position; within = O.within; there = O.there })

pub returns-in-Err : goal.returns-in-Err
returns-in-Err c =
    let t = routine_of c.args.tables.now in
    let S = c.requires.0 in
    making_refused t S.rules S.declared _ c.in-Err.ensures _ (c.refuse.ensures t refl refl (headed t S.rules).ranged.sized.firsts)
