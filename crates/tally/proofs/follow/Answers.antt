use Rattle.std.proofs.Common.{arith}
use Rattle.stepping.proofs.Along.{starts, standing, unread_of, own_step}
use Rattle.tally.proofs.Tallying.{not_entered, tallying_first, end_refused, end_accepted, stopped, fits, tallying_next}
use Rattle.tally.proofs.Replies.{handed_on}
use Rattle.tally.proofs.follow.Goals as goal

pub returns-in_err-first_block : goal.returns-in_err-first_block
returns-in_err-first_block c = handed_on _ _ _ _ _ c.from_residual.ensures.1 (not_entered _ c.args.around.now c.requires.0 _ _ c.first_block.ensures _ c.in_err-first_block.was)

pub loop-i-init : goal.loop-i-init
loop-i-init c =
    tallying_first _ c.args.around.now c.requires.0 _ _ c.first_block.ensures _ c.in_ok-first_block.was _ c.first_numbers-counts.ensures
    _ c.requires.1 _ c.start-run.ensures

pub step-requires : goal.step-requires
step-requires c =
    let p = starts _ c.args.blocks.now _ c.first_block.ensures _ c.in_ok-first_block.was in
    record { unread = unread_of c.args.tables.now; walkable = c.requires.0; standing = standing c.loop-i.invariant.along (omega arith) }

pub returns-in_err-run : goal.returns-in_err-run
returns-in_err-run c =
    handed_on _ _ _ _ _ c.from_residual-in_err-run.ensures.1
    (stopped _ c.args.around.now c.requires.0 _ _ _ _ _ c.loop-i.invariant c.loop-i-test.true _ _ (own_step c.args.tables.now c.args.around.now c.requires.0 _ _ _ _ c.loop-i.invariant.along c.loop-i-test.true (starts _ c.args.blocks.now _ c.first_block.ensures _ c.in_ok-first_block.was).1 c.step.ensures) _ c.in_err-run.was)

pub note_step-requires : goal.note_step-requires
note_step-requires c =
    let p = starts _ c.args.blocks.now _ c.first_block.ensures _ c.in_ok-first_block.was in
    fits _ c.args.around.now c.requires.0 _ _ _ _ _ c.loop-i.invariant c.loop-i-test.true _ _ (own_step c.args.tables.now c.args.around.now c.requires.0 _ _ _ _ c.loop-i.invariant.along c.loop-i-test.true (starts _ c.args.blocks.now _ c.first_block.ensures _ c.in_ok-first_block.was).1 c.step.ensures) _ c.in_ok-run.was (omega arith)

pub loop-i-preserved : goal.loop-i-preserved
loop-i-preserved c =
    rw c.note_step.ensures (tallying_next _ c.args.around.now c.requires.0 _ _ _ _ _ c.loop-i.invariant c.loop-i-test.true _ _ (own_step c.args.tables.now c.args.around.now c.requires.0 _ _ _ _ c.loop-i.invariant.along c.loop-i-test.true (starts _ c.args.blocks.now _ c.first_block.ensures _ c.in_ok-first_block.was).1 c.step.ensures) _ c.in_ok-run.was)

pub returns-in_err-finish : goal.returns-in_err-finish
returns-in_err-finish c =
    handed_on _ _ _ _ _ c.from_residual-in_err-finish.ensures.1
    (end_refused _ c.args.around.now c.requires.0 _ _ _ _ _ c.loop-i.invariant c.loop-i-test.false _ c.finish.ensures _ c.in_err-finish.was)

pub returns : goal.returns
returns c = end_accepted _ c.args.around.now c.requires.0 _ _ _ _ _ c.loop-i.invariant c.loop-i-test.false _ c.finish.ensures _ c.in_ok-finish.was
