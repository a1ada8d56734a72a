use Rattle.std.proofs.Common.{arith}
use Rattle.stepping.proofs.Along.{sound_walkable}
use Rattle.tally.proofs.Replies.{structure_refused, columns_refused, blocks_refused, has_block, written}
use Rattle.tally.proofs.tally.Goals as goal

pub returns-in_err-around : goal.returns-in_err-around
returns-in_err-around c = structure_refused _ _ _ _ _ _ c.from_residual.ensures.1 c.in_err-around.ensures

pub returns-then-stays-m : goal.returns-then-stays-m
returns-then-stays-m c = columns_refused _ _ _ _ _ c.in_ok-around.ensures c.then-stays-m.either

pub follow-requires : goal.follow-requires
follow-requires c = (sound_walkable _ _ c.in_ok-around.ensures, c.first_tallies-tallies.ensures)

pub returns-in_err-follow : goal.returns-in_err-follow
returns-in_err-follow c =
    blocks_refused _ _ _ _ _ c.in_ok-around.ensures c.if-stays-m.false c.if-greatest-m.false _ _ c.from_residual-in_err-follow.ensures.1 c.in_err-follow.ensures

pub write-requires : goal.write-requires
write-requires c = let s = sound_walkable _ _ c.in_ok-around.ensures in omega (arith, s.ranged.sized.few_loops)

pub overflow_sub-result : goal.overflow_sub-result
overflow_sub-result c = has_block _ _ _ _ _ c.in_ok-around.ensures c.if-stays-m.false c.if-greatest-m.false _ c.in_ok-follow.ensures

pub returns : goal.returns
returns c =
    written _ _ _ _ _ c.in_ok-around.ensures c.if-stays-m.false c.if-greatest-m.false _ c.in_ok-follow.ensures _ c.if-stays-m.false _ _ c.write.ensures
