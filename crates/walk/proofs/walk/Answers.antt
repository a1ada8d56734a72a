use Rattle.stepping.proofs.Along.{sound_walkable}
use Rattle.walk.proofs.Replies.{structure_refused, blocks_checked}
use Rattle.walk.proofs.walk.Goals as goal

pub returns-in_err-around : goal.returns-in_err-around
returns-in_err-around c = structure_refused _ _ _ _ c.from_residual.ensures.1 c.in_err-around.ensures

pub follow-requires : goal.follow-requires
follow-requires c = sound_walkable _ _ c.in_ok-around.ensures

pub returns : goal.returns
returns c = blocks_checked _ _ _ c.in_ok-around.ensures _ c.follow.ensures
