use Rattle.std.proofs.Common.{w64, SFits, to_z-of_z}
use Rattle.cards.proofs.Buffer.{signed_back}
use Rattle.cards.proofs.number_length.Goals as goal

pub returns : goal.returns
returns c = let f : SFits w64 c.args.x = c.ranges.x in rw (c.unsigned_abs.ensures.value, to_z-of_z, signed_back) at c.signed_length.ensures
