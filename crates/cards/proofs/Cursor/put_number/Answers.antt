use Rattle.std.proofs.Common.{w64, SFits, to_z-of_z}
use Rattle.cards.proofs.Buffer.{signed_back}
use Rattle.cards.proofs.Cursor.put_number.Goals as goal

pub put_signed_number-requires : goal.put_signed_number-requires
put_signed_number-requires c = let f : SFits w64 c.args.x = c.ranges.x in rw (c.unsigned_abs.ensures.value, to_z-of_z, signed_back) c.requires

pub returns : goal.returns
returns c = let f : SFits w64 c.args.x = c.ranges.x in rw (c.unsigned_abs.ensures.value, to_z-of_z, signed_back) at c.put_signed_number.ensures
