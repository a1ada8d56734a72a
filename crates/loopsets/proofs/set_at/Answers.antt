use Rattle.std.proofs.Common.{rules}
use Rattle.loopsets.specs.Sets.{set_at}
use Rattle.loopsets.proofs.set_at.Goals as goal

pub returns : goal.returns
unfolding set_at
returns c = search rules
