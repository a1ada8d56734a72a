use Rattle.commands.proofs.Steps.{real_then}
use Rattle.commands.proofs.real_at.Goals as goal

pub returns : goal.returns
returns c = search real_then
