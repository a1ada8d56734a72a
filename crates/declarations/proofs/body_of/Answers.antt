use Rattle.declarations.proofs.Parts.{body_start}
use Rattle.declarations.proofs.body_of.Goals as goal

pub loop-to-init : goal.loop-to-init
loop-to-init c = search body_start
