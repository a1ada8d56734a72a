use Rattle.multipliers.proofs.Weights.{weighing_first}
use Rattle.multipliers.proofs.cost_weights.Goals as goal

pub loop-x-init : goal.loop-x-init
loop-x-init c = weighing_first _
