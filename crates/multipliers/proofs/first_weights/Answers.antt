use Rattle.std.proofs.Common.{arith}
use Rattle.multipliers.proofs.Weights.{closing_all}
use Rattle.multipliers.proofs.first_weights.Goals as goal

pub returns : goal.returns
returns c = closing_all _ _ c.loop-l.weights c.loop-l.l (omega arith) c.loop-l.invariant.1 c.loop-l.invariant.0
