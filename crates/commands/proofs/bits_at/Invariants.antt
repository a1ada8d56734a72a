use Rattle.commands.proofs.Values.{BitsSoFar}
use Rattle.commands.proofs.bits_at.Given as goal

abbrev pub invariant-loop-i : goal.invariant-loop-i
invariant-loop-i l = BitsSoFar l.text l.at l.i l.value
