use Rattle.tails.proofs.Gates.{Setting}
use Rattle.tails.proofs.set_gates.Given as goal

abbrev pub invariant-loop-l : goal.invariant-loop-l
invariant-loop-l l = Setting l.cost l.header l.depths.each l.d l.initial.values l.values l.l
