use Rattle.cards.specs.Cards.{loop_row}
use Rattle.writer.proofs.Spans.{Filled}
use Rattle.writer.proofs.put_loop_rows.Given as goal

abbrev pub invariant-loop-l : goal.invariant-loop-l
invariant-loop-l l = Filled loop_row 1 l.m l.initial.out l.l l.out
