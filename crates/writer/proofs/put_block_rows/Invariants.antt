use Rattle.cards.specs.Cards.{block_row}
use Rattle.writer.proofs.Spans.{Filled}
use Rattle.writer.proofs.put_block_rows.Given as goal

abbrev pub invariant-loop-u : goal.invariant-loop-u
invariant-loop-u l = Filled block_row 0 l.n l.initial.out l.u l.out
