use Rattle.std.proofs.Common.{ℕ, List, ◌++◌}
use Rattle.cards.specs.Cards.{block_row, loop_row}
use Rattle.writer.specs.Pieces.{line, span, rows_text}
use Rattle.writer.proofs.Pieces.{three_first, three_second, three_third, three_all}
use Rattle.writer.proofs.put_rows.Goals as goal

abbrev top : List ℕ
top = line "NAME" ++ line "ROWS" ++ line " N  COST"

pub put-requires : goal.put-requires
unfolding rows_text
put-requires c = three_first top (span block_row 0 c.args.n) (span loop_row 1 c.args.m) c.args.out.now c.requires.1

pub put_block_rows-requires : goal.put_block_rows-requires
unfolding rows_text
put_block_rows-requires c = three_second top (span block_row 0 c.args.n) (span loop_row 1 c.args.m) c.args.out.now c.requires.1 c.put.ensures

pub put_loop_rows-requires : goal.put_loop_rows-requires
unfolding rows_text
put_loop_rows-requires c = (c.requires.0, three_third top (span block_row 0 c.args.n) (span loop_row 1 c.args.m) c.args.out.now c.requires.1 c.put.ensures c.put_block_rows.ensures)

pub returns : goal.returns
unfolding rows_text
returns c = three_all top (span block_row 0 c.args.n) (span loop_row 1 c.args.m) c.args.out.now c.requires.1 c.put.ensures c.put_block_rows.ensures c.put_loop_rows.ensures
