use Rattle.std.proofs.Common.{ℕ, ◌-◌, List, ◌++◌, negsuc}
use Rattle.lists.specs.Bytes.{bytes}
use Rattle.mps.specs.Program.{block}
use Rattle.mps.specs.Text.{row_name}
use Rattle.cards.specs.Cards.{head, card}
use Rattle.writer.specs.Pieces.{line, rights_text}
use Rattle.writer.proofs.Pieces.{three_first, three_second, three_third, three_all}
use Rattle.writer.proofs.put_rights.Goals as goal

abbrev entry : List ℕ
entry = line "RHS" ++ line "    RHS       B0000     1"

abbrev exit : ℕ → List ℕ
exit n = card (head (bytes "RHS") (row_name (block (n - 1)))) (negsuc 0)

pub put-requires : goal.put-requires
unfolding rights_text
put-requires c = three_first entry (exit c.args.n) (line "ENDATA") c.args.out.now c.requires.1

pub put_number-requires : goal.put_number-requires
unfolding rights_text
put_number-requires c = rw c.right_head.ensures (three_second entry (exit c.args.n) (line "ENDATA") c.args.out.now c.requires.1 c.put.ensures)

pub put-requires-2 : goal.put-requires-2
unfolding rights_text
put-requires-2 c = three_third entry (exit c.args.n) (line "ENDATA") c.args.out.now c.requires.1 c.put.ensures (rw c.right_head.ensures at c.put_number.ensures)

pub returns : goal.returns
unfolding rights_text
returns c = three_all entry (exit c.args.n) (line "ENDATA") c.args.out.now c.requires.1 c.put.ensures (rw c.right_head.ensures at c.put_number.ensures) c.put-2.ensures
