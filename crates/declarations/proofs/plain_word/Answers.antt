use Rattle.words.proofs.Starts.{part_ends}
use Rattle.commands.proofs.Refusals.{refused}
use Rattle.declarations.proofs.Parts.{plain_missing, plain_end, plain_on}
use Rattle.declarations.proofs.plain_word.Goals as goal

pub returns-in_err-from : goal.returns-in_err-from
returns-in_err-from c = let h = refused _ _ _ _ c.in_err-from.ensures.value c.from_residual.ensures.1 in rw h.1 (plain_missing _ _ c.next_start.ensures h.0)

pub slice_bounds-same_bytes-end : goal.slice_bounds-same_bytes-end
slice_bounds-same_bytes-end c = part_ends _ _ c.next_start.ensures _ _ c.in_ok-from.ensures.ok_part c.word_end-to.ensures

pub returns-then-same_bytes : goal.returns-then-same_bytes
returns-then-same_bytes c = plain_end _ _ c.next_start.ensures _ _ c.in_ok-from.ensures.ok_part c.word_end-to.ensures c.same_bytes.ensures c.if-same_bytes.true

pub returns : goal.returns
returns c = plain_on _ _ c.next_start.ensures _ _ c.in_ok-from.ensures.ok_part c.word_end-to.ensures c.same_bytes.ensures c.if-same_bytes.false
