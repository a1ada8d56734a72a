use Rattle.words.proofs.Starts.{part_ends}
use Rattle.commands.proofs.Refusals.{refused}
use Rattle.declarations.proofs.Parts.{declaration_missing, declaration_variable, declaration_last, declaration_text, declaration_bad}
use Rattle.declarations.proofs.declaration_at.Goals as goal

pub returns-in_err-from : goal.returns-in_err-from
returns-in_err-from c = let h = refused _ _ _ _ c.in_err-from.ensures.value c.from_residual.ensures.1 in rw h.1 (declaration_missing _ _ _ _ c.next_start.ensures h.0)

pub slice_bounds-w-end : goal.slice_bounds-w-end
slice_bounds-w-end c = part_ends _ _ c.next_start.ensures _ _ c.in_ok-from.ensures.ok_part c.word_end-to.ensures

pub returns-then-same_bytes : goal.returns-then-same_bytes
returns-then-same_bytes c =
    declaration_variable _ _ _ _ c.next_start.ensures _ _ c.in_ok-from.ensures.ok_part c.word_end-to.ensures c.same_bytes.ensures c.if-same_bytes.true c.variable_end.ensures

pub returns-then-same_bytes-2 : goal.returns-then-same_bytes-2
returns-then-same_bytes-2 c =
    declaration_last _ _ _ _ c.next_start.ensures _ _ c.in_ok-from.ensures.ok_part c.word_end-to.ensures c.same_bytes.ensures c.if-same_bytes.false c.same_bytes-2.ensures c.if-same_bytes-2.true c.definitions_end.ensures

pub returns-then-is_declaration : goal.returns-then-is_declaration
returns-then-is_declaration c =
    declaration_text _ _ _ _ c.next_start.ensures _ _ c.in_ok-from.ensures.ok_part c.word_end-to.ensures c.same_bytes.ensures c.if-same_bytes.false c.same_bytes-2.ensures c.if-same_bytes-2.false c.is_declaration.ensures c.if-is_declaration.true c.text_at.ensures

pub returns : goal.returns
returns c =
    declaration_bad _ _ _ _ c.next_start.ensures _ _ c.in_ok-from.ensures.ok_part c.word_end-to.ensures c.same_bytes.ensures c.if-same_bytes.false c.same_bytes-2.ensures c.if-same_bytes-2.false c.is_declaration.ensures c.if-is_declaration.false
