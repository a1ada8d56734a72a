use Rattle.std.proofs.Common.{rules, ◌∙◌}
use Rattle.words.proofs.Runs.{graphic_plain}
use Rattle.commands.proofs.Values.{code_none, code_starts, code_ends, code_end, code_is}
use Rattle.commands.proofs.code_at.Goals as goal

pub returns-in_err-to : goal.returns-in_err-to
returns-in_err-to c =
    c.from_residual.ensures ∙ code_none _ _ _ (c.word_in.ensures _ (record { says = λ b r l h. search rules; plain = graphic_plain })) c.in_err-to.was

pub slice_bounds-w-count : goal.slice_bounds-w-count
slice_bounds-w-count c = code_starts c.args.code.now _ _ (c.word_in.ensures _ (record { says = λ b r l h. search rules; plain = graphic_plain })) _ c.in_ok-to.was

pub slice_bounds-w-start : goal.slice_bounds-w-start
slice_bounds-w-start c = code_starts c.args.code.now _ _ (c.word_in.ensures _ (record { says = λ b r l h. search rules; plain = graphic_plain })) _ c.in_ok-to.was

pub slice_bounds-w-end : goal.slice_bounds-w-end
slice_bounds-w-end c = code_ends c.args.code.now _ _ (c.word_in.ensures _ (record { says = λ b r l h. search rules; plain = graphic_plain })) _ c.in_ok-to.was

pub returns-then-same_bytes : goal.returns-then-same_bytes
returns-then-same_bytes c =
    code_end _ _ _ (c.word_in.ensures _ (record { says = λ b r l h. search rules; plain = graphic_plain })) _ c.in_ok-to.was c.same_bytes.ensures c.if-same_bytes.true

pub returns : goal.returns
returns c =
    code_is _ _ _ (c.word_in.ensures _ (record { says = λ b r l h. search rules; plain = graphic_plain })) _ c.in_ok-to.was c.same_bytes.ensures c.if-same_bytes.false c.same_bytes-2.ensures
