use Rattle.commands.proofs.Steps.{keyword_ends, keyword_closes, keyword_dumped, keyword_opens, keyword_comment, keyword_bad}
use Rattle.commands.proofs.keyword_at.Goals as goal

pub slice_bounds-w-end : goal.slice_bounds-w-end
slice_bounds-w-end c = search keyword_ends

pub returns-then-same_bytes : goal.returns-then-same_bytes
returns-then-same_bytes c = search keyword_closes

pub returns-then-dump : goal.returns-then-dump
returns-then-dump c = search keyword_dumped

pub returns-then-is_dump : goal.returns-then-is_dump
returns-then-is_dump c = search keyword_opens

pub returns-then-same_bytes-2 : goal.returns-then-same_bytes-2
returns-then-same_bytes-2 c = search keyword_comment

pub returns : goal.returns
returns c = search keyword_bad
