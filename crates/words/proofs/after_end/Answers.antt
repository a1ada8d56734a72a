use Rattle.words.proofs.Starts.{part_ends, part_left, end_missing, end_found, end_later, end_on}
use Rattle.words.proofs.after_end.Goals as goal

pub slice_bounds-same_bytes-end : goal.slice_bounds-same_bytes-end
slice_bounds-same_bytes-end c = search part_ends

pub returns-then-same_bytes : goal.returns-then-same_bytes
returns-then-same_bytes c = search end_found

pub loop-word-smaller : goal.loop-word-smaller
loop-word-smaller c = search part_left

pub loop-word-preserved : goal.loop-word-preserved
loop-word-preserved c = (search end_on, search end_later)

pub returns : goal.returns
returns c = search end_missing
