use Rattle.tables.proofs.Starts.{start_long, start_header, start_plain}
use Rattle.tables.proofs.start_of.Goals as goal

pub returns-then-text-gt-MOST_TEXT_BYTES : goal.returns-then-text-gt-MOST_TEXT_BYTES
returns-then-text-gt-MOST_TEXT_BYTES c = search start_long

pub returns-then-header_row : goal.returns-then-header_row
returns-then-header_row c = search start_header

pub returns : goal.returns
returns c = search start_plain
