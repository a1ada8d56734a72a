use Rattle.csv_text.proofs.Fields.{inside_full, after_full, inside_stops, after_stops, after_closes, inside_to_after, inside_on, after_to_inside}
use Rattle.csv_text.proofs.+after_quote_inside_quotes.Goals as goal

pub after_quote-returns-then-at-text : goal.after_quote-returns-then-at-text
after_quote-returns-then-at-text t c = search after_stops

pub after_quote-returns-then-room-eq0 : goal.after_quote-returns-then-room-eq0
after_quote-returns-then-room-eq0 t c = search after_full

pub after_quote-returns-else-room-eq0 : goal.after_quote-returns-else-room-eq0
after_quote-returns-else-room-eq0 t c = search after_to_inside

pub after_quote-returns-else-text-at-eq34 : goal.after_quote-returns-else-text-at-eq34
after_quote-returns-else-text-at-eq34 t c = search after_closes

pub inside_quotes-returns-then-at-text : goal.inside_quotes-returns-then-at-text
inside_quotes-returns-then-at-text t c = search inside_stops

pub inside_quotes-returns-then-room-eq0 : goal.inside_quotes-returns-then-room-eq0
inside_quotes-returns-then-room-eq0 t c = search inside_full

pub inside_quotes-returns-then-text-at-eq34 : goal.inside_quotes-returns-then-text-at-eq34
inside_quotes-returns-then-text-at-eq34 t c = search inside_to_after

pub inside_quotes-returns-else-text-at-eq34 : goal.inside_quotes-returns-else-text-at-eq34
inside_quotes-returns-else-text-at-eq34 t c = search inside_on
