use Rattle.csv_text.proofs.+after_quote_inside_quotes.Given as goal

-- Each byte takes one of the room.
abbrev pub decreases-after_quote : goal.decreases-after_quote
decreases-after_quote l = l.room

abbrev pub decreases-inside_quotes : goal.decreases-inside_quotes
decreases-inside_quotes l = l.room
