-- What the functions answer at a position of the text, by the definitions of Grammar.
use Rattle.std.specs.Prelude.{ℕ, suc, ◌+◌, ◌-◌, cond, List, [], ◌∷◌, leb, ltb, Option, Some, None, length, get_or, take, drop, set, replicate}
use Rattle.csv_text.specs.Grammar.{is_quote, Extent, size, unclosed, Field, comma, ends, broken, Record}
use Rattle.csv_text.specs.declared.Found.{Found}
use Rattle.csv_text.specs.declared.Found.TheVariants.{Comma, Ends, Broken}
use Rattle.csv_text.specs.declared.Split.{Split}

-- the end of an extent that starts at `at`, if it has at most `room` bytes
abbrev pub close_at : ℕ → ℕ → Extent → Option ℕ
close_at at room (size n) = cond (leb n room) (Some (at + n)) None
close_at at room unclosed = None

-- the end of a field that starts at `at`
abbrev pub found_at : ℕ → Field → Found
found_at at (comma n) = Comma (at + n)
found_at at (ends x n) = Ends x (at + n)
found_at at broken = Broken

-- eight places, with x noted at place i if there is such a place
abbrev pub no_places : List ℕ
no_places = replicate 8 0

abbrev pub note : List ℕ → ℕ → ℕ → List ℕ
note places i x = cond (ltb i 8) (set places i x) places

-- xs noted from place i on
unfoldable pub noted : List ℕ → ℕ → List ℕ → List ℕ
noted places i [] = places
noted places i (x ∷ xs) = noted (note places i x) (suc i) xs

-- where fields start and where they stop, with a comma between them, when the first one starts at p
unfoldable pub starts_of : ℕ → List (List ℕ) → List ℕ
starts_of p [] = []
starts_of p (w ∷ ws) = p ∷ starts_of (p + length w + 1) ws

unfoldable pub stops_of : ℕ → List (List ℕ) → List ℕ
stops_of p [] = []
stops_of p (w ∷ ws) = (p + length w) ∷ stops_of (p + length w + 1) ws

-- the split of a record that starts at p, after `count` fields whose bounds are noted already; it has an ending if no field is broken
abbrev pub split_of : List ℕ → List ℕ → ℕ → ℕ → Record → Split
split_of starts stops count p r = record { starts = noted starts count (starts_of p r.fields); ends = noted stops count (stops_of p r.fields); count = count + length r.fields; next = p + r.bytes; ending = cond r.sound (Some r.ending) None }

-- the part of the text between two bounds, if it lies in the text
abbrev pub part_of : List ℕ → ℕ → ℕ → List ℕ
part_of s from to = cond (leb to (length s)) (take (to - from) (drop from s)) []

-- the part between the bounds at place i
abbrev pub field_at : List ℕ → List ℕ → List ℕ → ℕ → List ℕ
field_at s starts stops i = cond (ltb i 8) (part_of s (get_or starts i 0) (get_or stops i 0)) []

-- a field without its quote marks, where doubled marks stay doubled
unfoldable pub inner : List ℕ → List ℕ
inner [] = []
inner (b ∷ s) = cond (is_quote b) (take (length s - 1) s) (b ∷ s)
