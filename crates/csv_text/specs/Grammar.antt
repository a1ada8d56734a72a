-- The grammar of RFC 4180, section 2, over a list of bytes: fields, what follows a field, records, and the text. It departs from
-- the RFC where the papers do. Document 01: TEXTDATA is every byte that is no quote mark, comma, CR or LF; an empty text has no records;
-- and a field has at most `most_field_bytes` bytes as written. Document 02, §1, "widens RFC 4180": LF ends a record as CR LF does.
-- Assumes nothing: these are definitions.
use Rattle.std.specs.Prelude.{ℕ, zero, suc, ◌+◌, ◌-◌, Bool, true, false, cond, not, ◌||◌, List, [], ◌∷◌, length, take, drop, leb, eqb}
use Rattle.limits.specs.Limits.{most_field_bytes}
use Rattle.csv_text.specs.declared.Ending.{Ending}
use Rattle.csv_text.specs.declared.Ending.TheVariants.{CrLf, Lf, EndOfText}

-- DQUOTE = %x22, COMMA = %x2C, CR = %x0D, LF = %x0A
abbrev pub is_quote : ℕ → Bool
is_quote b = eqb b 34

abbrev pub is_comma : ℕ → Bool
is_comma b = eqb b 44

abbrev pub is_cr : ℕ → Bool
is_cr b = eqb b 13

abbrev pub is_lf : ℕ → Bool
is_lf b = eqb b 10

-- TEXTDATA: "every byte other than a quote mark, comma, CR or LF may stand in a field"
abbrev pub is_text : ℕ → Bool
is_text b = not (is_quote b || is_comma b || is_cr b || is_lf b)

-- how many bytes a field has as written: `size n`, or `unclosed` where its closing quote mark never comes
pub data Extent : Type 0 where
  size : ℕ → Extent
  unclosed : Extent

-- one byte more
abbrev pub longer : Extent → Extent
longer (size n) = size (suc n)
longer unclosed = unclosed

-- non-escaped = *TEXTDATA: as many bytes as there are
unfoldable pub plain : List ℕ → ℕ
plain [] = 0
plain (b ∷ s) = cond (is_text b) (suc (plain s)) 0

-- escaped = DQUOTE *(TEXTDATA / COMMA / CR / LF / 2DQUOTE) DQUOTE, from the byte after the opening mark on.
-- `inside_quotes`: any byte but a quote mark is text. `after_quote`: a second mark hands back to `inside_quotes`, and anything else, or
-- the end of the text, leaves the first one the closing mark.
unfoldable mutual
  pub inside_quotes : List ℕ → Extent
  inside_quotes [] = unclosed
  inside_quotes (b ∷ s) = longer (cond (is_quote b) (after_quote s) (inside_quotes s))

  pub after_quote : List ℕ → Extent
  after_quote [] = size 0
  after_quote (b ∷ s) = cond (is_quote b) (longer (inside_quotes s)) (size 0)

-- field = (escaped / non-escaped): an opening quote mark makes it escaped
unfoldable pub extent : List ℕ → Extent
extent [] = size 0
extent (b ∷ s) = cond (is_quote b) (longer (inside_quotes s)) (size (plain (b ∷ s)))

-- Document 02, §1: "The step that splits off one record must also say which line end it found: CR LF, LF or the end of the text." The
-- bytes that each takes:
abbrev pub width : Ending → ℕ
width CrLf = 2
width Lf = 1
width EndOfText = 0

-- The first field of a text: how many bytes it has as written, by what follows it: a comma, or the end of its record. `broken`: it
-- is never closed, it has too many bytes, or something else follows it.
pub data Field : Type 0 where
  comma : ℕ → Field
  ends : Ending → ℕ → Field
  broken : Field

-- CRLF = CR LF: an LF follows a CR, since a CR alone ends no record
abbrev pub line_feed : ℕ → List ℕ → Field
line_feed n [] = broken
line_feed n (b ∷ s) = cond (is_lf b) (ends CrLf n) broken

-- what follows a field of n bytes. "102 no longer covers an LF without CR outside quotes": an LF alone ends the record too.
unfoldable pub following : ℕ → List ℕ → Field
following n [] = ends EndOfText n
following n (b ∷ s) = cond (is_comma b) (comma n) (cond (is_cr b) (line_feed n s) (cond (is_lf b) (ends Lf n) broken))

-- a field of s that is taken to have a given extent: "A field as written, its quote marks included, has at most 64 bytes."
abbrev pub limited : List ℕ → Extent → Field
limited s (size n) = cond (leb n most_field_bytes) (following n (drop n s)) broken
limited s unclosed = broken

unfoldable pub field : List ℕ → Field
field s = limited s (extent s)

-- The text of a field. "Within a quoted field .. two quote marks are one."
unfoldable pub undoubled : List ℕ → List ℕ
undoubled [] = []
undoubled (b ∷ []) = b ∷ []
undoubled (b ∷ c ∷ s) = cond (is_quote b) (b ∷ undoubled s) (b ∷ undoubled (c ∷ s))

-- of a quoted field, what stands between its opening and its closing mark
unfoldable pub content : List ℕ → List ℕ
content [] = []
content (b ∷ s) = cond (is_quote b) (undoubled (take (length s - 1) s)) (b ∷ s)

-- record = field *(COMMA field), with its end
pub record Record : Type 0 where
  -- the fields as written, up to the first that is broken
  pub fields : List (List ℕ)
  -- the bytes that they take, with the commas and the line end
  pub bytes : ℕ
  -- that no field is broken
  pub sound : Bool
  pub ending : Ending

-- where the first field is broken. The papers leave the ending of such a record open, and no reply shows it.
abbrev pub unsound : Record
unsound = record { fields = []; bytes = 0; sound = false; ending = EndOfText }

abbrev pub only : List ℕ → ℕ → Ending → Record
only w n e = record { fields = w ∷ []; bytes = n + width e; sound = true; ending = e }

abbrev pub joined : List ℕ → ℕ → Record → Record
joined w n r = record { fields = w ∷ r.fields; bytes = n + r.bytes; sound = r.sound; ending = r.ending }

-- the record of s by its first field; `rest` makes the record after a comma
abbrev pub record_with : (List ℕ → Record) → List ℕ → Field → Record
record_with rest s (comma n) = joined (take n s) (n + 1) (rest (drop (n + 1) s))
record_with rest s (ends e n) = only (take n s) n e
record_with rest s broken = unsound

-- A comma follows each field but the last, so a text of n bytes has at most n + 1 fields, and k does not run out.
unfoldable pub record_in : ℕ → List ℕ → Record
record_in zero s = unsound
record_in (suc k) s = record_with (record_in k) s (field s)

unfoldable pub record_of : List ℕ → Record
record_of s = record_in (suc (length s)) s

-- the records after the record r of s: nothing is read after a record that is not sound
abbrev pub records_after : (List ℕ → List Record) → List ℕ → Record → List Record
records_after rest s r = cond r.sound (rest (drop r.bytes s)) []

-- file = [header CRLF] record *(CRLF record) [CRLF], where a header is a record like the others and LF may stand for CRLF: the records up to
-- the first that is not sound. "An empty text has no records", so a final line end opens none. A record that another follows has a byte or
-- more, so a text of n bytes has at most n records. Whether the records end alike is not asked here; see `alike`, below.
unfoldable pub records_in : ℕ → List ℕ → List Record
records_in zero s = []
records_in (suc k) [] = []
records_in (suc k) (b ∷ s) = record_of (b ∷ s) ∷ records_after (records_in k) (b ∷ s) (record_of (b ∷ s))

unfoldable pub records : List ℕ → List Record
records s = records_in (length s) s

-- "the first record's line end ..; for an empty text it is the end of the text"
abbrev pub first_ending : List Record → Ending
first_ending [] = EndOfText
first_ending (r ∷ rs) = r.ending

-- "All records of a file must end alike, though the last may still end with the text": whether a record may end in the second way where the
-- first record ends in the first way. A record that ends with the text is the last one, so no record comes after a first one that does.
abbrev pub alike : Ending → Ending → Bool
alike first EndOfText = true
alike CrLf CrLf = true
alike Lf Lf = true
alike CrLf Lf = false
alike Lf CrLf = false
alike EndOfText CrLf = false
alike EndOfText Lf = false
