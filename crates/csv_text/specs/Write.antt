-- The grammar the other way round: how records are written by RFC 4180, and with LF for CR LF as document 02, §1, allows. proofs/Inverse.antt
-- shows that reading what is written here gives those records, and that every text whose records are all sound and end like the first one is
-- written so.
-- Assumes nothing: these are definitions.
use Rattle.std.specs.Prelude.{ℕ, ◌+◌, ◌≤◌, ◌<◌, ◌≡◌, Bool, true, false, cond, ◌&&◌, List, [], ◌∷◌, ◌++◌, map, length}
use Rattle.limits.specs.Limits.{most_field_bytes}
use Rattle.csv_text.specs.Grammar.{is_quote, is_text, width, Record, alike}
use Rattle.csv_text.specs.declared.Ending.{Ending}
use Rattle.csv_text.specs.declared.Ending.TheVariants.{CrLf, Lf, EndOfText}

-- a field that is to be written: its text, between quote marks or without them
pub data Entry : Type 0 where
  bare : List ℕ → Entry
  quoted : List ℕ → Entry

abbrev pub entry_text : Entry → List ℕ
entry_text (bare s) = s
entry_text (quoted s) = s

-- "a double-quote appearing inside a field must be escaped by preceding it with another double quote"
unfoldable pub doubled : List ℕ → List ℕ
doubled [] = []
doubled (b ∷ s) = cond (is_quote b) (b ∷ b ∷ doubled s) (b ∷ doubled s)

abbrev pub written : Entry → List ℕ
written (bare s) = s
written (quoted s) = 34 ∷ doubled s ++ (34 ∷ [])

-- what may be written: without quote marks only TEXTDATA, and at most `most_field_bytes` bytes
unfoldable pub all_text : List ℕ → Bool
all_text [] = true
all_text (b ∷ s) = is_text b && all_text s

abbrev pub Unmarked : Entry → Type 0
Unmarked (bare s) = all_text s ≡ true
Unmarked (quoted s) = Unit {0}

pub record Writable (f : Entry) : Type 0 where
  pub unmarked : Unmarked f
  pub size : length (written f) ≤ most_field_bytes

-- record = field *(COMMA field)
pub record Line : Type 0 where
  pub first : Entry
  pub more : List Entry

unfoldable pub write_fields : Entry → List Entry → List ℕ
write_fields f [] = written f
write_fields f (g ∷ gs) = written f ++ 44 ∷ write_fields g gs

abbrev pub write_line : Line → List ℕ
write_line l = write_fields l.first l.more

-- the line end of a file: CR LF, or LF as document 02, §1, allows; its bytes, and how a record ends that has it
pub data LineEnd : Type 0 where
  cr_lf : LineEnd
  lf : LineEnd

abbrev pub end_bytes : LineEnd → List ℕ → List ℕ
end_bytes cr_lf s = 13 ∷ 10 ∷ s
end_bytes lf s = 10 ∷ s

abbrev pub ending_of : LineEnd → Ending
ending_of cr_lf = CrLf
ending_of lf = Lf

-- file = [header CRLF] record *(CRLF record) [CRLF], where a header is a record like the others and CRLF stands for the file's line end;
-- `ended` says whether the last one is there
unfoldable pub write : LineEnd → List Line → Bool → List ℕ
write e [] ended = []
write e (l ∷ []) ended = write_line l ++ cond ended (end_bytes e []) []
write e (l ∷ m ∷ ls) ended = write_line l ++ end_bytes e (write e (m ∷ ls) ended)

-- each field may be written; and a last record with no line end has a byte, since nothing at all is no record
abbrev pub AllWritable : List Entry → Type 0
AllWritable [] = Unit {0}
AllWritable (f ∷ fs) = Writable f × AllWritable fs

abbrev pub LastLine : Line → Bool → Type 0
LastLine l true = Unit {0}
LastLine l false = 0 < length (write_line l)

abbrev pub Allowed : List Line → Bool → Type 0
Allowed [] ended = Unit {0}
Allowed (l ∷ []) ended = AllWritable (l.first ∷ l.more) × LastLine l ended
Allowed (l ∷ m ∷ ls) ended = AllWritable (l.first ∷ l.more) × Allowed (m ∷ ls) ended

-- the records that lines are to be read as
abbrev pub record_as : Line → Ending → Record
record_as l e = record { fields = map written (l.first ∷ l.more); bytes = length (write_line l) + width e; sound = true; ending = e }

unfoldable pub records_as : LineEnd → List Line → Bool → List Record
records_as e [] ended = []
records_as e (l ∷ []) ended = record_as l (cond ended (ending_of e) EndOfText) ∷ []
records_as e (l ∷ m ∷ ls) ended = record_as l (ending_of e) ∷ records_as e (m ∷ ls) ended

-- that all records are sound and end like a first one that ends in the way `first`
abbrev pub SoundAlike : Ending → List Record → Type 0
SoundAlike first [] = Unit {0}
SoundAlike first (r ∷ rs) = (r.sound ≡ true) × (alike first r.ending ≡ true) × SoundAlike first rs

-- that a text is written by lines that are allowed, with a given line end. A text of one open record has none, and is written with either.
pub record Written (e : LineEnd) (s : List ℕ) : Type 0 where
  pub lines : List Line
  pub ended : Bool
  pub allowed : Allowed lines ended
  pub text : write e lines ended ≡ s
