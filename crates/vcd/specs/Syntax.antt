-- Document 02, §8: "that standard's four-state syntax" (the value change dump of IEEE 1364). What each word of a text may be, by what came before it,
-- and the values that the text gives the named vector: "The block number is on one vector that the caller names by its identifier code", `named`.
use Rattle.std.specs.Prelude.{ℕ, ◌-◌, ◌+◌, ◌*◌, Bool, true, false, not, ◌&&◌, ◌||◌, List, [], ◌∷◌, leb, eqb, length}
use Rattle.std.proofs.Math.Option.{Option, none, some}
use Rattle.lists.specs.Search.{when◌then◌else◌}
use Rattle.lists.specs.Bytes.{same}
use Rattle.vcd.specs.Words.{Word, words, is}

-- ---- codes, digits and values

-- each byte of s passes the test
unfoldable pub all : (ℕ → Bool) → List ℕ → Bool
all p [] = true
all p (b ∷ s) = p b && all p s

-- "one or more": s is not empty, and each byte passes the test
unfoldable pub one_or_more : (ℕ → Bool) → List ℕ → Bool
one_or_more p [] = false
one_or_more p (b ∷ s) = all p (b ∷ s)

-- "bytes 33 to 126"
abbrev pub is_graphic : ℕ → Bool
is_graphic b = leb 33 b && leb b 126

-- "A code is one or more of bytes 33 to 126 and never $end."
unfoldable pub is_code : List ℕ → Bool
is_code w = when is w "$end" then false else one_or_more is_graphic w

-- "each 0, 1, x or z in either case"
abbrev pub is_state : ℕ → Bool
is_state b = eqb b 48 || (eqb b 49 || (eqb b 120 || (eqb b 88 || (eqb b 122 || eqb b 90))))

-- a digit that is no x or z
abbrev pub is_bit : ℕ → Bool
is_bit b = eqb b 48 || eqb b 49

-- "0 to 9"
abbrev pub is_decimal : ℕ → Bool
is_decimal b = leb 48 b && leb b 57

-- the number that the bits of s write after those of n
unfoldable pub binary : ℕ → List ℕ → ℕ
binary n [] = n
binary n (b ∷ s) = binary (n * 2 + (b - 48)) s

-- The value that the digits s give the named vector. None where its change is refused: "with an x or z digit or over 65,534".
unfoldable pub value_of : List ℕ → Option ℕ
value_of s = when all is_bit s && leb (binary 0 s) 65534 then some (binary 0 s) else none

-- ---- what a word does

-- What the next word is to be: a declaration (is the named vector declared already?), a word of $var (how many words, this one included, are still to
-- come before its code), a word of a declaration's text, a word of the text of $enddefinitions or of a later comment, a command (within a dump?), or
-- the code of a change (its value, none where the named vector may not take it, and the place of the word that holds it).
pub data Due : Type 0 where
  declaration : (declared : Bool) → Due
  variable : (before : ℕ) (declared : Bool) → Due
  text : (declared : Bool) → Due
  remark : Due
  command : (dump : Bool) → Due
  code : (value : Option ℕ) (place : ℕ) (dump : Bool) → Due

-- What a word does: `on` with what is due next; `says` that the named vector has a value, at the place of the word that holds it, as well; or it is
-- `bad`: 432 at this place, for "a word the syntax does not allow" its first byte.
pub data Step : Type 0 where
  on : Due → Step
  says : (value place : ℕ) → Due → Step
  bad : (place : ℕ) → Step

-- The declaration keywords of IEEE 1364 that open a text up to $end and do no more. $var and $enddefinitions are in `declaration_step`.
unfoldable pub is_declaration : List ℕ → Bool
is_declaration w = is w "$comment" || (is w "$date" || (is w "$scope" || (is w "$timescale" || (is w "$upscope" || is w "$version"))))

-- "Declarations come first, $enddefinitions once and last": a word that is no declaration is 432 here, and a second $enddefinitions in `keyword_step`.
-- 432: "$enddefinitions with that vector undeclared".
unfoldable pub declaration_step : (declared : Bool) (at : ℕ) → List ℕ → Step
declaration_step declared at w =
    when is w "$var" then on (variable 2 declared) else
    when is w "$enddefinitions" then (when declared then on remark else bad at) else
    when is_declaration w then on (text declared) else
    bad at

-- "the code is the third word after $var, and a $end among those three is not allowed". The vector of the code `named` is declared here or was before.
unfoldable pub variable_step : (named : List ℕ) (before : ℕ) (declared : Bool) (at : ℕ) → List ℕ → Step
variable_step named before declared at w =
    when eqb before 0 then (when is_code w then on (text (declared || same w named)) else bad at) else
    when is w "$end" then bad at else
    on (variable (before - 1) declared)

-- "Of a declaration only its keyword, its $end and the code in $var count"; "Comments .. are passed over". `here` until $end, and then `next`. Words
-- between $enddefinitions and its $end are passed over too (docs/DECISIONS.md).
unfoldable pub passing : (here next : Due) → List ℕ → Step
passing here next w = when is w "$end" then on next else on here

-- a change of the named vector to a value that it may take, or to none: "place the first byte .. for a refused change, of the word that holds its value"
abbrev pub taken : Option ℕ → (place : ℕ) (dump : Bool) → Step
taken (some value) place dump = says value place (command dump)
taken none place dump = bad place

-- The code of a change whose value came in the word before. "changes of other codes are passed over".
unfoldable pub code_step : (named : List ℕ) → Option ℕ → (place : ℕ) (dump : Bool) (at : ℕ) → List ℕ → Step
code_step named value place dump at w =
    when is_code w then (when same w named then taken value place dump else on (command dump)) else
    bad at

-- A scalar change, as in IEEE 1364: its code s comes right after its digit, in one word. 432: "a change of the named vector not in b or B form".
unfoldable pub scalar_step : (named : List ℕ) (dump : Bool) (at : ℕ) → List ℕ → Step
scalar_step named dump at s = when is_code s && not (same s named) then on (command dump) else bad at

-- "One or more digits follow b or B, each 0, 1, x or z in either case": the digits s
unfoldable pub vector_step : (dump : Bool) (at : ℕ) → List ℕ → Step
vector_step dump at s = when one_or_more is_state s then on (code (value_of s) at dump) else bad at

-- "# takes one or more of 0 to 9", "times are not compared": the digits s. Within a dump "only changes may stand between".
unfoldable pub time_step : (dump : Bool) (at : ℕ) → List ℕ → Step
time_step dump at s = when not dump && one_or_more is_decimal s then on (command false) else bad at

-- the four dump keywords of IEEE 1364
unfoldable pub is_dump : List ℕ → Bool
is_dump w = is w "$dumpvars" || (is w "$dumpall" || (is w "$dumpoff" || is w "$dumpon"))

-- "A dump keyword and its $end are passed over; only changes may stand between, and they count." Of the declarations "only $comment may come later too".
unfoldable pub keyword_step : (dump : Bool) (at : ℕ) → List ℕ → Step
keyword_step dump at w =
    when dump then (when is w "$end" then on (command false) else bad at) else
    when is_dump w then on (command true) else
    when is w "$comment" then on remark else
    bad at

-- The word w after the declarations, by its first byte b; s is what comes after that byte. A scalar change begins with its digit; "any bytes or none
-- may follow r or R", whose change is "not in b or B form".
unfoldable pub command_by : (named : List ℕ) (dump : Bool) (at : ℕ) (w : List ℕ) (b : ℕ) (s : List ℕ) → Step
command_by named dump at w b s =
    when eqb b 98 || eqb b 66 then vector_step dump at s else
    when eqb b 35 then time_step dump at s else
    when is_state b then scalar_step named dump at s else
    when eqb b 36 then keyword_step dump at w else
    when eqb b 114 || eqb b 82 then on (code none at dump) else
    bad at

abbrev pub command_step : (named : List ℕ) (dump : Bool) (at : ℕ) → List ℕ → Step
command_step named dump at [] = bad at
command_step named dump at (b ∷ s) = command_by named dump at (b ∷ s) b s

-- the word w, whose first byte is byte `at` of the text, by what is due
abbrev pub step_of : (named : List ℕ) → Due → (at : ℕ) → List ℕ → Step
step_of named (declaration declared) at w = declaration_step declared at w
step_of named (variable before declared) at w = variable_step named before declared at w
step_of named (text declared) at w = passing (text declared) (declaration declared) w
step_of named remark at w = passing remark (command false) w
step_of named (command dump) at w = command_step named dump at w
step_of named (code value place dump) at w = code_step named value place dump at w

-- ---- the whole text

-- a value of the named vector, and its place: the first byte of the word that holds it
pub record Value : Type 0 where
  pub value : ℕ
  pub place : ℕ

-- what is read of a text: the values of the named vector before the first 432, and the place of that if there is one
pub record Reading : Type 0 where
  pub values : List Value
  pub refusal : Option ℕ

-- 432 here
abbrev pub stopped : ℕ → Reading
stopped place = record { values = []; refusal = some place }

-- a value more, in front
abbrev pub more : (value place : ℕ) → Reading → Reading
more value place x = record { values = record { value = value; place = place } ∷ x.values; refusal = x.refusal }

-- what a word does, and then the rest of the text, by what is due
abbrev pub after : Step → (Due → Reading) → Reading
after (on due) rest = rest due
after (says value place due) rest = more value place (rest due)
after (bad place) rest = stopped place

-- The text may end here. "a text without it [$enddefinitions] ends too soon", and so does one that ends in a declaration, $enddefinitions too, in a
-- comment, in a dump or before the code of a change.
abbrev pub may_end : Due → Bool
may_end (declaration declared) = false
may_end (variable before declared) = false
may_end (text declared) = false
may_end remark = false
may_end (command dump) = not dump
may_end (code value place dump) = false

-- "or the text's length if it ends too soon"
abbrev pub ending : (length : ℕ) → Due → Reading
ending length due = when may_end due then record { values = []; refusal = none } else stopped length

-- the words that are left of a text of this length
unfoldable pub reading : (named : List ℕ) (length : ℕ) → Due → List Word → Reading
reading named length due [] = ending length due
reading named length due (w ∷ ws) = after (step_of named due w.at w.bytes) (λ d. reading named length d ws)

-- the whole text s
unfoldable pub reading_of : (named : List ℕ) → List ℕ → Reading
reading_of named s = reading named (length s) (declaration false) (words true 0 s)
