-- What the functions on a text and a place answer: of a declaration, what the rest of the reading is. No reply rests on these definitions: the reader above
-- is promised by `vcd`.
use Rattle.std.specs.Prelude.{ℕ, ◌-◌, ◌≤◌, ◌<◌, ◌≡◌, Bool, false, ◌||◌, List, eqb, length, Result, Ok, Err}
use Rattle.lists.specs.Search.{when◌then◌else◌}
use Rattle.vcd.specs.Syntax.{Due, declaration, variable, text, remark, command, Reading, stopped, reading_of}
use Rattle.commands.specs.Reads.{reading_from}
use Rattle.commands.specs.declared.BadWord.{BadWord}
use Rattle.commands.specs.declared.Code.{Code}
use Rattle.declarations.specs.declared.Declaration.{Declaration}
use Rattle.declarations.specs.declared.Declaration.TheVariants.{On, Body}

-- a place after `low` and within the text
abbrev pub Within : (s : List ℕ) (low to : ℕ) → Type 0
Within s low to = (low < to) × (to ≤ length s)

-- ---- a word of $var before its code; `before` words are still to come before that, this one included

-- the reading after a place, or after a refusal
abbrev pub after_place : (named s : List ℕ) → Due → Result ℕ BadWord → Reading
after_place named s due (Ok to) = reading_from named s due to
after_place named s due (Err e) = stopped e.0

abbrev pub PlaceMoves : (s : List ℕ) (low : ℕ) → Result ℕ BadWord → Type 0
PlaceMoves s low (Ok to) = Within s low to
PlaceMoves s low (Err e) = Unit {0}

pub record WordRead (s : List ℕ) (at : ℕ) (r : Result ℕ BadWord) : Type 0 where
  pub reads : (named : List ℕ) (before : ℕ) (declared : Bool) → eqb before 0 ≡ false → reading_from named s (variable before declared) at ≡ after_place named s (variable (before - 1) declared) r
  pub moves : PlaceMoves s at r

-- ---- the code of $var

abbrev pub after_code : (named s : List ℕ) (declared : Bool) → Result Code BadWord → Reading
after_code named s declared (Ok c) = reading_from named s (text (declared || c.named)) c.to
after_code named s declared (Err e) = stopped e.0

abbrev pub CodeMoves : (s : List ℕ) (low : ℕ) → Result Code BadWord → Type 0
CodeMoves s low (Ok c) = Within s low c.to
CodeMoves s low (Err e) = Unit {0}

pub record VariableFrom (before : ℕ) (named s : List ℕ) (at : ℕ) (r : Result Code BadWord) : Type 0 where
  pub reads : (declared : Bool) → reading_from named s (variable before declared) at ≡ after_code named s declared r
  pub moves : CodeMoves s at r

abbrev pub CodeRead : (named s : List ℕ) (at : ℕ) → Result Code BadWord → Type 0
CodeRead = VariableFrom 0

abbrev pub VariableRead : (named s : List ℕ) (at : ℕ) → Result Code BadWord → Type 0
VariableRead = VariableFrom 2

-- ---- a declaration

-- a declaration or a refusal
abbrev pub Answer : Type 0
Answer = Result Declaration BadWord

abbrev pub follows : (named s : List ℕ) → Answer → Reading
follows named s (Ok (On to declared)) = reading_from named s (declaration declared) to
follows named s (Ok (Body to)) = reading_from named s (command false) to
follows named s (Err e) = stopped e.0

abbrev pub Moves : (s : List ℕ) (low : ℕ) → Answer → Type 0
Moves s low (Ok (On to declared)) = Within s low to
Moves s low (Ok (Body to)) = Within s low to
Moves s low (Err e) = Unit {0}

pub record Follows (named s : List ℕ) (low : ℕ) (x : Reading) (r : Answer) : Type 0 where
  pub reads : x ≡ follows named s r
  pub moves : Moves s low r

abbrev pub TextRead : (s : List ℕ) (at : ℕ) (declared : Bool) → Answer → Type 0
TextRead s at declared r = (named : List ℕ) → Follows named s at (reading_from named s (text declared) at) r

abbrev pub VariableEnds : (named s : List ℕ) (at : ℕ) (declared : Bool) → Answer → Type 0
VariableEnds named s at declared = Follows named s at (reading_from named s (variable 2 declared) at)

abbrev pub DefinitionsEnd : (s : List ℕ) (from at : ℕ) (declared : Bool) → Answer → Type 0
DefinitionsEnd s from at declared r = (named : List ℕ) → Follows named s at (when declared then reading_from named s remark at else stopped from) r

abbrev pub DeclarationRead : (named s : List ℕ) (at : ℕ) (declared : Bool) → Answer → Type 0
DeclarationRead named s at declared = Follows named s at (reading_from named s (declaration declared) at)

-- ---- all of them

abbrev pub BodyRead : (named s : List ℕ) → Result ℕ BadWord → Type 0
BodyRead named s r = reading_of named s ≡ after_place named s (command false) r
