-- Document 01, "One routine in full": the one line that the checking program prints.
-- Assumes nothing: these are definitions.
use Rattle.std.specs.Prelude.{ℕ, ℤ, List, [], ◌∷◌, ◌++◌, Result, Ok, Err}
use Rattle.lists.specs.Bytes.{bytes}
use Rattle.digits.specs.Decimal.{numeral_of, integer_of}
use Rattle.report.specs.declared.Stage.{Stage}
use Rattle.report.specs.declared.Stage.TheVariants.{Setting, Blocks, Loops, Table}
use Rattle.report.specs.declared.Refusal.{Refusal}

-- "a word for the stage (setting, blocks, loops, table)"
abbrev pub stage_word : Stage → List ℕ
stage_word Setting = bytes "setting"
stage_word Blocks = bytes "blocks"
stage_word Loops = bytes "loops"
stage_word Table = bytes "table"

-- "a word for the stage .., the number and the place, with one space between"
unfoldable pub refusal_text : Refusal → List ℕ
refusal_text r = stage_word r.stage ++ 32 ∷ numeral_of r.number ++ 32 ∷ numeral_of r.place

-- "the one line accepted 30: the word and the bound. A refusal is refused, a word for the stage ..; either line ends with LF."
unfoldable pub line_of : Result ℤ Refusal → List ℕ
line_of (Ok bound) = bytes "accepted " ++ integer_of bound ++ 10 ∷ []
line_of (Err refusal) = bytes "refused " ++ refusal_text refusal ++ 10 ∷ []

-- the bytes of a line's buffer
abbrev pub line_room : ℕ
line_room = 64
