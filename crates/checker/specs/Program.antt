-- Document 01, "One routine in full": which files the program needs, and what it says of what it read.
-- Assumes nothing: these are definitions.
use Rattle.std.specs.Prelude.{ℕ, Bool, true, false, List, [], ◌∷◌, ◌++◌, ◌≡◌, pos}
use Rattle.streams.specs.Calls.{Gave, FileGave, WroteTo}
use Rattle.lists.specs.Bytes.{bytes}
use Rattle.report.specs.Line.{line_of}
use Rattle.stages.specs.Stages.{Outcome, outcome_of, wanted_by, setting_room, text_room}
use Rattle.stages.specs.declared.Files.{Files}
use Rattle.stages.specs.declared.Files.TheVariants.{Neither, Blocks as OnlyBlocks, Both}
use Rattle.stages.specs.declared.Wanted.{Wanted}
use Rattle.stages.specs.declared.Wanted.TheVariants.{Nothing, Blocks as BlockFile, Loops as LoopFile}

-- whether an outcome waits for the file
abbrev pub is_blocks : Wanted → Bool
is_blocks Nothing = false
is_blocks BlockFile = true
is_blocks LoopFile = false

abbrev pub is_loops : Wanted → Bool
is_loops Nothing = false
is_loops BlockFile = false
is_loops LoopFile = true

abbrev pub wants_blocks : Outcome → Bool
wants_blocks o = is_blocks (wanted_by o)

abbrev pub wants_loops : Outcome → Bool
wants_loops o = is_loops (wanted_by o)

-- a file that is wanted is opened and read; one that is not wanted counts as unread and empty
abbrev pub Came : (path : List ℕ) → (wanted : Bool) → (readable : Bool) → List ℕ → Type 0
Came path true readable s = FileGave path text_room readable s
Came path false readable s = (readable ≡ false) × (s ≡ [])

-- which files could be read
abbrev pub files_of : (blocks loops : Bool) → Files
files_of false loops = Neither
files_of true false = OnlyBlocks
files_of true true = Both

-- after good blocks: the loops file is opened where the outcome without it wants it
pub record LoopsJudged (setting blocks : List ℕ) (o : Outcome) : Type 0 where
  pub readable : Bool
  pub loops : List ℕ
  pub came : Came (bytes "loops.csv") (wants_loops (outcome_of setting OnlyBlocks blocks [])) readable loops
  pub outcome : o ≡ outcome_of setting (files_of true readable) blocks loops

-- after the setting: the same of the blocks file, and then of the loops file
pub record FilesJudged (setting : List ℕ) (o : Outcome) : Type 0 where
  pub blocks_given : Bool
  pub blocks : List ℕ
  pub loops_given : Bool
  pub loops : List ℕ
  pub blocks_came : Came (bytes "blocks.csv") (wants_blocks (outcome_of setting Neither [] [])) blocks_given blocks
  pub loops_came : Came (bytes "loops.csv") (wants_loops (outcome_of setting (files_of blocks_given false) blocks [])) loops_given loops
  pub outcome : o ≡ outcome_of setting (files_of blocks_given loops_given) blocks loops

-- "The checking program reads one line .. from standard input .., then blocks.csv and loops.csv."
-- An input that cannot be read says nothing, which is 100.
pub record InputJudged (o : Outcome) : Type 0 where
  pub readable : Bool
  pub setting : List ℕ
  pub said : Gave (pos 0) setting_room readable setting
  pub files : FilesJudged setting o

-- the message on standard error where the line could not be written
abbrev pub failure : List ℕ
failure = bytes "cannot write the reply" ++ 10 ∷ []

pub record Complained : Type 0 where
  pub written : Bool
  pub printed : WroteTo (pos 2) failure written

-- what the program does: it judges its input, "prints the one line" on standard output and, where that fails, the message on standard error
pub record Ran (written : Bool) : Type 0 where
  pub outcome : Outcome
  pub judged : InputJudged outcome
  pub printed : WroteTo (pos 1) (line_of outcome) written
  pub complained : written ≡ false → Complained
