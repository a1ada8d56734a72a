-- Document 01, "One routine in full": what the checking program says of the line on its standard input and of its two files.
-- Assumes nothing: these are definitions.
use Rattle.std.specs.Prelude.{ℕ, suc, Bool, true, false, cond, ◌||◌, List, [], ◌∷◌, ◌++◌, map, ◌≡◌, eqb, ℤ, take, Option, Some, None, Result, Ok, Err}
use Prim.Native.String.{String}
use Rattle.limits.specs.Limits.{most_blocks, most_loops, most_text_bytes}
use Rattle.wcet.specs.Table.{Routine}
use Rattle.wcet.specs.Rules.{Reply, accepted, refused, table_reply}
use Rattle.wcet.specs.Claim.{WcetBound}
use Rattle.nesting.specs.Columns.{routine}
use Rattle.rows.specs.Row.{cost_of, innermost_of, first_of, second_of, figure_of, parent_of, loop_header_of, limit_of, multiplier_of}
use Rattle.rows.specs.declared.BlockRow.{BlockRow}
use Rattle.rows.specs.declared.LoopRow.{LoopRow}
use Rattle.csv_text.specs.declared.Ending.{Ending}
use Rattle.tables.specs.Table as table
use Rattle.tables.specs.Table.{read_number, read_place, End, Reading, block_table, loop_table}
use Rattle.lists.specs.Bytes.{bytes, same}
use Rattle.stages.specs.declared.Files.{Files}
use Rattle.stages.specs.declared.Files.TheVariants.{Neither, Blocks as OnlyBlocks, Both}
use Rattle.report.specs.declared.Stage.{Stage}
use Rattle.report.specs.declared.Stage.TheVariants.{Setting, Blocks, Loops, Table}
use Rattle.report.specs.declared.Refusal.{Refusal}
use Rattle.stages.specs.declared.Wanted.{Wanted}
use Rattle.stages.specs.declared.Wanted.TheVariants.{Nothing, Blocks as BlockFile, Loops as LoopFile}

-- ---- the setting

-- "The line ends with LF or with the input"
abbrev pub setting_is : List ℕ → String → Bool
setting_is s word = same s (bytes word) || same s (bytes word ++ 10 ∷ [])

-- "one line, header=absent or header=present .. anything else before, in or after it is 100": whether there is a header row, if the line says it
unfoldable pub header_of : List ℕ → Option Bool
header_of s = cond (setting_is s "header=absent") (Some false) (cond (setting_is s "header=present") (Some true) None)

-- ---- the stages

-- the bound, or a refusal
abbrev pub Outcome : Type 0
Outcome = Result ℤ Refusal

abbrev pub refusal_at : Stage → ℕ → ℕ → Outcome
refusal_at stage number place = Err (record { stage = stage; number = number; place = place })

-- the routine of the columns of blocks and the rows of loops
abbrev pub with_loops : (costs loops firsts seconds : List ℕ) (figures : List ℤ) → List LoopRow → Routine
with_loops costs loops firsts seconds figures ls = routine costs loops firsts seconds figures (map parent_of ls) (map loop_header_of ls) (map limit_of ls) (map multiplier_of ls)

-- the routine of the rows of blocks and those of loops
abbrev pub routine_of : List BlockRow → List LoopRow → Routine
routine_of bs = with_loops (map cost_of bs) (map innermost_of bs) (map first_of bs) (map second_of bs) (map figure_of bs)

-- the last stage: the bound, or 201 to 209
abbrev pub of_answer : Reply ℤ → Outcome
of_answer (accepted bound) = Ok bound
of_answer (refused number place) = refusal_at Table number place

abbrev pub table_stage : Routine → Outcome
table_stage t = of_answer (table_reply t)

-- a text that is refused, 101 to 106 and 108, or what comes after its rows, whatever its line end
abbrev pub of_end : Stage → Outcome → End → Outcome
of_end stage next (table.all ending) = next
of_end stage next (table.refused fault) = refusal_at stage (read_number fault) (read_place fault)

abbrev pub after_reading : {A : Type 0} → Stage → (List A → Outcome) → Reading A → Outcome
after_reading stage next x = of_end stage (next x.rows) x.end

-- a text, read into columns that have a place for as many rows as a table may have
abbrev pub block_reading : Bool → List ℕ → Reading BlockRow
block_reading = block_table most_blocks

abbrev pub loop_reading : Bool → List ℕ → Reading LoopRow
loop_reading = loop_table most_loops

-- 107: "a file cannot be read", place "1 blocks, 2 loops"
abbrev pub has_blocks : Files → Bool
has_blocks Neither = false
has_blocks OnlyBlocks = true
has_blocks Both = true

abbrev pub has_loops : Files → Bool
has_loops Neither = false
has_loops OnlyBlocks = false
has_loops Both = true

-- "Setting comes first, then blocks, loops, table; 107 carries the stage of its file."
unfoldable pub loops_stage : Bool → Files → List ℕ → (List LoopRow → Routine) → Outcome
loops_stage headerRow files loops with-loops = cond (has_loops files) (after_reading Loops (λ ls. table_stage (with-loops ls)) (loop_reading headerRow loops)) (refusal_at Loops 107 2)

unfoldable pub blocks_stage : Bool → Files → List ℕ → List ℕ → Outcome
blocks_stage headerRow files blocks loops = cond (has_blocks files) (after_reading Blocks (λ bs. loops_stage headerRow files loops (routine_of bs)) (block_reading headerRow blocks)) (refusal_at Blocks 107 1)

-- "it holds for both files"
abbrev pub setting_stage : Option Bool → Files → List ℕ → List ℕ → Outcome
setting_stage (Some headerRow) files blocks loops = blocks_stage headerRow files blocks loops
setting_stage None files blocks loops = refusal_at Setting 100 0

unfoldable pub outcome_of : List ℕ → Files → List ℕ → List ℕ → Outcome
outcome_of setting files blocks loops = setting_stage (header_of setting) files blocks loops

-- ---- the order in which files are opened

-- the file that a 107 names
abbrev pub wanted_at : Stage → Wanted
wanted_at Setting = Nothing
wanted_at Blocks = BlockFile
wanted_at Loops = LoopFile
wanted_at Table = Nothing

abbrev pub wanted_by : Outcome → Wanted
wanted_by (Ok bound) = Nothing
wanted_by (Err refusal) = cond (eqb refusal.number 107) (wanted_at refusal.stage) Nothing

-- ---- what is claimed of the definitions, and proved in proofs/

-- Demand 3 of the whole program: an accepted bound is that of the routine which the rows of the two texts give, and holds for every list of
-- blocks.
pub record Certified (setting blocks loops : List ℕ) (b : ℤ) : Type 0 where
  pub header_row : Bool
  pub said : header_of setting ≡ Some header_row
  pub block_rows : List BlockRow
  pub loop_rows : List LoopRow
  pub block_ending : Ending
  pub loop_ending : Ending
  pub blocks_read : block_reading header_row blocks ≡ record { rows = block_rows; end = table.all block_ending }
  pub loops_read : loop_reading header_row loops ≡ record { rows = loop_rows; end = table.all loop_ending }
  pub replied : table_reply (routine_of block_rows loop_rows) ≡ accepted b
  pub bounded : WcetBound (routine_of block_rows loop_rows) b

-- The program's buffers have one byte more than the longest good setting, header=present and LF, and than the longest good text.
abbrev pub setting_room : ℕ
setting_room = 16

abbrev pub text_room : ℕ
text_room = suc most_text_bytes

-- They are large enough: the outcome depends on the first bytes of the setting and of each file only.
abbrev pub FirstBytes : List ℕ → Files → List ℕ → List ℕ → Type 0
FirstBytes setting files blocks loops = outcome_of (take setting_room setting) files (take text_room blocks) (take text_room loops) ≡ outcome_of setting files blocks loops

-- Files may be opened in turn, each where the outcome without it waits for it. An outcome that waits for none is the outcome whatever the
-- other files hold. What an unopened file holds plays no part.
pub record InTurn (setting blocks loops : List ℕ) : Type 0 where
  pub by_setting : wanted_by (outcome_of setting Neither [] []) ≡ Nothing → (files : Files) → outcome_of setting files blocks loops ≡ outcome_of setting Neither [] []
  pub by_blocks : wanted_by (outcome_of setting OnlyBlocks blocks []) ≡ Nothing → (files : Files) → has_blocks files ≡ true → outcome_of setting files blocks loops ≡ outcome_of setting OnlyBlocks blocks []
  pub no_blocks : outcome_of setting Neither blocks loops ≡ outcome_of setting Neither [] []
  pub no_loops_lem : outcome_of setting OnlyBlocks blocks loops ≡ outcome_of setting OnlyBlocks blocks []
