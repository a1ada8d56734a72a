-- The stages: what the readers leave in columns that have a place for every row, and how each answer is an outcome. Assumes nothing.
use mathlib.Core.Path.{◌≡◌, refl, sym, ◌∙◌, ap}
use mathlib.Core.Bool.{Bool, true, false}
use mathlib.Core.List.{List, [], ◌∷◌, map}
use Prim.Native.Nat.{ℕ, ◌≤◌}
use native.Mathlib.Omega.{arith}
use lib.IntN.{ℤ, pos}
use lib.ListN.{length, length-map, take, replicate}
use Rattle.wcet.specs.Table.{Routine}
use Rattle.nesting.specs.Columns.{routine}
use Rattle.limits.specs.Limits.{most_blocks, most_loops}
use Rattle.rows.specs.Row.{cost_of, innermost_of, first_of, second_of, figure_of, parent_of, loop_header_of, limit_of, multiplier_of}
use Rattle.rows.specs.declared.BlockRow.{BlockRow}
use Rattle.rows.specs.declared.LoopRow.{LoopRow}
use Rattle.csv_text.specs.declared.Ending.{Ending}
use Rattle.tables.specs.Table as table
use Rattle.tables.specs.Table.{read_number, read_place, End, Reading}
use Rattle.tables.proofs.Whole.{blocks_short, loops_short}
use Rattle.tables.specs.Columns.{over, reply_by, reply_of, accepted_by, BlockColumns, blocks, BlocksRead, LoopColumns, loops, LoopsRead}
use Rattle.tables.specs.Columns as columns
use Rattle.std.proofs.Common.{Option, Result, Ok, Err}
use Rattle.tables.specs.declared.Rows.{Rows}
use Rattle.tables.specs.declared.ReadFault.{ReadFault}
use Rattle.certificate.specs.declared.TableFault.{TableFault}
use Rattle.certificate.specs.Answers.{table_meaning}
use Rattle.wcet.specs.Claim.{Checked}
use Rattle.stages.specs.Stages.{header_of, Outcome, refusal_at, of_answer, of_end, after_reading, block_reading, loop_reading, table_stage, has_blocks, has_loops, with_loops, routine_of, loops_stage, blocks_stage, setting_stage, outcome_of}
use Rattle.report.specs.declared.Stage.{Stage}
use Rattle.report.specs.declared.Stage.TheVariants.{Blocks, Loops}
use Rattle.stages.specs.declared.Files.{Files}
use Rattle.stages.specs.declared.Files.TheVariants.{Neither, Blocks as OnlyBlocks, Both}

-- the places that were written
take_over : {A : Type 0} (vs column : List A) → length vs ≤ length column → take (length vs) (over vs column) ≡ vs
unfolding over
take_over [] column h = refl
take_over (v ∷ vs) [] h = absurd (omega arith)
take_over (v ∷ vs) (c ∷ column) h = ap (λ xs. v ∷ xs) (take_over vs column (omega arith))

-- ---- the last stage

pub table_told : (t : Routine) (r : Result ℤ TableFault) {o : Outcome} → Checked t (table_meaning r) → o ≡ of_answer (table_meaning r) → o ≡ table_stage t
table_told t r C e = e ∙ ap of_answer C.replied

-- ---- a text and its columns

-- a text that is refused
pub reading_refused : {A : Type 0} {o : Outcome} (x : Reading A) {a : Result Rows ReadFault} (stage : Stage) (next : List A → Outcome) (fault : ReadFault) → a ≡ reply_of x → a ≡ Err fault → o ≡ refusal_at stage (read_number fault) (read_place fault) → o ≡ after_reading stage next x
reading_refused x stage next fault e q t = t ∙ go x.end (sym q ∙ e)
  where
    go : (y : End) → Err fault ≡ reply_by (length x.rows) y → refusal_at stage (read_number fault) (read_place fault) ≡ of_end stage (next x.rows) y
    go (table.all first) f = absurd (cc)
    go (table.refused other) f = let same : fault ≡ other = cc in rw same

-- a text that is taken, with m rows
record Taken {A : Type 0} (x : Reading A) (m : ℕ) : Type 0 where
  ending : Ending
  end : x.end ≡ table.all ending
  count : m ≡ length x.rows

taken : {A : Type 0} (x : Reading A) {a : Result Rows ReadFault} (rows : Rows) → a ≡ reply_of x → a ≡ Ok rows → Taken x rows.count
taken x rows e q = go x.end refl (sym q ∙ e)
  where
    go : (y : End) → x.end ≡ y → Ok rows ≡ reply_by (length x.rows) y → Taken x rows.count
    go (table.all own) z f = record { ending = own; end = z; count = let same : rows ≡ record { count = length x.rows; ending = own } = cc in ap (λ (w : Rows). w.count) same }
    go (table.refused fault) z f = absurd (cc)

module _ {A : Type 0} (x : Reading A) (m : ℕ) (T : Taken x m) where
  -- the first places of a column hold the values of the rows
  column : {B : Type 0} (f : A → B) (old : List B) {new part : List B} → length x.rows ≤ length old → new ≡ over (map f (columns.accepted x)) old → part ≡ take m new → part ≡ map f x.rows
  column f old h e q =
      let n : m ≡ length (map f x.rows) = T.count ∙ sym (length-map x.rows f) in
      q ∙ ap (λ ys. take m ys) (e ∙ ap (λ (y : End). over (map f (accepted_by x.rows y)) old) T.end) ∙ rw n (take_over (map f x.rows) old (omega (arith, length-map x.rows f)))

  after_rows : {o : Outcome} (stage : Stage) (next : List A → Outcome) → o ≡ next x.rows → o ≡ after_reading stage next x
  after_rows stage next t = rw T.end t

-- ---- which files are there

pub all_there : {files : Files} → files ≡ Both → has_loops files ≡ true
all_there e = rw e

pub no_loops_there : (files : Files) → (files ≡ Both → ⊥) → has_loops files ≡ false
no_loops_there Neither f = refl
no_loops_there OnlyBlocks f = refl
no_loops_there Both f = absurd (f refl)

pub none_there : {files : Files} → files ≡ Neither → has_blocks files ≡ false
none_there e = rw e

pub blocks_there : (files : Files) → (files ≡ Neither → ⊥) → has_blocks files ≡ true
blocks_there Neither f = absurd (f refl)
blocks_there OnlyBlocks f = refl
blocks_there Both f = refl

-- ---- the loops

abbrev no_loops : LoopColumns
no_loops = loops (replicate most_loops 0) (replicate most_loops 0) (replicate most_loops 0) (replicate most_loops 0)

module _ (headerRow : Bool) (files : Files) (s : List ℕ) (costs innermost firsts seconds : List ℕ) (figures : List ℤ) where
  abbrev text : Reading LoopRow
  text = loop_reading headerRow s

  abbrev routine_with : List LoopRow → Routine
  routine_with = with_loops costs innermost firsts seconds figures

  pub loops_unread : {o : Outcome} → has_loops files ≡ false → o ≡ refusal_at Loops 107 2 → o ≡ loops_stage headerRow files s routine_with
  unfolding loops_stage
  loops_unread h e = rw h e

  pub loops_refused : {o : Outcome} {a : Result Rows ReadFault} {new : LoopColumns} → has_loops files ≡ true → LoopsRead s headerRow no_loops a new → (fault : ReadFault) → a ≡ Err fault → o ≡ refusal_at Loops (read_number fault) (read_place fault) → o ≡ loops_stage headerRow files s routine_with
  unfolding loops_stage
  loops_refused h L fault e t = rw h (reading_refused text Loops (λ ls. table_stage (routine_with ls)) fault L.reply e t)

  pub loops_taken : {o : Outcome} {a : Result Rows ReadFault} {new : LoopColumns} → has_loops files ≡ true → LoopsRead s headerRow no_loops a new → (rows : Rows)
      → {parents headers limits multipliers : List ℕ} → parents ≡ take rows.count new.parent → headers ≡ take rows.count new.header → limits ≡ take rows.count new.limit → multipliers ≡ take rows.count new.multiplier
      → o ≡ table_stage (routine costs innermost firsts seconds figures parents headers limits multipliers) → a ≡ Ok rows → o ≡ loops_stage headerRow files s routine_with
  unfolding loops_stage
  loops_taken h L rows a b c d t e =
      let m : ℕ = rows.count in
      let T : Taken text m = taken text rows L.reply e in
      let few : length text.rows ≤ most_loops = let S = loops_short most_loops headerRow s in omega (arith, S.rows) in
      rw h (after_rows text m T Loops (λ ls. table_stage (routine_with ls))
      (rw (← column text m T parent_of (replicate most_loops 0) few L.parent a, ← column text m T loop_header_of (replicate most_loops 0) few L.header b, ← column text m T limit_of (replicate most_loops 0) few L.limit c, ← column text m T multiplier_of (replicate most_loops 0) few L.multiplier d) t))

-- ---- the blocks

abbrev no_blocks : BlockColumns
no_blocks = blocks (replicate most_blocks 0) (replicate most_blocks 0) (replicate most_blocks 0) (replicate most_blocks 0) (replicate most_blocks (pos 0))

module _ (headerRow : Bool) (files : Files) (s loops : List ℕ) where
  abbrev block_text : Reading BlockRow
  block_text = block_reading headerRow s

  abbrev next : List BlockRow → Outcome
  next bs = loops_stage headerRow files loops (routine_of bs)

  pub blocks_unread : {o : Outcome} → has_blocks files ≡ false → o ≡ refusal_at Blocks 107 1 → o ≡ blocks_stage headerRow files s loops
  unfolding blocks_stage
  blocks_unread h e = rw h e

  pub blocks_refused : {o : Outcome} {a : Result Rows ReadFault} {new : BlockColumns} → has_blocks files ≡ true → BlocksRead s headerRow no_blocks a new → (fault : ReadFault) → a ≡ Err fault → o ≡ refusal_at Blocks (read_number fault) (read_place fault) → o ≡ blocks_stage headerRow files s loops
  unfolding blocks_stage
  blocks_refused h B fault e t = rw h (reading_refused block_text Blocks next fault B.reply e t)

  pub blocks_taken : {o : Outcome} {a : Result Rows ReadFault} {new : BlockColumns} → has_blocks files ≡ true → BlocksRead s headerRow no_blocks a new → (rows : Rows)
      → {costs innermost firsts seconds : List ℕ} {figures : List ℤ} → costs ≡ take rows.count new.cost → innermost ≡ take rows.count new.loops → firsts ≡ take rows.count new.first → seconds ≡ take rows.count new.second → figures ≡ take rows.count new.figure
      → o ≡ loops_stage headerRow files loops (with_loops costs innermost firsts seconds figures) → a ≡ Ok rows → o ≡ blocks_stage headerRow files s loops
  unfolding blocks_stage
  blocks_taken h B rows a b c d f t e =
      let m : ℕ = rows.count in
      let T : Taken block_text m = taken block_text rows B.reply e in
      let few : length block_text.rows ≤ most_blocks = let S = blocks_short most_blocks headerRow s in omega (arith, S.rows) in
      rw h (after_rows block_text m T Blocks next
      (rw (← column block_text m T cost_of (replicate most_blocks 0) few B.cost a, ← column block_text m T innermost_of (replicate most_blocks 0) few B.loops b, ← column block_text m T first_of (replicate most_blocks 0) few B.first c, ← column block_text m T second_of (replicate most_blocks 0) few B.second d, ← column block_text m T figure_of (replicate most_blocks (pos 0)) few B.figure f) t))

-- ---- the whole

pub setting_told : {o : Outcome} (setting : List ℕ) (files : Files) (blocks loops : List ℕ) {h : Option Bool} (g : Option Bool) → h ≡ header_of setting → h ≡ g → o ≡ setting_stage g files blocks loops → o ≡ outcome_of setting files blocks loops
unfolding outcome_of
setting_told setting files blocks loops g e q t = rw (← e, q) t
