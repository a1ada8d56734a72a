-- What a record says where a row is due: the row, or its first fault, 102 to 106 and then 108. One definition for both tables.
-- Assumes nothing: these are definitions.
use Rattle.std.specs.Prelude.{ℕ, Bool, cond, List, [], length, get_or, eqb, Err}
use Rattle.csv_text.specs.Grammar.{Record, alike}
use Rattle.csv_text.specs.declared.Ending.{Ending}
use Rattle.rows.specs.Row.{Verdict, block_fields, block_cells, block_row, loop_fields, loop_cells, loop_row}
use Rattle.rows.specs.declared.Fault.TheVariants.{BrokenField, FieldCount}
use Rattle.rows.specs.declared.BlockRow.{BlockRow}
use Rattle.rows.specs.declared.LoopRow.{LoopRow}

-- field i of a record as written
abbrev pub field_of : Record → ℕ → List ℕ
field_of r i = get_or r.fields i []

-- "in it the lowest number": 102, "quote mark in a plain field ..", for a record that is not sound; 103, "wrong count of fields"; then
-- 104, 105, 106, 108, which its fields and its line end decide. `first` is how the first record ends.
abbrev pub judge : {A : Type 0} → ℕ → (Bool → (ℕ → List ℕ) → Verdict A) → Ending → Record → Verdict A
judge count row first r = cond r.sound (cond (eqb (length r.fields) count) (row (alike first r.ending) (field_of r)) (Err FieldCount)) (Err BrokenField)

-- a record of each table, where row k is due and `room` rows have a place
unfoldable pub judge_block : ℕ → Ending → ℕ → Record → Verdict BlockRow
judge_block room first k = judge block_fields (λ a w. block_row room k a (block_cells w)) first

unfoldable pub judge_loop : ℕ → Ending → ℕ → Record → Verdict LoopRow
judge_loop room first k = judge loop_fields (λ a w. loop_row room k a (loop_cells w)) first
