-- What the text of a table says: its rows and its line end, or the first refusal, 101 to 106 and 108 in their order. One definition for both
-- tables.
-- Assumes nothing: these are definitions.
use Rattle.std.specs.Prelude.{ℕ, suc, ◌+◌, min, Bool, cond, List, [], ◌∷◌, length, leb, eqb, Ok, Err}
use Rattle.limits.specs.Limits.{most_blocks, most_loops, most_text_bytes}
use Rattle.csv_text.specs.Grammar.{Record, records, first_ending}
use Rattle.csv_text.specs.declared.Ending.{Ending}
use Rattle.rows.specs.Fault.{fault_number}
use Rattle.rows.specs.Row.{Verdict, block_fields, loop_fields}
use Rattle.rows.specs.Judge.{judge_block, judge_loop}
use Rattle.rows.specs.declared.BlockRow.{BlockRow}
use Rattle.rows.specs.declared.LoopRow.{LoopRow}
use Rattle.rows.specs.declared.Fault.TheVariants.{BrokenField, FieldCount}
use Rattle.tables.specs.declared.ReadFault.{ReadFault}
use Rattle.tables.specs.declared.ReadFault.TheVariants.{TextLength, Record as AtRecord}

-- "101 first": "text over 65,536 bytes", with no place; the others of a record, which is the place
abbrev pub read_number : ReadFault → ℕ
read_number TextLength = 101
read_number (AtRecord fault place) = fault_number fault

abbrev pub read_place : ReadFault → ℕ
read_place TextLength = 0
read_place (AtRecord fault place) = place

-- how a reading ends: all records taken, with the first record's line end, or refused
pub data End : Type 0 where
  all : Ending → End
  refused : ReadFault → End

-- a reading: the rows up to the first fault, and how it ends
pub record Reading (A : Type 0) : Type 0 where
  pub rows : List A
  pub end : End

abbrev pub stopped : {A : Type 0} → ReadFault → Reading A
stopped fault = record { rows = []; end = refused fault }

abbrev pub reading_after : {A : Type 0} → Reading A → ℕ → Verdict A → Reading A
reading_after rest place (Ok w) = record { rows = w ∷ rest.rows; end = rest.end }
reading_after rest place (Err fault) = stopped (AtRecord fault place)

-- "then the lowest record": the records from the one where row k is due, each by its verdict. "Data rows are numbered 0, 1, 2 and so on,
-- in order"; row 0 stands in record `start`. Document 02, §1: "Every reader above passes on the first record's line end beside the row
-- count"; the first record ends in the way `first`.
unfoldable pub reading : {A : Type 0} → (Ending → ℕ → Record → Verdict A) → Ending → ℕ → ℕ → List Record → Reading A
reading judge first start k [] = record { rows = []; end = all first }
reading judge first start k (r ∷ rs) = reading_after (reading judge first start (suc k) rs) (start + k) (judge first k r)

-- "With a header, record 1 is checked for form and field count and then dropped"; 103: "or a header promised and no record there
-- (place 1)". Its line end is the first record's.
abbrev pub after_header_row : {A : Type 0} → ℕ → (Ending → ℕ → Record → Verdict A) → List Record → Reading A
after_header_row count judge [] = stopped (AtRecord FieldCount 1)
after_header_row count judge (r ∷ rs) = cond r.sound (cond (eqb (length r.fields) count) (reading judge r.ending 2 0 rs) (stopped (AtRecord FieldCount 1))) (stopped (AtRecord BrokenField 1))

-- "101 first": "text over 65,536 bytes". "The caller says whether a header is present"; "Without one, record 1 is the first row."
unfoldable pub table_of : {A : Type 0} → ℕ → (Ending → ℕ → Record → Verdict A) → Bool → List ℕ → Reading A
table_of count judge headerRow s = cond (leb (length s) most_text_bytes) (cond headerRow (after_header_row count judge (records s)) (reading judge (first_ending (records s)) 1 0 (records s))) (stopped TextLength)

-- 106: "more than 1,024 block rows or 64 loop rows, or no place left in the shortest lent column"; `places` is that column's length
abbrev pub block_table : ℕ → Bool → List ℕ → Reading BlockRow
block_table places = table_of block_fields (judge_block (min places most_blocks))

abbrev pub loop_table : ℕ → Bool → List ℕ → Reading LoopRow
loop_table places = table_of loop_fields (judge_loop (min places most_loops))
