-- What the functions under the two readers answer, by the definitions of Table.
use Rattle.std.specs.Prelude.{ℕ, suc, ◌+◌, Bool, cond, List, [], ◌∷◌, length, set, leb, eqb, Result, Ok, Err}
use Rattle.limits.specs.Limits.{most_text_bytes}
use Rattle.csv_text.specs.Grammar.{Record, records, first_ending}
use Rattle.rows.specs.Row.{Verdict}
use Rattle.rows.specs.declared.BlockRow.{BlockRow}
use Rattle.rows.specs.declared.LoopRow.{LoopRow}
use Rattle.rows.specs.declared.Fault.TheVariants.{BrokenField, FieldCount}
use Rattle.rows.specs.declared.Step.{Step}
use Rattle.tables.specs.Table.{Reading}
use Rattle.tables.specs.Columns.{reply_by}
use Rattle.tables.specs.declared.Rows.{Rows}
use Rattle.tables.specs.declared.ReadFault.{ReadFault}
use Rattle.tables.specs.declared.ReadFault.TheVariants.{TextLength, Record as AtRecord}
use Rattle.tables.specs.declared.Start.{Start}
use Rattle.tables.specs.declared.BlockArrays.{BlockArrays}
use Rattle.tables.specs.declared.LoopArrays.{LoopArrays}

-- where the rows of a text start, in which record, and how the first record ends, or the refusal before them
abbrev pub start_after : ℕ → List Record → Result Start ReadFault
start_after count [] = Err (AtRecord FieldCount 1)
start_after count (r ∷ rs) = cond r.sound (cond (eqb (length r.fields) count) (Ok (record { at = r.bytes; place = 2; ending = r.ending })) (Err (AtRecord FieldCount 1))) (Err (AtRecord BrokenField 1))

unfoldable pub start_of : ℕ → Bool → List ℕ → Result Start ReadFault
start_of count headerRow s = cond (leb (length s) most_text_bytes) (cond headerRow (start_after count (records s)) (Ok (record { at = 0; place = 1; ending = first_ending (records s) }))) (Err TextLength)

-- columns with a store for each row, from place k on, by the store of one row
unfoldable pub stores : {A C : Type 0} → (C → ℕ → A → C) → C → ℕ → List A → C
stores store columns k [] = columns
stores store columns k (w ∷ ws) = stores store (store columns k w) (suc k) ws

abbrev pub store_block : BlockArrays → ℕ → BlockRow → BlockArrays
store_block c k w = record { cost = set c.cost k w.cost; loops = set c.loops k w.innermost; first = set c.first k w.first; second = set c.second k w.second; figure = set c.figure k w.figure }

abbrev pub store_loop : LoopArrays → ℕ → LoopRow → LoopArrays
store_loop c k w = record { parent = set c.parent k w.parent; header = set c.header k w.header; limit = set c.limit k w.limit; multiplier = set c.multiplier k w.multiplier }

-- what a pass over the records leaves: the rows up to the first fault in its columns, and the reply
pub record Gathered (C : Type 0) : Type 0 where
  pub columns : C
  pub reply : Result Rows ReadFault

-- a reading after k rows, which stand in the columns already
abbrev pub gathered : {A C : Type 0} → (C → ℕ → A → C) → C → ℕ → Reading A → Gathered C
gathered store columns k x = record { columns = stores store columns k x.rows; reply = reply_by (k + length x.rows) x.end }

abbrev pub leaving : {C : Type 0} → Result Rows ReadFault → C → Gathered C
leaving r columns = record { columns = columns; reply = r }

-- the verdict on the record r that starts at `at`, and where the next record starts
abbrev pub step_of : {A : Type 0} → Verdict A → ℕ → Record → Step A
step_of v at r = record { verdict = v; next = at + r.bytes }
