-- The one reply of the C library: its four numbers from each answer of the papers.
use Rattle.std.specs.Prelude.{ℕ, ◌^◌, ◌<◌, ℤ, pos, ◌<ℤ◌, Result, Ok, Err}
use Rattle.wcet.specs.Rules.{Reply as Answer, accepted, refused}
use Rattle.wcet.specs.Walk.{Walked}
use Rattle.csv_text.specs.declared.Ending.{Ending}
use Rattle.csv_text.specs.declared.Ending.TheVariants.{CrLf, Lf, EndOfText}
use Rattle.tables.specs.Table.{read_number, read_place}
use Rattle.tables.specs.declared.Rows.{Rows}
use Rattle.tables.specs.declared.ReadFault.{ReadFault}
use Rattle.replies.specs.declared.Reply.{Reply}

-- number 0 is acceptance
abbrev pub acceptance : ℤ → ℕ → Reply
acceptance value more = record { number = 0; place = 0; value = value; more = more }

-- "Each refusal is a number and a place."
abbrev pub refusing : ℕ → ℕ → Reply
refusing number place = record { number = number; place = place; value = pos 0; more = 0 }

-- of a pair of tables or of a second certificate, the bound
abbrev pub of_tables : Answer ℤ → Reply
of_tables (accepted b) = acceptance b 0
of_tables (refused n p) = refusing n p

-- of the writer, the length of the text; of a recorded walk, its step count; of a recording's text, the count of places filled
abbrev pub of_count : Answer ℕ → Reply
of_count (accepted n) = acceptance (pos n) 0
of_count (refused n p) = refusing n p

-- of a walk, its cost and its steps
abbrev pub of_walk : Answer Walked → Reply
of_walk (accepted w) = acceptance (pos w.total) w.steps
of_walk (refused n p) = refusing n p

-- of a reading, the row count, and "the first record's line end beside the row count" (document 02, §1) as the interface numbers it
abbrev pub ending_number : Ending → ℕ
ending_number CrLf = 0
ending_number Lf = 1
ending_number EndOfText = 2

abbrev pub of_reading : Result Rows ReadFault → Reply
of_reading (Ok rows) = acceptance (pos rows.count) (ending_number rows.ending)
of_reading (Err fault) = refusing (read_number fault) (read_place fault)

-- numbers that fit their widths: for functions that are no public entry
pub record PlaceFits (r : Reply) : Type 0 where
  pub place : r.place < 2 ^ 32

pub record ValueFits (r : Reply) : Type 0 where
  pub value : r.value <ℤ pos (2 ^ 63)
