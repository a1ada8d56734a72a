-- The faults of a record and their numbers in a reply: document 01, "Reading the text", and for 108 document 02, §1.
-- Assumes nothing: these are definitions.
use Rattle.std.specs.Prelude.{ℕ}
use Rattle.rows.specs.declared.Fault.{Fault}
use Rattle.rows.specs.declared.Fault.TheVariants.{BrokenField, FieldCount, NotNumber, OutOfTurn, NoPlace, OtherEnding}

-- 102, "quote mark in a plain field .."; 103, "wrong count of fields"; 104, "a field is no number of its width, or is empty and not a successor";
-- 105, "row number out of turn"; 106, where no place is left; 108, "when its line end is neither the first record's nor the end of the text"
abbrev pub fault_number : Fault → ℕ
fault_number BrokenField = 102
fault_number FieldCount = 103
fault_number NotNumber = 104
fault_number OutOfTurn = 105
fault_number NoPlace = 106
fault_number OtherEnding = 108

-- the fault of a field that is no number
abbrev pub not_number : Fault
not_number = NotNumber
