-- Document 02, §5: the program's text in fixed MPS.
use Rattle.std.specs.Prelude.{ℕ, zero, suc, ◌+◌, ◌-◌, ◌/◌, ◌%◌, length, replicate}
use mathlib.Core.List.{List, [], ◌∷◌, ◌++◌, map, flat_map, flatten}
use Rattle.lists.specs.Bytes.{bytes}
use Rattle.digits.specs.Decimal.{integer_of}
use Rattle.wcet.specs.Table.{Routine}
use Rattle.mps.specs.Program.{Kind, free, equal, at_most, at_least, Row, Entry, Column, RowName, objective, block, loop, Program, program_of}
use Rattle.mps.specs.Mps.{Bytes}

-- the last k decimal digits of n, in front of s
unfoldable pub digits_in : ℕ → ℕ → Bytes → Bytes
digits_in zero n s = s
digits_in (suc k) n s = digits_in k (n / 10) ((48 + n % 10) ∷ s)

-- "Blocks are B0000, edges E0000 .., loops L00"
unfoldable pub row_name : RowName → Bytes
row_name objective = bytes "COST"
row_name (block u) = 66 ∷ digits_in 4 u []
row_name (loop l) = 76 ∷ digits_in 2 l []

unfoldable pub edge_name : ℕ → Bytes
edge_name e = 69 ∷ digits_in 4 e []

-- the letters of fixed MPS for a row's type
abbrev pub letter : Kind → ℕ
letter free = 78
letter equal = 69
letter at_most = 76
letter at_least = 71

-- a name in eight columns, "left-justified", and two blanks before what follows
unfoldable pub filled : Bytes → Bytes → Bytes
filled s rest = (s ++ replicate (8 - length s) 32) ++ 32 ∷ 32 ∷ rest

-- "Row types stand in column 2", "names in columns 5 to 12"
unfoldable pub row_line : Row RowName → Bytes
row_line r = 32 ∷ letter r.kind ∷ 32 ∷ 32 ∷ row_name r.name

-- "names in columns 5 to 12 and 15 to 22, numbers in columns 25 to 36", "whole, with no point, plus sign or leading zero, one a line"
unfoldable pub entry_line : Bytes → Entry RowName → Bytes
entry_line name x = 32 ∷ 32 ∷ 32 ∷ 32 ∷ filled name (filled (row_name x.row) (integer_of x.number))

-- the cards of a column, in its order
unfoldable pub column_lines : Column ℕ RowName → List Bytes
column_lines c = map (entry_line (edge_name c.name)) c.entries

-- "The sections are NAME with no name, ROWS, COLUMNS, RHS and ENDATA", "the right side is named RHS"
unfoldable pub lines_in : Program → List Bytes
lines_in p = flatten (
    (bytes "NAME" ∷ [])
    ∷ (bytes "ROWS" ∷ map row_line p.rows)
    ∷ (bytes "COLUMNS" ∷ flat_map column_lines p.columns)
    ∷ (bytes "RHS" ∷ map (entry_line (bytes "RHS")) p.right)
    ∷ (bytes "ENDATA" ∷ [])
    ∷ [])

-- "Lines end in LF with no blank before it."
unfoldable pub text_of : Program → Bytes
text_of p = flat_map (λ l. l ++ 10 ∷ []) (lines_in p)

-- the text of a routine's program
unfoldable pub mps_text : Routine → Bytes
mps_text t = text_of (program_of t)
