-- Routine A of document 01: its text, and what a reader of MPS makes of it. Assumes nothing.
use mathlib.Core.Path.{◌≡◌, refl}
use mathlib.Core.List.{List, [], ◌∷◌, ◌++◌}
use mathlib.Core.Option.{none}
use Prim.Native.String.{String}
use Rattle.wcet.specs.Table.{around, inside}
use Rattle.wcet.specs.Cases.{A}
use Rattle.digits.specs.Decimal.{numeral_in, numeral_of, integer_of}
use Rattle.digits.specs.Decimal.{digits, decimal}
use Rattle.mps.specs.Program.{numbers_from, keep, rows_of, edges_of, number, right_side, entries_of, column_of, program_of}
use Rattle.lists.specs.Bytes.{bytes, same}
use Rattle.mps.specs.Mps.{Bytes, each, lines_of, trimmed, field, in_fields, kind_in, number_in, row_in, card_in, columns_in, cards, behind, opened, all, among, distinct, in_rows, well_named, read_mps}
use Rattle.mps.specs.Text.{digits_in, row_name, edge_name, filled, row_line, entry_line, column_lines, lines_in, text_of, mps_text}
use Rattle.mps.specs.Claim.{named_row, named_entry, named_column, named, ReadsBack}

abbrev line : String → Bytes
line s = bytes s ++ 10 ∷ []

pub text_of_A : mps_text A ≡ (
    line "NAME"
    ++ line "ROWS"
    ++ line " N  COST"
    ++ line " E  B0000"
    ++ line " E  B0001"
    ++ line " E  B0002"
    ++ line " E  B0003"
    ++ line " L  L01"
    ++ line "COLUMNS"
    ++ line "    E0000     COST      -3"
    ++ line "    E0000     B0000     1"
    ++ line "    E0000     B0001     -1"
    ++ line "    E0000     L01       -3"
    ++ line "    E0002     COST      -5"
    ++ line "    E0002     B0001     1"
    ++ line "    E0002     B0002     -1"
    ++ line "    E0003     COST      -1"
    ++ line "    E0003     B0001     1"
    ++ line "    E0003     B0003     -1"
    ++ line "    E0004     COST      -3"
    ++ line "    E0004     B0001     -1"
    ++ line "    E0004     B0002     1"
    ++ line "    E0004     L01       1"
    ++ line "RHS"
    ++ line "    RHS       B0000     1"
    ++ line "    RHS       B0003     -1"
    ++ line "ENDATA")
unfolding around inside numeral_in numeral_of numbers_from keep rows_of edges_of number right_side entries_of column_of program_of digits_in row_name edge_name integer_of filled row_line entry_line column_lines lines_in mathlib.Core.List.flatten text_of mps_text mathlib.Core.List.flat_map
text_of_A = refl

pub A_reads_back : ReadsBack A
unfolding around inside numeral_in numeral_of numbers_from keep rows_of edges_of number right_side entries_of column_of program_of digits_in row_name edge_name integer_of filled row_line entry_line column_lines lines_in mathlib.Core.List.flatten text_of mps_text mathlib.Core.List.flat_map digits decimal each lines_of trimmed field same in_fields kind_in number_in row_in card_in columns_in cards behind opened all among distinct in_rows well_named read_mps named_row named_entry named_column named
A_reads_back g = refl

-- a text of two rows, with these cards
abbrev text_with : (columns rights : Bytes) → Bytes
text_with columns rights = line "NAME" ++ line "ROWS" ++ line " N  COST" ++ line " L  L01" ++ line "COLUMNS" ++ columns ++ line "RHS" ++ rights ++ line "ENDATA"

-- What is no MPS: a text that stops before ENDATA, a row name one column too far left, a number that begins in the gap before its columns; two rows
-- of one name, a column or a right side whose cards are not together, a row twice in a column, an empty name, a row that no card of ROWS names.
pub refusals : (read_mps (line "NAME" ++ line "ROWS" ++ line " N  COST") ≡ none)
    × (read_mps (line "NAME" ++ line "ROWS" ++ line " N COST" ++ line "COLUMNS" ++ line "RHS" ++ line "ENDATA") ≡ none)
    × (read_mps (text_with (line "    E0000     COST     -3") []) ≡ none)
    × (read_mps (line "NAME" ++ line "ROWS" ++ line " N  COST" ++ line " E  COST" ++ line "COLUMNS" ++ line "RHS" ++ line "ENDATA") ≡ none)
    × (read_mps (text_with (line "    E0000     COST      1" ++ line "    E0001     COST      1" ++ line "    E0000     L01       1") []) ≡ none)
    × (read_mps (text_with [] (line "    RHS       COST      1" ++ line "    RHS1      COST      1" ++ line "    RHS       L01       1")) ≡ none)
    × (read_mps (text_with (line "    E0000     COST      1" ++ line "    E0000     COST      1") []) ≡ none)
    × (read_mps (text_with (line "              COST      1") []) ≡ none)
    × (read_mps (text_with (line "    E0000     B0000     1") []) ≡ none)
    × (read_mps (text_with [] (line "    RHS       B0000     1")) ≡ none)
unfolding digits decimal each lines_of trimmed field same in_fields kind_in number_in row_in card_in columns_in cards behind opened all among distinct in_rows well_named read_mps
refusals = (refl, refl, refl, refl, refl, refl, refl, refl, refl, refl)
