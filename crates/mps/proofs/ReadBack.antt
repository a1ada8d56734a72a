-- A program's text, read by the definition of MPS, gives that program. Assumes nothing.
use mathlib.Core.Path.{◌≡◌, refl, sym, ◌∙◌, ap}
use mathlib.Core.Bool.{true}
use mathlib.Core.List.{List, [], ◌∷◌, ◌++◌, map, flat_map, flatten, append-nil}
use mathlib.Core.Option.{some}
use Prim.Native.Nat.{ℕ, zero, suc, ◌-◌, ◌<◌}
use native.Mathlib.Omega.{arith}
use lib.ListN.{length, replicate}
use Rattle.digits.specs.Decimal.{integer_of}
use Rattle.mps.specs.Program.{Kind, free, equal, at_most, at_least, Row, Entry, Column, RowName, Program}
use Rattle.lists.specs.Bytes.{bytes, same}
use Rattle.mps.specs.Mps.{Bytes, each, trimmed, field, row_in, card_in, columns_in, opened, well_named, read_mps}
use Rattle.mps.specs.Text.{row_name, edge_name, letter, filled, row_line, entry_line, column_lines, lines_in, text_of}
use Rattle.mps.specs.Claim.{named_row, named_entry, named}
use Rattle.mps.proofs.Names.{Dark, Name, row_named, edge_named, whole_dark}
use Rattle.mps.proofs.Cards.{row_back, card_back}
use Rattle.mps.proofs.Sections.{All, all_append, all_map, all_flat, every, Inner, lines_back, Data, cards_section, behind_section, each_map}
use Rattle.mps.proofs.Columns.{card_of, SmallEntry, SmallColumn, all_cards, one_column, Rising, columns_back}

-- ---- no line holds an LF, and each card begins with a blank

dark_inner : (s : Bytes) → Dark s → All Inner s
dark_inner [] d = tt
dark_inner (b ∷ s) d = (λ z. omega (arith, d.0), dark_inner s d.1)

blanks_inner : (k : ℕ) → All Inner (replicate k 32)
blanks_inner zero = tt
blanks_inner (suc k) = (λ z. omega arith, blanks_inner k)

row_inner : (r : Row RowName) → All Inner (row_line r)
unfolding row_line
row_inner r = (λ z. omega arith, (kind r.kind, all_append Inner (32 ∷ 32 ∷ []) (row_name r.name) (blanks_inner 2) (dark_inner (row_name r.name) (row_named r.name).dark)))
  where
    kind : (k : Kind) → Inner (letter k)
    kind free = λ z. omega arith
    kind equal = λ z. omega arith
    kind at_most = λ z. omega arith
    kind at_least = λ z. omega arith

filled_inner : (s rest : Bytes) → Dark s → All Inner rest → All Inner (filled s rest)
unfolding filled
filled_inner s rest d h = all_append Inner (s ++ replicate (8 - length s) 32) (32 ∷ 32 ∷ rest) (all_append Inner s (replicate (8 - length s) 32) (dark_inner s d) (blanks_inner (8 - length s))) (all_append Inner (32 ∷ 32 ∷ []) rest (blanks_inner 2) h)

entry_inner : (name : Bytes) → Dark name → (x : Entry RowName) → All Inner (entry_line name x)
unfolding entry_line
entry_inner name d x =
    let rest : Bytes = filled (row_name x.row) (integer_of x.number) in
    all_append Inner (replicate 4 32) (filled name rest) (blanks_inner 4) (filled_inner name rest d (filled_inner (row_name x.row) (integer_of x.number) (row_named x.row).dark (dark_inner (integer_of x.number) (whole_dark x.number))))

column_inner : (c : Column ℕ RowName) → All (All Inner) (column_lines c)
unfolding column_lines
column_inner c = all_map (All Inner) (λ (x : Entry RowName). Unit {0}) (entry_line (edge_name c.name)) (λ x u. entry_inner (edge_name c.name) (edge_named c.name).dark x) c.entries (every c.entries)

row_data : (r : Row RowName) → Data (row_line r)
unfolding row_line
row_data r = refl

entry_data : (name : Bytes) (x : Entry RowName) → Data (entry_line name x)
unfolding entry_line
entry_data name x = refl

column_data : (c : Column ℕ RowName) → All Data (column_lines c)
unfolding column_lines
column_data c = all_map Data (λ (x : Entry RowName). Unit {0}) (entry_line (edge_name c.name)) (λ x u. entry_data (edge_name c.name) x) c.entries (every c.entries)

-- ---- the text

-- a program that the text can hold: columns by edge number, below 10,000, each with a number; a right side; numbers of seven digits at
-- most; and names that the reader takes
pub record Writable (p : Program) : Type 0 where
  pub rising : Rising 0 p.columns
  pub small : All SmallColumn p.columns
  pub right : 0 < length p.right
  pub right_small : All SmallEntry p.right
  pub well_named_lem : well_named (named p) ≡ true

rhs_dark : Dark (bytes "RHS")
rhs_dark = omega arith

rhs_named : Name (bytes "RHS")
rhs_named = record { dark = rhs_dark; size = omega arith }

module _ (p : Program) (w : Writable p) where
  abbrev rows : List Bytes
  rows = map row_line p.rows

  abbrev columns : List Bytes
  columns = flat_map column_lines p.columns

  abbrev rights : List Bytes
  rights = map (entry_line (bytes "RHS")) p.right

  abbrev after_rhs : List Bytes
  after_rhs = rights ++ bytes "ENDATA" ∷ []

  abbrev after_columns : List Bytes
  after_columns = columns ++ bytes "RHS" ∷ after_rhs

  abbrev after_rows : List Bytes
  after_rows = rows ++ bytes "COLUMNS" ∷ after_columns

  lines_inner : All (All Inner) (bytes "NAME" ∷ bytes "ROWS" ∷ after_rows)
  lines_inner = (
    dark_inner (bytes "NAME") (omega arith),
    (
      dark_inner (bytes "ROWS") (omega arith),
      all_append (All Inner) rows (bytes "COLUMNS" ∷ after_columns) (all_map (All Inner) (λ (r : Row RowName). Unit {0}) row_line (λ r u. row_inner r) p.rows (every p.rows)) (
        dark_inner (bytes "COLUMNS") (omega arith),
        all_append (All Inner) columns (bytes "RHS" ∷ after_rhs) (all_flat (All Inner) (λ (c : Column ℕ RowName). Unit {0}) column_lines (λ c u. column_inner c) p.columns (every p.columns)) (
          dark_inner (bytes "RHS") (omega arith),
          all_append (All Inner) rights (bytes "ENDATA" ∷ []) (all_map (All Inner) (λ (x : Entry RowName). Unit {0}) (entry_line (bytes "RHS")) (λ x u. entry_inner (bytes "RHS") rhs_dark x) p.right (every p.right))
              (dark_inner (bytes "ENDATA") (omega arith), tt),
        ),
      ),
    ),
  )

  rows_data : All Data rows
  rows_data = all_map Data (λ (r : Row RowName). Unit {0}) row_line (λ r u. row_data r) p.rows (every p.rows)

  columns_data : All Data columns
  columns_data = all_flat Data (λ (c : Column ℕ RowName). Unit {0}) column_lines (λ c u. column_data c) p.columns (every p.columns)

  rights_data : All Data rights
  rights_data = all_map Data (λ (x : Entry RowName). Unit {0}) (entry_line (bytes "RHS")) (λ x u. entry_data (bytes "RHS") x) p.right (every p.right)

  rows_read : each row_in rows ≡ some (map named_row p.rows)
  rows_read = each_map row_in (λ (r : Row RowName). Unit {0}) row_line named_row (λ r u. row_back r) p.rows (every p.rows)

  rights_read : each card_in rights ≡ some (map (card_of (bytes "RHS")) p.right)
  rights_read = each_map card_in SmallEntry (entry_line (bytes "RHS")) (card_of (bytes "RHS")) (λ x h. card_back (bytes "RHS") x rhs_named h) p.right w.right_small

  one_right : columns_in (map (card_of (bytes "RHS")) p.right) ≡ record { name = bytes "RHS"; entries = map named_entry p.right } ∷ []
  unfolding columns_in
  one_right = go p.right w.right
    where
      go : (xs : List (Entry RowName)) → 0 < length xs → columns_in (map (card_of (bytes "RHS")) xs) ≡ record { name = bytes "RHS"; entries = map named_entry xs } ∷ []
      go [] h = absurd (omega arith)
      go (x ∷ xs) h = ap columns_in (sym (append-nil (map (card_of (bytes "RHS")) (x ∷ xs)))) ∙ one_column (bytes "RHS") x xs [] tt

  -- THEOREM: reading the text of a program gives that program.
  pub program_back : read_mps (text_of p) ≡ some (named p)
  unfolding read_mps text_of lines_in flatten named opened same field trimmed
  program_back =
      rw (
        lines_back (bytes "NAME" ∷ bytes "ROWS" ∷ after_rows) lines_inner,
        cards_section rows after_columns (bytes "COLUMNS") rows_data refl,
        rows_read,
        behind_section rows after_columns (bytes "COLUMNS") rows_data refl,
        cards_section columns after_rhs (bytes "RHS") columns_data refl,
        all_cards p.columns w.small,
        behind_section columns after_rhs (bytes "RHS") columns_data refl,
        cards_section rights [] (bytes "ENDATA") rights_data refl,
        rights_read,
        behind_section rights [] (bytes "ENDATA") rights_data refl,
        columns_back 0 p.columns w.rising,
        one_right,
        w.well_named_lem,
      )
