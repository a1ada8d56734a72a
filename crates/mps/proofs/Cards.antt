-- A line of the text, read as a card: the fields in their columns. Assumes nothing.
use mathlib.Core.Path.{◌≡◌, refl, sym, ◌∙◌, ap}
use mathlib.Core.Bool.{cond}
use mathlib.Core.List.{[], ◌∷◌, ◌++◌, append-nil}
use mathlib.Core.Option.{some}
use Prim.Native.Nat.{ℕ, zero, suc, ◌+◌, ◌-◌, ◌<◌, ◌≤◌}
use native.Mathlib.Omega.{arith}
use lib.Dec.{eqb}
use lib.ListN.{length, take, drop, replicate, length-append, length-replicate, drop_of_length-le}
use lib.Seq.{take_all, take_at, drop_at, drop-append-add}
use borrow.Author.Tests.{ne_eqb}
use Rattle.lists.specs.Bytes.{same}
use Rattle.digits.specs.Decimal.{integer_of}
use Rattle.mps.specs.Program.{Kind, free, equal, at_most, at_least, Row, Entry, RowName}
use Rattle.mps.specs.Mps.{Bytes, before, trimmed, field, in_fields, kind_in, row_in, card_in}
use Rattle.mps.specs.Text.{row_name, letter, filled, row_line, entry_line}
use Rattle.mps.specs.Claim.{named_row, named_entry}
use Rattle.mps.proofs.Names.{Dark, Name, row_named, Small, whole_dark, whole_size, number_back}

-- ---- blanks at the end

trimmed_blanks : (k : ℕ) → trimmed (replicate k 32) ≡ []
unfolding trimmed
trimmed_blanks zero = refl
trimmed_blanks (suc k) = rw (trimmed_blanks k)

kept : (b : ℕ) (s : Bytes) → 32 < b → before b s ≡ b ∷ s
kept b [] h = rw (ne_eqb b 32 (λ z. omega arith))
kept b (c ∷ s) h = refl

trimmed_name : (s : Bytes) (k : ℕ) → Dark s → trimmed (s ++ replicate k 32) ≡ s
unfolding trimmed
trimmed_name [] k d = trimmed_blanks k
trimmed_name (b ∷ s) k d = rw (trimmed_name s k d.1) (kept b s d.0)

trimmed_dark : (s : Bytes) → Dark s → trimmed s ≡ s
trimmed_dark s d = ap trimmed (sym (append-nil s)) ∙ trimmed_name s 0 d

-- ---- a name in its eight columns, and what follows

module _ (s rest : Bytes) (h : length s ≤ 8) where
  eight : length (s ++ replicate (8 - length s) 32) ≡ 8
  eight = rw (length-append, length-replicate) (omega arith)

  filled_take : take 8 (filled s rest) ≡ s ++ replicate (8 - length s) 32
  unfolding filled
  filled_take = take_at (s ++ replicate (8 - length s) 32) (32 ∷ 32 ∷ rest) 8 eight

  filled_gap : drop 8 (filled s rest) ≡ 32 ∷ 32 ∷ rest
  unfolding filled
  filled_gap = drop_at (s ++ replicate (8 - length s) 32) (32 ∷ 32 ∷ rest) 8 eight

  filled_drop : (k : ℕ) → drop (10 + k) (filled s rest) ≡ drop k rest
  unfolding filled
  filled_drop k =
      let e : 10 + k ≡ length (s ++ replicate (8 - length s) 32) + suc (suc k) = omega (arith, eight) in
      rw e (drop-append-add (s ++ replicate (8 - length s) 32) (32 ∷ 32 ∷ rest) (suc (suc k)))

-- ---- a card of COLUMNS or RHS

module _ (name : Bytes) (x : Entry RowName) (n : Name name) (h : Small x.number) where
  abbrev row : Bytes
  row = row_name x.row

  abbrev number : Bytes
  number = integer_of x.number

  abbrev second : Bytes
  second = filled row number

  at_14 : drop 14 (entry_line name x) ≡ second
  unfolding entry_line
  at_14 = filled_drop name second n.size 0

  at_22 : drop 22 (entry_line name x) ≡ 32 ∷ 32 ∷ number
  unfolding entry_line
  at_22 = filled_drop name second n.size 8 ∙ filled_gap row number (row_named x.row).size

  at_24 : drop 24 (entry_line name x) ≡ number
  unfolding entry_line
  at_24 = filled_drop name second n.size 10 ∙ filled_drop row number (row_named x.row).size 0

  at_36 : drop 36 (entry_line name x) ≡ []
  unfolding entry_line
  at_36 = filled_drop name second n.size 22 ∙ filled_drop row number (row_named x.row).size 12 ∙ drop_of_length-le number (whole_size x.number h)

  name_field : field 5 12 (entry_line name x) ≡ name
  unfolding entry_line field
  name_field = rw (filled_take name second n.size) (trimmed_name name (8 - length name) n.dark)

  row_field : field 15 22 (entry_line name x) ≡ row
  unfolding field
  row_field = rw (at_14, filled_take row number (row_named x.row).size) (trimmed_name row (8 - length row) (row_named x.row).dark)

  number_field : field 25 36 (entry_line name x) ≡ number
  unfolding field
  number_field = rw (at_24, take_all 12 number (whole_size x.number h)) (trimmed_dark number (whole_dark x.number))

  gap_1 : field 1 1 (entry_line name x) ≡ []
  unfolding entry_line field trimmed
  gap_1 = refl

  gap_2 : field 2 3 (entry_line name x) ≡ []
  unfolding entry_line field trimmed
  gap_2 = refl

  gap_4 : field 4 4 (entry_line name x) ≡ []
  unfolding entry_line field trimmed
  gap_4 = refl

  gap_13 : field 13 14 (entry_line name x) ≡ []
  unfolding entry_line field trimmed
  gap_13 = rw (filled_gap name second n.size)

  gap_23 : field 23 24 (entry_line name x) ≡ []
  unfolding field trimmed
  gap_23 = rw at_22

  pub card_back : card_in (entry_line name x) ≡ some (record { name = name; entry = named_entry x })
  unfolding card_in in_fields named_entry
  card_back = rw (gap_1, gap_4, gap_13, gap_23, at_36, gap_2, number_field, name_field, row_field, number_back x.number)

-- ---- a card of ROWS

kind_back : (k : Kind) → kind_in (letter k ∷ []) ≡ some k
unfolding kind_in same
kind_back free = refl
kind_back equal = refl
kind_back at_most = refl
kind_back at_least = refl

module _ (r : Row RowName) where
  abbrev title : Bytes
  title = row_name r.name

  type_field : field 2 3 (row_line r) ≡ letter r.kind ∷ []
  unfolding row_line field trimmed
  type_field = go r.kind
    where
      go : (k : Kind) → cond (eqb (letter k) 32) [] (letter k ∷ []) ≡ letter k ∷ []
      go free = refl
      go equal = refl
      go at_most = refl
      go at_least = refl

  title_field : field 5 12 (row_line r) ≡ title
  unfolding row_line field
  title_field = rw (take_all 8 title (row_named r.name).size) (trimmed_dark title (row_named r.name).dark)

  nothing_behind : (k : ℕ) → 12 ≤ k → drop k (row_line r) ≡ []
  unfolding row_line
  nothing_behind k h = drop_of_length-le (row_line r) {i = k} (omega (arith, (row_named r.name).size))

  blank_1 : field 1 1 (row_line r) ≡ []
  unfolding row_line field trimmed
  blank_1 = refl

  blank_4 : field 4 4 (row_line r) ≡ []
  unfolding row_line field trimmed
  blank_4 = refl

  blank_13 : field 13 14 (row_line r) ≡ []
  unfolding field trimmed
  blank_13 = rw (nothing_behind 12 (omega arith))

  blank_23 : field 23 24 (row_line r) ≡ []
  unfolding field trimmed
  blank_23 = rw (nothing_behind 22 (omega arith))

  pub row_back : row_in (row_line r) ≡ some (named_row r)
  unfolding row_in in_fields named_row
  row_back = rw (blank_1, blank_4, blank_13, blank_23, nothing_behind 36 (omega arith), nothing_behind 12 (omega arith), type_field, title_field, kind_back r.kind)
