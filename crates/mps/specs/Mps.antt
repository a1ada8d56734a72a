-- Fixed MPS, the layout published by IBM: how a text is read as a linear program. A line is a card; its columns count from 1.
--   columns 2 and 3     the type of a row
--   columns 5 to 12     the name of a row, a column or a right side
--   columns 15 to 22    the name of a row
--   columns 25 to 36    a number
-- A card with a word from column 1 on opens a section: NAME, ROWS, COLUMNS, RHS, ENDATA. This reader takes less than others do: one number a
-- card, whole and left-justified; types in column 2; no comment, no blank after a section's word but NAME, and none of the sections that may be
-- left out (RANGES, BOUNDS). It refuses names that are empty or not different, and a number in a row that no card of ROWS names (`well_named`). A
-- blank before a name is a byte of it.
-- It knows nothing of blocks, loops and edges: a name is its bytes.
use Rattle.std.specs.Prelude.{ℕ, ◌+◌, ◌-◌, Bool, true, false, cond, not, ◌&&◌, ◌||◌, List, [], ◌∷◌, ◌++◌, map, eqb, ℤ, pos, neg_ℤ, take, drop}
use Prim.Native.String.{String}
use Rattle.std.proofs.Math.Option.{Option, none, some}
use Rattle.lists.specs.Bytes.{bytes, same}
use Rattle.digits.specs.Decimal.{digits, decimal}
use Rattle.mps.specs.Program.{Kind, free, equal, at_most, at_least, Row, Entry, Column}

abbrev pub Bytes : Type 0
Bytes = List ℕ

-- what a text says: the name of the program, its rows, its columns and its right sides
pub record Mps : Type 0 where
  pub title : Bytes
  pub rows : List (Row Bytes)
  pub columns : List (Column Bytes Bytes)
  pub rights : List (Column Bytes Bytes)

-- what f makes of what was read, and nothing where nothing was
infixl 1 ◌>>=◌
abbrev pub ◌>>=◌ : {A B : Type 0} → Option A → (A → Option B) → Option B
none >>= f = none
some a >>= f = f a

-- nothing, where the test fails
abbrev pub provided : {A : Type 0} → Bool → Option A → Option A
provided true o = o
provided false o = none

-- what f makes of each element, where it makes something of all
unfoldable pub each : {A B : Type 0} → (A → Option B) → List A → Option (List B)
each f [] = some []
each f (x ∷ xs) = f x >>= λ y. each f xs >>= λ ys. some (y ∷ ys)

-- ---- lines and their columns

-- a byte in front of the first line
abbrev pub onto : ℕ → List Bytes → List Bytes
onto b [] = (b ∷ []) ∷ []
onto b (l ∷ ls) = (b ∷ l) ∷ ls

-- the lines, each up to its LF; the last may lack it
unfoldable pub lines_of : Bytes → List Bytes
lines_of [] = []
lines_of (b ∷ s) = cond (eqb b 10) ([] ∷ lines_of s) (onto b (lines_of s))

-- a byte in front, unless it is a blank and nothing follows
abbrev pub before : ℕ → Bytes → Bytes
before b [] = cond (eqb b 32) [] (b ∷ [])
before b (c ∷ s) = b ∷ c ∷ s

-- without the blanks at the end
unfoldable pub trimmed : Bytes → Bytes
trimmed [] = []
trimmed (b ∷ s) = before b (trimmed s)

-- what stands in the columns a to b
unfoldable pub field : (a b : ℕ) → Bytes → Bytes
field a b line = trimmed (take (b + 1 - a) (drop (a - 1) line))

abbrev pub is_empty : Bytes → Bool
is_empty [] = true
is_empty (b ∷ s) = false

-- ---- cards

-- only the four fields are filled
unfoldable pub in_fields : Bytes → Bool
in_fields l = is_empty (field 1 1 l) && is_empty (field 4 4 l) && is_empty (field 13 14 l) && is_empty (field 23 24 l) && is_empty (drop 36 l)

-- N: no constraint, E: equal to, L: less than or equal to, G: greater than or equal to
unfoldable pub kind_in : Bytes → Option Kind
kind_in s =
    cond (same s (bytes "N")) (some free)
    (cond (same s (bytes "E")) (some equal)
    (cond (same s (bytes "L")) (some at_most)
    (cond (same s (bytes "G")) (some at_least) none)))

-- a whole number
abbrev pub natural_in : Bytes → Option ℕ
natural_in [] = none
natural_in (b ∷ s) = provided (digits (b ∷ s)) (some (decimal 0 (b ∷ s)))

-- the same with a minus sign or without one
unfoldable pub number_in : Bytes → Option ℤ
number_in [] = none
number_in (b ∷ s) = cond (eqb b 45) (natural_in s >>= λ n. some (neg_ℤ (pos n))) (natural_in (b ∷ s) >>= λ n. some (pos n))

-- a card of the section ROWS: a type and a name
unfoldable pub row_in : Bytes → Option (Row Bytes)
row_in l = provided (in_fields l && is_empty (drop 12 l)) (kind_in (field 2 3 l) >>= λ k. some (record { kind = k; name = field 5 12 l }))

-- a card of COLUMNS or RHS: a name, and a number in a row
pub record Card : Type 0 where
  pub name : Bytes
  pub entry : Entry Bytes

unfoldable pub card_in : Bytes → Option Card
card_in l =
    provided (in_fields l && is_empty (field 2 3 l))
    (number_in (field 25 36 l) >>= λ x. some (record { name = field 5 12 l; entry = record { row = field 15 22 l; number = x } }))

-- cards of one name that follow each other are one column
abbrev pub joined : Card → List (Column Bytes Bytes) → List (Column Bytes Bytes)
joined c [] = record { name = c.name; entries = c.entry ∷ [] } ∷ []
joined c (k ∷ ks) = cond (same c.name k.name)
    (record { name = c.name; entries = c.entry ∷ k.entries } ∷ ks)
    (record { name = c.name; entries = c.entry ∷ [] } ∷ k ∷ ks)

unfoldable pub columns_in : List Card → List (Column Bytes Bytes)
columns_in [] = []
columns_in (c ∷ cs) = joined c (columns_in cs)

-- ---- names

-- each element passes the test
unfoldable pub all : {A : Type 0} → (A → Bool) → List A → Bool
all p [] = true
all p (x ∷ xs) = p x && all p xs

-- the name is one of these
unfoldable pub among : Bytes → List Bytes → Bool
among s [] = false
among s (t ∷ names) = same s t || among s names

-- the names are different, and none is empty
unfoldable pub distinct : List Bytes → Bool
distinct [] = true
distinct (s ∷ names) = not (is_empty s) && not (among s names) && distinct names

-- the numbers of a column or a right side stand in different rows, each one of these
unfoldable pub in_rows : List Bytes → Column Bytes Bytes → Bool
in_rows rows c = distinct (map (λ x. x.row) c.entries) && all (λ x. among x.row rows) c.entries

-- rows have different names, columns too, and right sides too; and numbers stand in the program's rows
unfoldable pub well_named : Mps → Bool
well_named m =
    distinct (map (λ r. r.name) m.rows)
    && distinct (map (λ c. c.name) m.columns)
    && distinct (map (λ c. c.name) m.rights)
    && all (in_rows (map (λ r. r.name) m.rows)) (m.columns ++ m.rights)

-- ---- sections

-- a card that opens no section has a blank in column 1
abbrev pub is_data : Bytes → Bool
is_data [] = false
is_data (b ∷ l) = eqb b 32

-- the cards of a section, and the lines after them
unfoldable pub cards : List Bytes → List Bytes
cards [] = []
cards (l ∷ ls) = cond (is_data l) (l ∷ cards ls) []

unfoldable pub behind : List Bytes → List Bytes
behind [] = []
behind (l ∷ ls) = cond (is_data l) (behind ls) (l ∷ ls)

-- the lines after the card that opens a section
unfoldable pub opened : String → List Bytes → Option (List Bytes)
opened word [] = none
opened word (l ∷ ls) = provided (same l (bytes word)) (some ls)

-- the name of the program, in columns 15 to 22 of the card NAME, which is the first
abbrev pub title_in : List Bytes → Option Bytes
title_in [] = none
title_in (l ∷ ls) = provided (same (field 1 14 l) (bytes "NAME") && is_empty (drop 22 l)) (some (field 15 22 l))

-- no line is left
abbrev pub ended : List Bytes → Bool
ended [] = true
ended (l ∷ ls) = false

-- the program that a text says: the five sections in this order and nothing after them, with names as they must be
unfoldable pub read_mps : Bytes → Option Mps
read_mps text =
    title_in (lines_of text) >>= λ title.
    opened "ROWS" (drop 1 (lines_of text)) >>= λ ls₁.
    each row_in (cards ls₁) >>= λ rows.
    opened "COLUMNS" (behind ls₁) >>= λ ls₂.
    each card_in (cards ls₂) >>= λ columns.
    opened "RHS" (behind ls₂) >>= λ ls₃.
    each card_in (cards ls₃) >>= λ rights.
    opened "ENDATA" (behind ls₃) >>= λ ls₄.
    let m : Mps = record { title = title; rows = rows; columns = columns_in columns; rights = columns_in rights } in
    provided (ended ls₄ && well_named m) (some m)
