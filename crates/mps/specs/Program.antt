-- Document 02, §5: "the path-counting program itself", as data: its rows, its columns with their numbers, and its right side.
use Rattle.std.specs.Prelude.{ℕ, zero, suc, ◌-◌, ◌*◌, ◌/◌, ◌%◌, Bool, true, false, not, List, [], ◌∷◌, ◌++◌, map, eqb, ℤ, pos, negsuc, neg_ℤ, ◌-ℤ◌}
use Rattle.lists.specs.Search.{when◌then◌else◌}
use Rattle.wcet.specs.Table.{Routine, block_count, loop_count, exit, missing, cost, first, second, header, limit, inside}

-- ---- a linear program, over the names R of its rows and C of its columns

-- what a row says of the sum over its columns: nothing (the objective), or that it equals, or is at most, or at least, the right side
pub data Kind : Type 0 where
  free : Kind
  equal : Kind
  at_most : Kind
  at_least : Kind

pub record Row (R : Type 0) : Type 0 where
  pub kind : Kind
  pub name : R

-- a number in the row of that name
pub record Entry (R : Type 0) : Type 0 where
  pub row : R
  pub number : ℤ

-- a column, or a right side: its numbers
pub record Column (C R : Type 0) : Type 0 where
  pub name : C
  pub entries : List (Entry R)

-- ---- the program of a routine

-- "Rows: COST ..; one E row per block ..; one L row per loop from 1 up"
pub data RowName : Type 0 where
  objective : RowName
  block : ℕ → RowName
  loop : ℕ → RowName

-- "COST of type N; one E row per block ..; one L row per loop"
abbrev pub kind_of : RowName → Kind
kind_of objective = free
kind_of (block u) = equal
kind_of (loop l) = at_most

-- A column is named by its edge's number.
pub record Program : Type 0 where
  pub rows : List (Row RowName)
  pub columns : List (Column ℕ RowName)
  pub right : List (Entry RowName)

-- the k numbers from a up
unfoldable pub numbers_from : ℕ → ℕ → List ℕ
numbers_from a zero = []
numbers_from a (suc k) = a ∷ numbers_from (suc a) k

-- those of a list that pass a test
unfoldable pub keep : {A : Type 0} → (A → Bool) → List A → List A
keep p [] = []
keep p (x ∷ xs) = when p x then x ∷ keep p xs else keep p xs

-- "Rows go COST, blocks, loops, by number", "one L row per loop from 1 up"
unfoldable pub rows_of : Routine → List RowName
rows_of t = objective ∷ map block (numbers_from 0 (block_count t)) ++ map loop (numbers_from 1 (loop_count t - 1))

-- "edges .. by twice the source block plus 0 for its first successor or 1 for its second"
abbrev pub source : ℕ → ℕ
source e = e / 2

abbrev pub target : Routine → ℕ → ℕ
target t e = when eqb (e % 2) 0 then first t (source e) else second t (source e)

-- "One column per edge, a doubled edge twice", "columns go by edge number"
unfoldable pub edges_of : Routine → List ℕ
edges_of t = keep (λ e. not (eqb (target t e) missing)) (numbers_from 0 (2 * block_count t))

abbrev pub one : Bool → ℤ
one b = when b then pos 1 else pos 0

-- the number of an edge from u to v in a row.
-- "MPS minimises, so an edge's COST is its target's cost negated";
-- "one E row per block, outgoing less incoming edges";
-- "one L row per loop .., with coefficient 1 for edges from inside to the header and 1 − limit for edges from outside"
unfoldable pub number : Routine → (u v : ℕ) → RowName → ℤ
number t u v objective = neg_ℤ (pos (cost t v))
number t u v (block b) = one (eqb u b) -ℤ one (eqb v b)
number t u v (loop l) =
    when not (eqb (header t l) v) then pos 0 else
    when inside t u l then pos 1 else pos 1 -ℤ pos (limit t l)

-- "right side 1 for block 0 and −1 for the exit"; of a loop's row "right side 0"; "the entry's own cost is left out": a right side of the
-- objective would be a constant of it
unfoldable pub right_side : Routine → RowName → ℤ
right_side t objective = pos 0
right_side t (block b) = one (eqb b 0) -ℤ one (eqb b (exit t))
right_side t (loop l) = pos 0

abbrev pub is_zero : ℤ → Bool
is_zero (pos zero) = true
is_zero (pos (suc n)) = false
is_zero (negsuc n) = false

-- "Only numbers other than 0 .. in row order": those that f gives the rows
unfoldable pub entries_of : (RowName → ℤ) → List RowName → List (Entry RowName)
entries_of f rows = keep (λ x. not (is_zero x.number)) (map (λ r. record { row = r; number = f r }) rows)

unfoldable pub column_of : Routine → ℕ → Column ℕ RowName
column_of t e = record { name = e; entries = entries_of (number t (source e) (target t e)) (rows_of t) }

unfoldable pub program_of : Routine → Program
program_of t = record {
  rows = map (λ r. record { kind = kind_of r; name = r }) (rows_of t);
  columns = map (column_of t) (edges_of t);
  right = entries_of (right_side t) (rows_of t);
}
