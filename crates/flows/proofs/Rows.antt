-- The program's rows. A row's number in a column, and on the right side, is the one that the definition gives it; so a flow's value in a row is a
-- sum over edges (`row_value_lem`), and a flow is a solution exactly where it meets each row (`solution_each`, `each_solution`). Assumes nothing.
use mathlib.Core.Path.{◌≡◌, refl, sym, ◌∙◌, ap, ap₂}
use mathlib.Core.Bool.{Bool, true, false, not, true≢false}
use mathlib.Core.List.{List, [], ◌∷◌, map}
use Prim.Native.Nat.{ℕ, zero, suc, ◌-◌, ◌*◌, ◌<◌}
use native.Mathlib.Omega.{arith}
use lib.Dec.{eqb}
use lib.IntN.{ℤ, pos, negsuc, ◌+ℤ◌, ◌*ℤ◌, +ℤ_idl, +ℤ_idr}
use borrow.Author.Tests.{eqb-true, eqb-false, eq-eqb, ne_eqb}
use Rattle.lists.specs.Search.{when◌then◌else◌}
use Rattle.wcet.specs.Table.{Routine, block_count, loop_count, exit, missing, edge}
use Rattle.mps.specs.Program.{Row, Entry, RowName, objective, block, loop, kind_of, numbers_from, keep, rows_of, source, target, edges_of, number, right_side, is_zero}
use Rattle.mps.specs.Program.{entries_of, column_of, program_of}
use Rattle.flows.specs.Flow.{number_at, row_value, Meets, Solution, same_row, SolutionOf}
use Rattle.mps.proofs.Sections.{All, all_append}
use Rattle.mps.proofs.Routines.{between_all, kept_all, edge_there}
use Rattle.flows.proofs.Totals.{total, total_append, total_map, total_none, total_one}

-- a sum over the rows: the objective, the blocks, and the loops from 1 up
pub total_rows : (t : Routine) (f : RowName → ℤ)
    → total f (rows_of t) ≡ f objective +ℤ (total (λ b. f (block b)) (numbers_from 0 (block_count t)) +ℤ total (λ l. f (loop l)) (numbers_from 1 (loop_count t - 1)))
unfolding rows_of total
total_rows t f =
    ap (λ (z : ℤ). f objective +ℤ z) (total_append f (map block (numbers_from 0 (block_count t))) (map loop (numbers_from 1 (loop_count t - 1)))
    ∙ ap₂ ◌+ℤ◌ (total_map f block (numbers_from 0 (block_count t))) (total_map f loop (numbers_from 1 (loop_count t - 1))))

-- a row of the program
abbrev pub RowOf : Routine → RowName → Type 0
RowOf t objective = Unit {0}
RowOf t (block b) = b < block_count t
RowOf t (loop l) = (0 < l) × (l < loop_count t)

pub rows_all : (t : Routine) → All (RowOf t) (rows_of t)
unfolding rows_of
rows_all t = (
  tt,
  all_append (RowOf t) (map block (numbers_from 0 (block_count t))) (map loop (numbers_from 1 (loop_count t - 1)))
      (between_all (RowOf t) block (block_count t) 0 (λ i c l. omega arith)) (between_all (RowOf t) loop (loop_count t - 1) 1 (λ i c l. (omega arith, omega arith))),
)

-- ---- the number of a row

is_zero_lem : (z : ℤ) → is_zero z ≡ true → z ≡ pos 0
is_zero_lem (pos zero) e = refl
is_zero_lem (pos (suc n)) e = absurd (true≢false (sym e))
is_zero_lem (negsuc n) e = absurd (true≢false (sym e))

-- f's number in row s, as row r sees it
abbrev seen : (RowName → ℤ) → RowName → RowName → ℤ
seen f r s = when same_row s r then f s else pos 0

number_total : (f : RowName → ℤ) (r : RowName) (rows : List RowName) → number_at same_row r (entries_of f rows) ≡ total (seen f r) rows
unfolding entries_of keep number_at total
number_total f r [] = refl
number_total f r (s ∷ rows) = first (is_zero (f s)) refl ∙ ap (λ (z : ℤ). seen f r s +ℤ z) (number_total f r rows)
  where
    here : Entry RowName
    here = record { row = s; number = f s }

    rest : List (Entry RowName)
    rest = entries_of f rows

    none : (b : Bool) → number_at same_row r rest ≡ (when b then pos 0 else pos 0) +ℤ number_at same_row r rest
    none true = sym (+ℤ_idl (number_at same_row r rest))
    none false = sym (+ℤ_idl (number_at same_row r rest))

    some : (b : Bool) → (when b then f s +ℤ number_at same_row r rest else number_at same_row r rest) ≡ (when b then f s else pos 0) +ℤ number_at same_row r rest
    some true = refl
    some false = sym (+ℤ_idl (number_at same_row r rest))

    first : (z : Bool) → is_zero (f s) ≡ z → number_at same_row r (when not z then here ∷ rest else rest) ≡ seen f r s +ℤ number_at same_row r rest
    first true e = rw (is_zero_lem (f s) e) (none (same_row s r))
    first false e = some (same_row s r)

-- a row stands once among the rows
number_at_lem : (t : Routine) (f : RowName → ℤ) (r : RowName) → RowOf t r → number_at same_row r (entries_of f (rows_of t)) ≡ f r
number_at_lem t f r h = number_total f r (rows_of t) ∙ total_rows t (seen f r) ∙ go r h
  where
    n : ℕ
    n = block_count t

    m : ℕ
    m = loop_count t - 1

    go : (r : RowName) → RowOf t r → seen f r objective +ℤ (total (λ b. seen f r (block b)) (numbers_from 0 n) +ℤ total (λ l. seen f r (loop l)) (numbers_from 1 m)) ≡ f r
    go objective h = rw (total_none (λ b. pos 0) n 0 (λ i p q. refl), total_none (λ l. pos 0) m 1 (λ i p q. refl)) (+ℤ_idr (f objective))
    go (block b) h =
        rw (
          total_one (λ i. f (block i)) (λ i. eqb i b) b n 0 (omega arith) (omega arith) (eq-eqb b b refl) (λ i ne. ne_eqb i b ne),
          total_none (λ l. pos 0) m 1 (λ i p q. refl),
          +ℤ_idr (f (block b)),
        )
        (+ℤ_idl (f (block b)))
    go (loop l) h =
        rw (
          total_none (λ b. pos 0) n 0 (λ i p q. refl),
          total_one (λ i. f (loop i)) (λ i. eqb i l) l m 1 h.0 (omega (arith, h.1)) (eq-eqb l l refl) (λ i ne. ne_eqb i l ne),
          +ℤ_idl (f (loop l)),
        )
        (+ℤ_idl (f (loop l)))

-- ---- a column and a row

-- an edge of the program
pub record EdgeOf (t : Routine) (e : ℕ) : Type 0 where
  pub from : source e < block_count t
  pub there : edge t (source e) (target t e) ≡ true

pub edges_all : (t : Routine) → All (EdgeOf t) (edges_of t)
unfolding edges_of
edges_all t = kept_all (EdgeOf t) (λ e. not (eqb (target t e) missing)) (2 * block_count t) 0 (λ e l h. record { from = omega arith; there = edge_there t e h })

-- the number in row r of an edge from u to v, and of edge e
abbrev pub in_row : Routine → RowName → (u v : ℕ) → ℤ
in_row t r u v = number t u v r

abbrev pub edge_number : Routine → RowName → ℕ → ℤ
edge_number t r e = in_row t r (source e) (target t e)

columns_value : (t : Routine) (x : ℕ → ℕ) (r : RowName) → RowOf t r → (es : List ℕ) → row_value same_row (map (column_of t) es) x r ≡ total (λ e. pos (x e) *ℤ edge_number t r e) es
unfolding row_value total column_of
columns_value t x r h [] = refl
columns_value t x r h (e ∷ es) = ap₂ (λ (a b : ℤ). pos (x e) *ℤ a +ℤ b) (number_at_lem t (number t (source e) (target t e)) r h) (columns_value t x r h es)

pub row_value_lem : (t : Routine) (x : ℕ → ℕ) (r : RowName) → RowOf t r
    → row_value same_row (program_of t).columns x r ≡ total (λ e. pos (x e) *ℤ edge_number t r e) (edges_of t)
unfolding program_of
row_value_lem t x r h = columns_value t x r h (edges_of t)

right_value : (t : Routine) (r : RowName) → RowOf t r → number_at same_row r (program_of t).right ≡ right_side t r
unfolding program_of
right_value t r h = number_at_lem t (right_side t) r h

eqb_sym : (a b : ℕ) → eqb a b ≡ eqb b a
eqb_sym a b = go (eqb a b) refl
  where
    go : (c : Bool) → eqb a b ≡ c → c ≡ eqb b a
    go true e = sym (eq-eqb b a (sym (eqb-true a b e)))
    go false e = sym (ne_eqb b a (λ q. eqb-false a b e (sym q)))

-- a block's right side is its number in an edge from the entry to the exit
pub right_block : (t : Routine) (b : ℕ) → right_side t (block b) ≡ number t 0 (exit t) (block b)
unfolding right_side number
right_block t b = rw (eqb_sym b 0, eqb_sym b (exit t))

-- ---- all rows are met exactly where each is

-- what the row says of a flow, times q
abbrev pub Met : Routine → ℕ → (ℕ → ℕ) → RowName → Type 0
Met t q x r = Meets (kind_of r) (row_value same_row (program_of t).columns x r) (pos q *ℤ right_side t r)

abbrev row_of : RowName → Row RowName
row_of r = record { kind = kind_of r; name = r }

met_each : (t : Routine) (q : ℕ) (x : ℕ → ℕ) (rows : List RowName) → All (RowOf t) rows → Solution same_row (map row_of rows) (program_of t).columns (program_of t).right q x
    → All (λ r. RowOf t r × Met t q x r) rows
unfolding Solution
met_each t q x [] a m = tt
met_each t q x (r ∷ rows) a m = ((a.0, rw (right_value t r a.0) at m.0), met_each t q x rows a.1 m.1)

each_met : (t : Routine) (q : ℕ) (x : ℕ → ℕ) → ((r : RowName) → RowOf t r → Met t q x r) → (rows : List RowName) → All (RowOf t) rows
    → Solution same_row (map row_of rows) (program_of t).columns (program_of t).right q x
unfolding Solution
each_met t q x h [] a = tt
each_met t q x h (r ∷ rows) a = (rw (right_value t r a.0) (h r a.0), each_met t q x h rows a.1)

pub solution_each : (t : Routine) (q : ℕ) (x : ℕ → ℕ) → SolutionOf t q x → All (λ r. RowOf t r × Met t q x r) (rows_of t)
unfolding program_of
solution_each t q x h = met_each t q x (rows_of t) (rows_all t) h

pub each_solution : (t : Routine) (q : ℕ) (x : ℕ → ℕ) → ((r : RowName) → RowOf t r → Met t q x r) → SolutionOf t q x
unfolding program_of
each_solution t q x h = each_met t q x h (rows_of t) (rows_all t)
