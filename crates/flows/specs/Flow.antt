-- What the program means: its solutions, the value of its objective, and the flow of a run. The inequalities of 208 are the constraints of the
-- program's dual: the figures are the dual variables of the E rows, the multipliers those of the L rows.
use Rattle.std.specs.Prelude.{ℕ, ◌+◌, ◌*◌, ◌≡◌, ◌↔◌, Bool, true, false, not, ◌&&◌, List, [], ◌∷◌, eqb, ℤ, pos, ◌+ℤ◌, ◌-ℤ◌, ◌*ℤ◌, ◌≤ℤ◌}
use Rattle.std.proofs.Math.Option.{some}
use Rattle.lists.specs.Bytes.{same}
use Rattle.lists.specs.Search.{when◌then◌else◌}
use Rattle.wcet.specs.Table.{Routine, missing, cost, first}
use Rattle.wcet.specs.Rules.{accepted, structure_rules, table_reply}
use Rattle.wcet.specs.Run.{run_cost}
use Rattle.wcet.specs.Claim.{AllHold, FinishedRun}
use Rattle.optimum.specs.Replies.{solve_reply}
use Rattle.mps.specs.Program.{Kind, free, equal, at_most, at_least, Row, Entry, Column, RowName, objective, block, loop, program_of}
use Rattle.mps.specs.Mps.{Bytes, Mps, read_mps}
use Rattle.mps.specs.Text.{edge_name, mps_text}
use Rattle.mps.specs.Claim.{named}

-- ---- the solutions of a linear program, over the names R of its rows and C of its columns, by a test of row names

-- the number that entries give row r: 0 where they have none, and the sum where they have several
unfoldable pub number_at : {R : Type 0} → (R → R → Bool) → R → List (Entry R) → ℤ
number_at test r [] = pos 0
number_at test r (x ∷ xs) = when test x.row r then x.number +ℤ number_at test r xs else number_at test r xs

-- A point x has a number for each column. Without BOUNDS a column's value is 0 or more, with no upper bound; x holds it times some q, so as natural
-- numbers. What x makes of row r: each column's number there times the column's, added up.
unfoldable pub row_value : {C R : Type 0} → (R → R → Bool) → List (Column C R) → (C → ℕ) → R → ℤ
row_value test [] x r = pos 0
row_value test (c ∷ cs) x r = pos (x c.name) *ℤ number_at test r c.entries +ℤ row_value test cs x r

-- what the row's type says of its value and its right side
abbrev pub Meets : Kind → ℤ → ℤ → Type 0
Meets free value right = Unit {0}
Meets equal value right = value ≡ right
Meets at_most value right = value ≤ℤ right
Meets at_least value right = right ≤ℤ value

-- x divided by q is a (feasible) solution: x meets every row with its right side times q. Each rational solution is one of these; the data are
-- whole, so real ones do no better, which is not stated here. For q = 0, x is a ray: a direction in which solutions can go on.
unfoldable pub Solution : {C R : Type 0} → (R → R → Bool) → List (Row R) → List (Column C R) → List (Entry R) → ℕ → (C → ℕ) → Type 0
Solution test [] columns right q x = Unit {0}
Solution test (r ∷ rows) columns right q x =
    Meets r.kind (row_value test columns x r.name) (pos q *ℤ number_at test r.name right) × Solution test rows columns right q x

-- ---- of a routine's program

-- whether two names are of one row
abbrev pub same_row : RowName → RowName → Bool
same_row objective objective = true
same_row objective (block v) = false
same_row objective (loop l) = false
same_row (block u) objective = false
same_row (block u) (block v) = eqb u v
same_row (block u) (loop l) = false
same_row (loop k) objective = false
same_row (loop k) (block v) = false
same_row (loop k) (loop l) = eqb k l

-- x divided by q is a solution of t's program
abbrev pub SolutionOf : Routine → ℕ → (ℕ → ℕ) → Type 0
SolutionOf t q x = Solution same_row (program_of t).rows (program_of t).columns (program_of t).right q x

-- what x makes of the objective's row
abbrev pub objective_of : Routine → (ℕ → ℕ) → ℤ
objective_of t x = row_value same_row (program_of t).columns x objective

-- the cost of a flow: MPS minimises, so this is its objective negated, and q times the entry's cost, which is left out of the program
unfoldable pub flow_cost : Routine → ℕ → (ℕ → ℕ) → ℤ
flow_cost t q x = pos (q * cost t 0) -ℤ objective_of t x

-- ---- of what a text in MPS was read as, where a name is its bytes

abbrev pub if_free : Kind → Bytes → Bytes → Bytes
if_free free name other = name
if_free equal name other = other
if_free at_most name other = other
if_free at_least name other = other

-- the numbers of the first right side, or none
abbrev pub first_right : List (Column Bytes Bytes) → List (Entry Bytes)
first_right [] = []
first_right (c ∷ cs) = c.entries

-- x divided by q is a solution of the program that was read
abbrev pub MpsSolution : Mps → ℕ → (Bytes → ℕ) → Type 0
MpsSolution m q x = Solution same m.rows m.columns (first_right m.rights) q x

-- the name of the first row of type N, which is the objective; where there is none, no name
abbrev pub first_free : List (Row Bytes) → Bytes
first_free [] = []
first_free (r ∷ rows) = if_free r.kind r.name (first_free rows)

-- what x makes of it: the number that a solver minimises
abbrev pub mps_objective : Mps → (Bytes → ℕ) → ℤ
mps_objective m x = row_value same m.columns x (first_free m.rows)

-- ---- the flow of a run

-- the number of the edge that a step from u to v takes: the first successor, where it is v. So a run over a doubled edge is booked on the
-- first column.
abbrev pub edge_taken : Routine → ℕ → ℕ → ℕ
edge_taken t u v = when not (eqb (first t u) missing) && eqb (first t u) v then 2 * u else 2 * u + 1

-- how often the blocks of w after block u take edge e
unfoldable pub taken : Routine → ℕ → List ℕ → ℕ → ℕ
taken t u [] e = 0
taken t u (v ∷ w) e = (when eqb (edge_taken t u v) e then 1 else 0) + taken t v w e

-- the flow of a run: how often it takes edge e
unfoldable pub flow_of : Routine → List ℕ → ℕ → ℕ
flow_of t [] e = 0
flow_of t (u ∷ w) e = taken t u w e

-- ---- what is claimed, and proved in proofs/

-- No solution costs more than b. For q = 0: a direction in which solutions can go on costs nothing.
abbrev pub NoneOver : Routine → ℤ → Type 0
NoneOver t b = (q : ℕ) (x : ℕ → ℕ) → SolutionOf t q x → flow_cost t q x ≤ℤ (pos q *ℤ b)

-- Weak duality: no solution costs more than an accepted bound, whoever proposed the figures and multipliers.
abbrev pub WeakDuality : Routine → Type 0
WeakDuality t = (b : ℤ) → table_reply t ≡ accepted b → NoneOver t b

-- Every finished counted run is a solution, at its own cost.
pub record RunIsFlow (t : Routine) (w : List ℕ) : Type 0 where
  pub solution : SolutionOf t 1 (flow_of t w)
  pub costs : flow_cost t 1 (flow_of t w) ≡ pos (run_cost t w)

abbrev pub RunsAreFlows : Routine → Type 0
RunsAreFlows t = AllHold (structure_rules t) → (w : List ℕ) → FinishedRun t w → RunIsFlow t w

-- The program under its names has the program's solutions, under the names of the edges, and the value of their objective: so what a solver
-- reports for the objective, for q = 1, is the entry's cost less `flow_cost`.
pub record SameSolutions (t : Routine) : Type 0 where
  pub solutions : (q : ℕ) (x : Bytes → ℕ) → MpsSolution (named (program_of t)) q x ↔ SolutionOf t q (λ e. x (edge_name e))
  pub objectives : (x : Bytes → ℕ) → mps_objective (named (program_of t)) x ≡ objective_of t (λ e. x (edge_name e))

abbrev pub ReadSolutions : Routine → Type 0
ReadSolutions t = AllHold (structure_rules t) → SameSolutions t

-- b as the optimum of a program that was read, where the entry costs c: no solution has an objective below c - b, and one has just that.
pub record ReadOptimum (m : Mps) (c : ℕ) (b : ℤ) : Type 0 where
  pub most : (q : ℕ) (x : Bytes → ℕ) → MpsSolution m q x → (pos (q * c) -ℤ mps_objective m x) ≤ℤ (pos q *ℤ b)
  pub attained : (x : Bytes → ℕ) × MpsSolution m 1 x × (pos c -ℤ mps_objective m x ≡ b)

-- The solver's bound is the optimum of the program: no solution costs more, and a finished counted run is one that costs it. The text is read,
-- and the bound is the optimum of what it is read as.
pub record ProgramOptimum (t : Routine) (b : ℤ) : Type 0 where
  pub most : NoneOver t b
  pub attained : (w : List ℕ) × FinishedRun t w × RunIsFlow t w × (pos (run_cost t w) ≡ b)
  pub read : (m : Mps) × (read_mps (mps_text t) ≡ some m) × ReadOptimum m (cost t 0) b

abbrev pub SolvesProgram : Routine → Type 0
SolvesProgram t = (b : ℤ) → solve_reply t ≡ accepted b → ProgramOptimum t b
