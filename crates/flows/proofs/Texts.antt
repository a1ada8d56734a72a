-- The program under its names has the program's solutions and the value of their objective (`read_solutions`): different rows have different names.
-- Assumes nothing.
use mathlib.Core.Path.{◌≡◌, refl, sym, ◌∙◌, ap}
use mathlib.Core.Logic.{◌↔◌, inl}
use mathlib.Core.Bool.{Bool, true, false, not, false≢true}
use mathlib.Core.List.{List, [], ◌∷◌, map}
use Prim.Native.Nat.{ℕ, ◌*◌}
use native.Mathlib.Omega.{arith}
use lib.Dec.{eqb}
use lib.IntN.{ℤ}
use lib.ListN.{drop}
use borrow.Author.Tests.{eqb-true, eq-eqb}
use Rattle.lists.proofs.Bytes.{same_refl, same_true}
use Rattle.lists.specs.Bytes.{same}
use Rattle.digits.specs.Decimal.{decimal}
use Rattle.wcet.specs.Table.{Routine, block_count, missing, cost}
use Rattle.wcet.specs.Rules.{structure_rules}
use Rattle.wcet.specs.Claim.{AllHold}
use Rattle.nesting.proofs.Stages.{headed}
use Rattle.mps.specs.Program.{Row, Entry, Column, RowName, objective, block, loop, kind_of, rows_of, target, edges_of, entries_of, column_of, program_of}
use Rattle.mps.specs.Mps.{Bytes}
use Rattle.mps.specs.Text.{row_name, edge_name}
use Rattle.mps.specs.Claim.{named_row, named_entry, named_column, named, Among, NamesApart}
use Rattle.mps.proofs.Names.{four_digits}
use Rattle.mps.proofs.Sections.{All, all_map}
use Rattle.mps.proofs.Apart.{each_among}
use Rattle.mps.proofs.Routines.{entries_all, kept_all, names_apart}
use Rattle.flows.specs.Flow.{number_at, row_value, Solution, same_row, SolutionOf, objective_of, flow_cost, MpsSolution, mps_objective, NoneOver, ReadSolutions, ReadOptimum}

-- ---- comparing rows

alike : (r s : RowName) → same_row r s ≡ true → r ≡ s
alike objective objective e = refl
alike objective (block v) e = absurd (false≢true e)
alike objective (loop l) e = absurd (false≢true e)
alike (block u) objective e = absurd (false≢true e)
alike (block u) (block v) e = ap block (eqb-true u v e)
alike (block u) (loop l) e = absurd (false≢true e)
alike (loop k) objective e = absurd (false≢true e)
alike (loop k) (block v) e = absurd (false≢true e)
alike (loop k) (loop l) e = ap loop (eqb-true k l e)

itself : (r : RowName) → same_row r r ≡ true
itself objective = refl
itself (block u) = eq-eqb u u refl
itself (loop l) = eq-eqb l l refl

module _ (t : Routine) (A : NamesApart t) where
  -- a row of the program
  abbrev In : RowName → Type 0
  In r = Among r (rows_of t)

  all_in : All In (rows_of t)
  all_in = each_among (rows_of t) (rows_of t) (λ r p. p)

  same_row_lem : (r s : RowName) → In r → In s → same (row_name r) (row_name s) ≡ same_row r s
  same_row_lem r s p q = go (same (row_name r) (row_name s)) refl (same_row r s) refl
    where
      go : (a : Bool) → same (row_name r) (row_name s) ≡ a → (b : Bool) → same_row r s ≡ b → a ≡ b
      go true d true e = refl
      go true d false e = sym (itself r) ∙ ap (same_row r) (A.rows r s p q (same_true (row_name r) (row_name s) d)) ∙ e
      go false d true e = sym d ∙ ap (λ (z : RowName). same (row_name r) (row_name z)) (sym (alike r s e)) ∙ same_refl (row_name r)
      go false d false e = refl

  -- ---- entries, columns, rows

  abbrev EntryIn : Entry RowName → Type 0
  EntryIn z = In z.row

  entries_in : (f : RowName → ℤ) → All EntryIn (entries_of f (rows_of t))
  entries_in f = entries_all EntryIn f (rows_of t) all_in

  number_named : (r : RowName) → In r → (zs : List (Entry RowName)) → All EntryIn zs → number_at same (row_name r) (map named_entry zs) ≡ number_at same_row r zs
  unfolding number_at named_entry
  number_named r m [] a = refl
  number_named r m (z ∷ zs) a = rw (same_row_lem z.row r a.0 m, number_named r m zs a.1)

  module _ (x : Bytes → ℕ) (y : ℕ → ℕ) where
    -- x and y give the column the same number
    abbrev Agree : ℕ → Type 0
    Agree e = x (edge_name e) ≡ y e

    abbrev ColumnIn : Column ℕ RowName → Type 0
    ColumnIn c = Agree c.name × All EntryIn c.entries

    value_named : (r : RowName) → In r → (cs : List (Column ℕ RowName)) → All ColumnIn cs → row_value same (map named_column cs) x (row_name r) ≡ row_value same_row cs y r
    unfolding row_value named_column
    value_named r m [] a = refl
    value_named r m (c ∷ cs) a = rw (a.0.0, number_named r m c.entries a.0.1, value_named r m cs a.1)

    module _ (q : ℕ) (cs : List (Column ℕ RowName)) (cs-in : All ColumnIn cs) (right : List (Entry RowName)) (right-in : All EntryIn right) where
      rows_named : (rows : List (Row RowName)) → All (λ (r : Row RowName). In r.name) rows
          → Solution same (map named_row rows) (map named_column cs) (map named_entry right) q x ↔ Solution same_row rows cs right q y
      unfolding Solution named_row
      rows_named [] a = (λ h. h, λ h. h)
      rows_named (r ∷ rows) a =
          let rest = rows_named rows a.1 in
          let value = value_named r.name a.0 cs cs-in in
          let number = number_named r.name a.0 right right-in in
          (λ h. (rw (value, number) at h.0, rest.0 h.1), λ h. (rw (value, number) h.0, rest.1 h.1))

    columns_in_lem : (es : List ℕ) → All Agree es → All ColumnIn (map (column_of t) es)
    unfolding column_of
    columns_in_lem [] a = tt
    columns_in_lem (e ∷ es) a = ((a.0, entries_in _), columns_in_lem es a.1)

    -- flows that agree on the edges are solutions of both or of neither, with one objective
    solutions_named : (q : ℕ) → All Agree (edges_of t) → MpsSolution (named (program_of t)) q x ↔ SolutionOf t q y
    unfolding named program_of
    solutions_named q a =
        rows_named q (program_of t).columns (columns_in_lem (edges_of t) a) (program_of t).right (entries_in _) (program_of t).rows
        (all_map (λ (r : Row RowName). In r.name) In (λ r. record { kind = kind_of r; name = r }) (λ r p. p) (rows_of t) all_in)

    objective_named : All Agree (edges_of t) → mps_objective (named (program_of t)) x ≡ objective_of t y
    unfolding named named_row program_of row_name rows_of
    objective_named a = value_named objective (inl refl) (program_of t).columns (columns_in_lem (edges_of t) a)

-- THEOREM: the program under its names has the program's solutions and the value of their objective.
pub read_solutions : (t : Routine) → ReadSolutions t
read_solutions t h = record {
  solutions = λ q x. solutions_named t (names_apart t h) x (λ e. x (edge_name e)) q (agree x (edges_of t));
  objectives = λ x. objective_named t (names_apart t h) x (λ e. x (edge_name e)) (agree x (edges_of t));
}
  where
    agree : (x : Bytes → ℕ) (es : List ℕ) → All (λ e. x (edge_name e) ≡ x (edge_name e)) es
    agree x [] = tt
    agree x (e ∷ es) = (refl, agree x es)

-- ---- an optimum of the program is one of its text

-- a flow over names: the edge's number stands in its name
abbrev by_name : (ℕ → ℕ) → Bytes → ℕ
by_name y s = y (decimal 0 (drop 1 s))

by_name_lem : (t : Routine) → AllHold (structure_rules t) → (y : ℕ → ℕ) → All (λ e. by_name y (edge_name e) ≡ y e) (edges_of t)
unfolding edges_of edge_name decimal
by_name_lem t h y =
    kept_all (λ e. by_name y (edge_name e) ≡ y e) (λ e. not (eqb (target t e) missing)) (2 * block_count t) 0
    (λ e l p. ap y (four_digits e [] (omega (arith, (headed t h).ranged.sized.few_blocks))))

pub read_optimum : (t : Routine) → AllHold (structure_rules t) → (b : ℤ) → NoneOver t b → (y : ℕ → ℕ) → SolutionOf t 1 y → flow_cost t 1 y ≡ b
    → ReadOptimum (named (program_of t)) (cost t 0) b
unfolding flow_cost
read_optimum t h b none y s e = record {
  most = λ q x k. rw ((read_solutions t h).objectives x) (none q (λ e. x (edge_name e)) (((read_solutions t h).solutions q x).0 k));
  attained = (
    by_name y,
    (solutions_named t (names_apart t h) (by_name y) y 1 (by_name_lem t h y)).1 s,
    rw (objective_named t (names_apart t h) (by_name y) y (by_name_lem t h y)) (rw once at e),
  );
}
  where
    once : 1 * cost t 0 ≡ cost t 0
    once = omega arith
