-- Document 02, §3: the reply of the solver, the columns that it leaves, and what is claimed of them.
use Rattle.std.specs.Prelude.{ℕ, ◌^◌, ◌<◌, ◌≡◌, ◌↔◌, Bool, true, false, not, ◌||◌, List, [], ◌∷◌, ◌++◌, eqb, ltb, ℤ, pos, get_or, ◌≤ℤ◌}
use Rattle.lists.specs.Search.{any_below}
use Rattle.wcet.specs.Table.{Routine, block_count, loop_count, exit, figure, multiplier, edge}
use Rattle.wcet.specs.Cycles.{reaches, ClosedWalk}
use Rattle.wcet.specs.Rules.{Reply, accepted, refused, Rule, check, figure_outside, structure_rules, undeclared_rule, bound, table_reply}
use Rattle.wcet.specs.Run.{run_cost}
use Rattle.wcet.specs.Claim.{AllHold, FirstBroken, FinishedRun}
use Rattle.optimum.specs.Remade.{with_columns, RemadeColumns, PathToExit, AllPaths}
use Rattle.optimum.specs.Columns.{remade_figures, remade_multipliers, remade}

-- 401: "some block has no path to the exit": block u is not the exit, and no walk of one edge or more leads from it to the exit
unfoldable pub no_path : Routine → ℕ → Bool
no_path t u = not (eqb u (exit t) || reaches (edge t) (block_count t) u (exit t))

-- 402: "a multiplier passes 2^40"
unfoldable pub multiplier_over : Routine → Bool
multiplier_over t = any_below (loop_count t) (λ l. ltb (2 ^ 40) (multiplier t l))

-- 403: "a figure passes the limits of 203"
unfoldable pub figure_over : Routine → Bool
figure_over t = any_below (block_count t) (λ u. figure_outside (figure t u))

-- "Given tables that pass 201 to 207 and 209": 208 is not asked
abbrev pub given_rules : Routine → List Rule
given_rules t = structure_rules t ++ undeclared_rule t ∷ []

-- "401 when some block has no path to the exit (place the lowest such block), then 402 when a multiplier passes 2^40, then 403 when a figure
-- passes the limits of 203, both at place 0; all stand after 209"
unfoldable pub solve_rules : Routine → List Rule
solve_rules t =
    given_rules t
    ++ record { number = 401; places = block_count t; broken = no_path t }
    ∷ record { number = 402; places = 1; broken = λ _. multiplier_over (remade t) }
    ∷ record { number = 403; places = 1; broken = λ _. figure_over (remade t) }
    ∷ []

-- "the reply is its bound"
unfoldable pub solve_reply : Routine → Reply ℤ
solve_reply t = check (solve_rules t) (accepted (bound (remade t)))

-- the columns after the call: "A refusal leaves both columns untouched."
abbrev pub figures_after : Routine → Reply ℤ → List ℤ
figures_after t (accepted b) = remade_figures t
figures_after t (refused number place) = t.figures

abbrev pub multipliers_after : Routine → Reply ℤ → List ℕ
multipliers_after t (accepted b) = remade_multipliers t
multipliers_after t (refused number place) = t.multipliers

-- ---- what is claimed, and proved in proofs/

-- in ks "a multiplier passes 2^40"; in fs "a figure passes the limits of 203"
abbrev pub MultiplierPasses : Routine → List ℕ → Type 0
MultiplierPasses t ks = (l : ℕ) × (l < loop_count t) × (2 ^ 40 < get_or ks l 0)

abbrev pub FigurePasses : Routine → List ℤ → Type 0
FigurePasses t fs = (u : ℕ) × (u < block_count t) × (figure_outside (get_or fs u (pos 0)) ≡ true)

-- What the rules mean: the solver replies with a bound exactly where none of its rules is broken, and refuses exactly with the first broken
-- one at its lowest place. (Document 01 gives "accepted" another meaning for a pair of tables: that of `table_reply`.) Then 209, 401, 402 and
-- 403 each in the words of document 02: the reply is 209 exactly where 201 to 207 hold and there is a closed walk with no edge that returns to a
-- header from inside that header's loop; 401 exactly where the rules before it hold and "some block has no path to the exit (place the lowest
-- such block)"; 402 and 403 exactly where the rules before them hold and a multiplier or a figure of the remade columns passes its limit. The
-- remade columns are those of `remade_figures` and `remade_multipliers` and no others, and "some finished counted run" costs exactly their bound,
-- however large they are.
pub record SolvesExactly (t : Routine) : Type 0 where
  pub accepts : (b : ℤ) → (solve_reply t ≡ accepted b) ↔ (AllHold (solve_rules t) × (bound (remade t) ≡ b))
  pub refuses : (number place : ℕ) → (solve_reply t ≡ refused number place) ↔ FirstBroken (solve_rules t) number place
  pub undeclared : (place : ℕ) → (solve_reply t ≡ refused 209 place) ↔ ((place ≡ 0) × AllHold (structure_rules t) × ClosedWalk t)
  pub path : AllHold (structure_rules t) → (u : ℕ) → u < block_count t → (no_path t u ≡ false) ↔ PathToExit t u
  pub no_path_lem : (u : ℕ)
      → (solve_reply t ≡ refused 401 u) ↔ (AllHold (given_rules t) × (u < block_count t) × (PathToExit t u → ⊥) × ((y : ℕ) → y < u → PathToExit t y))
  pub multiplier_over_lem : (place : ℕ)
      → (solve_reply t ≡ refused 402 place)
      ↔ ((place ≡ 0) × AllHold (given_rules t) × AllPaths t × ((fs : List ℤ) × (ks : List ℕ) × RemadeColumns t fs ks × MultiplierPasses t ks))
  pub figure_over_lem : (place : ℕ)
      → (solve_reply t ≡ refused 403 place)
      ↔ ((place ≡ 0) × AllHold (given_rules t) × AllPaths t × ((fs : List ℤ) × (ks : List ℕ) × RemadeColumns t fs ks × (MultiplierPasses t ks → ⊥) × FigurePasses t fs))
  pub columns : AllHold (given_rules t) → AllPaths t → (fs : List ℤ) (ks : List ℕ) → RemadeColumns t fs ks ↔ ((fs ≡ remade_figures t) × (ks ≡ remade_multipliers t))
  pub run : AllHold (given_rules t) → AllPaths t → (w : List ℕ) × FinishedRun t w × (pos (run_cost t w) ≡ bound (remade t))

-- What holds when the reply is `accepted b` and the columns are fs and ks: "The result must be accepted, the reply is its bound, and some
-- finished counted run must cost exactly that, so no certificate gives less." The columns are the remade ones, and no others are.
pub record Optimum (t : Routine) (fs : List ℤ) (ks : List ℕ) (b : ℤ) : Type 0 where
  pub result : table_reply (with_columns t fs ks) ≡ accepted b
  pub columns : RemadeColumns t fs ks
  pub run : (w : List ℕ) × FinishedRun t w × (pos (run_cost t w) ≡ b)
  pub least : (fs' : List ℤ) (ks' : List ℕ) (b' : ℤ) → table_reply (with_columns t fs' ks') ≡ accepted b' → b ≤ℤ b'
  pub only : (fs' : List ℤ) (ks' : List ℕ) → RemadeColumns t fs' ks' → (fs' ≡ fs) × (ks' ≡ ks)

-- what the solver ensures of its reply r to t and of the columns that it leaves
pub record Solved (t : Routine) (r : Reply ℤ) (fs : List ℤ) (ks : List ℕ) : Type 0 where
  pub replied : r ≡ solve_reply t
  pub figures : fs ≡ figures_after t r
  pub multipliers : ks ≡ multipliers_after t r
  pub optimum : (b : ℤ) → r ≡ accepted b → Optimum t fs ks b
