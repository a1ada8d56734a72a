-- Document 02, §3: "remake the figure and multiplier columns": what the remade columns are, without an algorithm.
use Rattle.std.specs.Prelude.{ℕ, ◌<◌, ◌≡◌, true, List, ◌∷◌, ℤ, pos, length, get_or, ◌≤ℤ◌}
use Rattle.wcet.specs.Table.{Routine, with_numbers, block_count, loop_count, exit, figure, multiplier, edge}
use Rattle.wcet.specs.Rules.{edge_holds}
use Rattle.wcet.specs.Run.{path}
use Rattle.optimum.specs.Rounds.{GreatestRound}

-- t with these columns in place of its figures and multipliers: the same blocks, edges, costs, nesting and limits
abbrev pub with_columns : Routine → List ℤ → List ℕ → Routine
with_columns t fs ks = with_numbers t t.costs fs t.limits ks

-- t's figures meet "all inequalities with those multipliers", and "The exit's figure is 0"
pub record Feasible (t : Routine) : Type 0 where
  pub holds : (u v : ℕ) → u < block_count t → edge t u v ≡ true → edge_holds t u v ≡ true
  pub at_exit : figure t (exit t) ≡ pos 0

-- "The exit's figure is 0, and every other figure is the smallest that meets all inequalities with those multipliers": of all lists fs of
-- figures. A short list stands for 0 after its end, and entries after the last block's are not read.
pub record SmallestFigures (t : Routine) : Type 0 where
  pub feasible : Feasible t
  pub smallest : (fs : List ℤ) → Feasible (with_columns t fs t.multipliers) → (u : ℕ) → u < block_count t → figure t u ≤ℤ get_or fs u (pos 0)

-- t's own columns are the remade ones: "A loop's multiplier is the greatest cost of one round ..; it is 0 if no round exists", and the figures
-- are the smallest. Loop 0 has no round, because no edge ends at block 0 (206), so its multiplier is 0.
pub record Optimal (t : Routine) : Type 0 where
  pub rounds : (l : ℕ) → l < loop_count t → GreatestRound t l (multiplier t l)
  pub figures : SmallestFigures t

-- fs and ks are the remade columns of t: a figure for each block and a multiplier for each loop
pub record RemadeColumns (t : Routine) (fs : List ℤ) (ks : List ℕ) : Type 0 where
  pub figure_count : length fs ≡ block_count t
  pub multiplier_count : length ks ≡ loop_count t
  pub optimal : Optimal (with_columns t fs ks)

-- 401: a path from block u to the exit: the blocks after u, none where u is the exit
pub record PathToExit (t : Routine) (u : ℕ) : Type 0 where
  pub blocks : List ℕ
  pub follows : path t u blocks ≡ true
  pub at_exit : get_or (u ∷ blocks) (length blocks) 0 ≡ exit t

-- no block is without one: 401 is not broken
abbrev pub AllPaths : Routine → Type 0
AllPaths t = (u : ℕ) → u < block_count t → PathToExit t u
