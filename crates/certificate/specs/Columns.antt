-- What 208, 453 and the bound read, and the inequality of an edge as it is read off the loop sets: for functions that are no public entry.
use Rattle.std.specs.Prelude.{ℕ, ◌^◌, ◌≤◌, ◌<◌, ◌≡◌, Bool, not, List, [], ℤ, length}
use Rattle.limits.specs.Limits.{most_blocks}
use Rattle.wcet.specs.Table.{Routine, block_count, exit, cost, loop_of, figure, limit, multiplier, some_edge, is_header}
use Rattle.wcet.specs.Shortest.{inequality_by}
use Rattle.loopsets.specs.Sets.{member, set_at}
use Rattle.nesting.specs.Columns.{routine, Innermost}
use Rattle.certificate.specs.Figures.{Figure}

-- the columns that the bound reads, and what 201 to 203 ensure of them
abbrev pub price_columns : (costs : List ℕ) (figures : List ℤ) → Routine
price_columns costs figures = routine costs [] [] [] figures [] [] [] []

pub record Priced (t : Routine) : Type 0 where
  pub some_block : 0 < block_count t
  pub few_blocks : block_count t ≤ most_blocks
  pub figures : length t.figures ≡ block_count t
  pub cost_most : cost t 0 ≤ 1000000
  pub entry_range : Figure (figure t 0)
  pub exit_range : Figure (figure t (exit t))

-- The inequalities of 453 are those of a routine with the figures and multipliers of the second certificate, and its least visits for the limits.
-- What 201 to 203 ensure where these three columns are any of the right lengths:
pub record Comparable (t : Routine) : Type 0 where
  pub some_block : 0 < block_count t
  pub few_blocks : block_count t ≤ most_blocks
  pub loops : length t.loops ≡ block_count t
  pub figures : length t.figures ≡ block_count t
  pub limits : length t.limits ≡ length t.headers
  pub multipliers : length t.multipliers ≡ length t.headers
  pub innermost : Innermost t.loops t.headers
  pub cost_most : (u : ℕ) → u < block_count t → cost t u ≤ 1000000

-- and where they are in range, by 202 and 203 or by 451 and 452
pub record Weighable (t : Routine) : Type 0 where
  pub comparable : Comparable t
  pub figure_range : (u : ℕ) → u < block_count t → Figure (figure t u)
  pub limit_most : (l : ℕ) → l < length t.headers → limit t l ≤ 65535
  pub multiplier_most : (l : ℕ) → l < length t.headers → multiplier t l ≤ 2 ^ 40

-- the inequality of an edge from u to v is broken, by either comparison: whether u is inside the target's loop is read off its set
unfoldable pub broken_by : (compare : ℤ → ℤ → Bool) (sets : List ℕ) (t : Routine) → ℕ → ℕ → Bool
broken_by compare sets t u v =
    not (inequality_by compare (is_header t v) (member (set_at sets (loop_of t u)) (loop_of t v)) (cost t v) (figure t u) (figure t v) (multiplier t (loop_of t v)) (limit t (loop_of t v)))

-- of either edge of block u
abbrev pub any_broken_by : (compare : ℤ → ℤ → Bool) (sets : List ℕ) (t : Routine) → ℕ → Bool
any_broken_by compare sets t u = some_edge t u (broken_by compare sets t u)
