-- The routine of the nine columns that a caller lends. For functions that are no public entry: what each rule ensures for the next, and 205 and
-- 207 as they are read off the loop sets.
use Rattle.std.specs.Prelude.{ℕ, ◌^◌, ◌≤◌, ◌<◌, ◌≡◌, Bool, not, ◌&&◌, ◌||◌, List, [], eqb, ltb, ℤ, pos, neg_ℤ, length, get_or, ◌≤ℤ◌}
use Rattle.limits.specs.Limits.{most_blocks, most_loops, most_depth}
use Rattle.lists.specs.Search.{count_below}
use Rattle.wcet.specs.Table.{Routine, block_count, loop_count, missing, cost, loop_of, first, second, figure, header, limit, multiplier, some_edge}
use Rattle.wcet.specs.Rules.{out_of_range, block_columns_equal, loop_columns_equal}
use Rattle.loopsets.specs.Sets.{member, set_at, Parents}
use Rattle.nesting.specs.declared.Tables.{Tables}

-- the routine of nine columns, in the order in which every function takes them
abbrev pub routine : (costs loops firsts seconds : List ℕ) (figures : List ℤ) (parents headers limits multipliers : List ℕ) → Routine
routine costs loops firsts seconds figures parents headers limits multipliers = record {
  costs = costs;
  loops = loops;
  firsts = firsts;
  seconds = seconds;
  figures = figures;
  parents = parents;
  headers = headers;
  limits = limits;
  multipliers = multipliers;
}

-- the routine of the tables that a function is lent
abbrev pub routine_of : Tables → Routine
routine_of t = routine t.cost.now t.loops.now t.first.now t.second.now t.figure.now t.parent.now t.header.now t.limit.now t.multiplier.now

-- the routine of the two columns of successors, for what reads no other
abbrev pub edge_columns : (costs firsts seconds : List ℕ) → Routine
edge_columns costs firsts seconds = routine costs [] firsts seconds [] [] [] [] []

-- 201, of either table
abbrev pub block_sizes_wrong : Routine → Bool
block_sizes_wrong t = out_of_range 2 most_blocks (block_count t) || not (block_columns_equal t)

abbrev pub loop_sizes_wrong : Routine → Bool
loop_sizes_wrong t = out_of_range 1 most_loops (loop_count t) || not (loop_columns_equal t)

-- what 201 ensures: columns of equal length, and counts within their limits
pub record BlocksSized (t : Routine) : Type 0 where
  pub loops : length t.loops ≡ block_count t
  pub firsts : length t.firsts ≡ block_count t
  pub seconds : length t.seconds ≡ block_count t
  pub figures : length t.figures ≡ block_count t
  pub some_block : 0 < block_count t
  pub few_blocks : block_count t ≤ most_blocks

pub record LoopsSized (t : Routine) : Type 0 where
  pub headers : length t.headers ≡ loop_count t
  pub limits : length t.limits ≡ loop_count t
  pub multipliers : length t.multipliers ≡ loop_count t
  pub some_loop : 0 < loop_count t
  pub few_loops : loop_count t ≤ most_loops

pub record Sized (t : Routine) : Type 0 where
  pub loops : length t.loops ≡ block_count t
  pub firsts : length t.firsts ≡ block_count t
  pub seconds : length t.seconds ≡ block_count t
  pub figures : length t.figures ≡ block_count t
  pub headers : length t.headers ≡ loop_count t
  pub limits : length t.limits ≡ loop_count t
  pub multipliers : length t.multipliers ≡ loop_count t
  pub some_block : 0 < block_count t
  pub some_loop : 0 < loop_count t
  pub few_blocks : block_count t ≤ most_blocks
  pub few_loops : loop_count t ≤ most_loops

-- the successor is present and passes the test p
abbrev pub of_edge : ℕ → (ℕ → Bool) → Bool
of_edge v p = not (eqb v missing) && p v

-- the successor, where it is present, is one of n blocks
abbrev pub Names : ℕ → ℕ → Type 0
Names n v = (v ≡ missing → ⊥) → v < n

-- what 202 and 203 ensure: every value is in its range
pub record Ranged (t : Routine) : Type 0 where
  pub sized : Sized t
  pub parents : Parents t.parents
  pub header_below : (l : ℕ) → l < loop_count t → header t l < block_count t
  pub limit_least : (l : ℕ) → l < loop_count t → 1 ≤ limit t l
  pub limit_most : (l : ℕ) → l < loop_count t → limit t l ≤ 65535
  pub multiplier_most : (l : ℕ) → l < loop_count t → multiplier t l ≤ 2 ^ 40
  pub cost_most : (u : ℕ) → u < block_count t → cost t u ≤ 1000000
  pub loop_below : (u : ℕ) → u < block_count t → loop_of t u < loop_count t
  pub first_names : (u : ℕ) → u < block_count t → Names (block_count t) (first t u)
  pub second_names : (u : ℕ) → u < block_count t → Names (block_count t) (second t u)
  pub figure_least : (u : ℕ) → u < block_count t → neg_ℤ (pos (2 ^ 60)) ≤ℤ figure t u
  pub figure_most : (u : ℕ) → u < block_count t → figure t u ≤ℤ pos (2 ^ 60)

-- and what 204 ensures: the innermost loop of each header is its own
pub record Headed (t : Routine) : Type 0 where
  pub ranged : Ranged t
  pub own : (l : ℕ) → l < loop_count t → loop_of t (header t l) ≡ l

-- of these, for functions that read only some of the columns: each header is a block
pub record HeadersNamed (t : Routine) : Type 0 where
  pub few : loop_count t ≤ most_loops
  pub headers : length t.headers ≡ loop_count t
  pub below : (l : ℕ) → l < loop_count t → header t l < length t.loops

-- each block's innermost loop is a loop
pub record Innermost (loops headers : List ℕ) : Type 0 where
  pub few : length headers ≤ most_loops
  pub below : (u : ℕ) → u < length loops → get_or loops u 0 < length headers

-- each successor of n blocks that is present is a block
pub record Linked (n : ℕ) (firsts seconds : List ℕ) : Type 0 where
  pub few : n ≤ most_blocks
  pub first_size : length firsts ≡ n
  pub second_size : length seconds ≡ n
  pub first_names : (u : ℕ) → u < n → Names n (get_or firsts u 0)
  pub second_names : (u : ℕ) → u < n → Names n (get_or seconds u 0)

-- what the checks of 205 to 207 require
pub record Nestable (t : Routine) : Type 0 where
  pub some_block : 0 < block_count t
  pub some_loop : 0 < loop_count t
  pub loops : length t.loops ≡ block_count t
  pub headers : length t.headers ≡ loop_count t
  pub parents : Parents t.parents
  pub innermost : Innermost t.loops t.headers
  pub linked : Linked (block_count t) t.firsts t.seconds
  pub own : (l : ℕ) → l < loop_count t → loop_of t (header t l) ≡ l

-- 205, read off the sets: the set of loop l has more than most_depth loops
abbrev pub deep_by_sets : List ℕ → ℕ → Bool
deep_by_sets sets l = ltb most_depth (count_below most_loops (member (set_at sets l)))

-- 207, of an edge from u to v, read off the sets: it enters a loop, and not only its target's innermost one at its header
abbrev pub entered_by_sets : (sets loops : List ℕ) → ℕ → ℕ → ℕ
entered_by_sets sets loops u v = count_below most_loops (λ l. member (set_at sets (get_or loops v 0)) l && not (member (set_at sets (get_or loops u 0)) l))

unfoldable pub past_by_sets : (sets loops headers : List ℕ) → ℕ → ℕ → Bool
past_by_sets sets loops headers u v =
    not (eqb (entered_by_sets sets loops u v) 0)
    && (not (eqb (entered_by_sets sets loops u v) 1) || not (eqb (get_or headers (get_or loops v 0) 0) v))

-- of either edge of block u
abbrev pub any_past_by_sets : (sets loops firsts seconds headers : List ℕ) → ℕ → Bool
any_past_by_sets sets loops firsts seconds headers u = some_edge (edge_columns [] firsts seconds) u (past_by_sets sets loops headers u)
