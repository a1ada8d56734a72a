-- Document 01, "The routine as two tables": the block table, the loop table, the edges and the loop nesting.
use Rattle.std.specs.Prelude.{ℕ, zero, suc, ◌-◌, Bool, not, ◌&&◌, ◌||◌, List, eqb, ℤ, pos, length, get_or}

-- "A routine is two comma-separated tables .. in memory a table has the other five or four columns": of the basic blocks, of the loops.
pub record Routine : Type 0 where
  pub costs : List ℕ
  pub loops : List ℕ
  pub firsts : List ℕ
  pub seconds : List ℕ
  pub figures : List ℤ
  pub parents : List ℕ
  pub headers : List ℕ
  pub limits : List ℕ
  pub multipliers : List ℕ

-- t with other costs, figures, limits and multipliers, and the same edges and loop nesting. (There are as many blocks as costs.)
abbrev pub with_numbers : Routine → (costs : List ℕ) (figures : List ℤ) (limits multipliers : List ℕ) → Routine
with_numbers t costs figures limits multipliers = record {
  costs = costs;
  loops = t.loops;
  firsts = t.firsts;
  seconds = t.seconds;
  figures = figures;
  parents = t.parents;
  headers = t.headers;
  limits = limits;
  multipliers = multipliers;
}

-- "There are n blocks, 0 to n−1 .. There are m loops, 0 to m−1", "n and m are their lengths"
abbrev pub block_count : Routine → ℕ
block_count t = length t.costs

abbrev pub loop_count : Routine → ℕ
loop_count t = length t.parents

-- "Block 0 is the entry and block n−1 the exit."
abbrev pub exit : Routine → ℕ
exit t = block_count t - 1

-- "In the columns a missing successor is 65,535"
abbrev pub missing : ℕ
missing = 65535

-- The entries of the columns, and 0 after a column's end. For a table that passes 201 to 203, no reply and no counted run depends on that 0.
-- Of a block: its cost, its innermost loop, its two successors and its figure, the solver's potential for the block (a dual variable).
abbrev pub cost : Routine → ℕ → ℕ
cost t u = get_or t.costs u 0

abbrev pub loop_of : Routine → ℕ → ℕ
loop_of t u = get_or t.loops u 0

abbrev pub first : Routine → ℕ → ℕ
first t u = get_or t.firsts u 0

abbrev pub second : Routine → ℕ → ℕ
second t u = get_or t.seconds u 0

abbrev pub figure : Routine → ℕ → ℤ
figure t u = get_or t.figures u (pos 0)

-- Of a loop: its parent, its header block, its limit (the loop bound: header visits per entry) and its multiplier (the dual variable of
-- that bound).
abbrev pub parent : Routine → ℕ → ℕ
parent t l = get_or t.parents l 0

abbrev pub header : Routine → ℕ → ℕ
header t l = get_or t.headers l 0

abbrev pub limit : Routine → ℕ → ℕ
limit t l = get_or t.limits l 0

abbrev pub multiplier : Routine → ℕ → ℕ
multiplier t l = get_or t.multipliers l 0

-- "An edge runs from a block to each successor it names. Either successor, or both, may be missing":
-- some edge out of u ends at a block that passes the test p
unfoldable pub some_edge : Routine → ℕ → (ℕ → Bool) → Bool
some_edge t u p = (not (eqb (first t u) missing) && p (first t u)) || (not (eqb (second t u) missing) && p (second t u))

-- there is an edge from u to v
unfoldable pub edge : Routine → ℕ → ℕ → Bool
edge t u v = some_edge t u (λ x. eqb x v)

-- by this parent column, loop k is l, or l's parent, or that loop's parent, and so on for d steps
unfoldable pub around : List ℕ → ℕ → ℕ → ℕ → Bool
around parents zero l k = eqb l k
around parents (suc d) l k = eqb l k || around parents d (get_or parents l 0) k

-- "A block's loop is the innermost one around it; it is also inside that loop's parent, and so on up to loop 0":
-- block u is inside loop l. A parent is below its loop (202), so m steps reach loop 0.
unfoldable pub inside : Routine → ℕ → ℕ → Bool
inside t u l = around t.parents (loop_count t) (loop_of t u) l

-- v is a header: by 203 and 204 it is then the header of its innermost loop, and of no other
abbrev pub is_header : Routine → ℕ → Bool
is_header t v = eqb (header t (loop_of t v)) v
