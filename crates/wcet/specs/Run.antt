-- Document 01, "Counted runs".
use Rattle.std.specs.Prelude.{ℕ, ◌+◌, Bool, true, false, not, ◌&&◌, List, [], ◌∷◌, eqb, ltb}
use Rattle.lists.specs.Search.{when◌then◌else◌, any_below}
use Rattle.wcet.specs.Table.{Routine, loop_count, cost, header, limit, edge, inside}

-- from block u the blocks of w follow edges
unfoldable pub path : Routine → ℕ → List ℕ → Bool
path t u [] = true
path t u (v ∷ w) = edge t u v && path t v w

-- "A run is a list of one block or more that starts at block 0 and follows edges."
unfoldable pub run : Routine → List ℕ → Bool
run t [] = false
run t (v ∷ w) = eqb v 0 && path t v w

-- "Its cost is the sum of the costs of its blocks, each visit counted, entry and exit included, a whole number of any size."
unfoldable pub run_cost : Routine → List ℕ → ℕ
run_cost t [] = 0
run_cost t (v ∷ w) = cost t v + run_cost t w

-- where a run stands: the present block, and for each loop "the visits to its header .. counted within one stay"
pub record State : Type 0 where
  pub block : ℕ
  pub count : ℕ → ℕ

-- "At the first block loop 0 stands at 1 and every other loop at 0"; the first block is block 0
unfoldable pub start : State
start = record { block = 0; count = λ l. when eqb l 0 then 1 else 0 }

-- an edge from u to v leaves loop l
abbrev pub leaves : Routine → ℕ → ℕ → ℕ → Bool
leaves t u v l = inside t u l && not (inside t v l)

-- Loop l's count after an edge from u to v, c before it. "An edge to the header from inside its loop adds 1. Leaving the loop sets that
-- count to 0; an edge to the header from outside, the first time and each time after, sets it to 1", "nothing but the list changes them".
unfoldable pub next_count : Routine → ℕ → ℕ → ℕ → ℕ → ℕ
next_count t u v l c =
    when leaves t u v l then 0 else
    when not (eqb (header t l) v) then c else
    when inside t u l then c + 1 else 1

-- "each later block finds the counts as the one before it left them": the state at v, after state s
unfoldable pub next : Routine → State → ℕ → State
next t s v = record { block = v; count = λ l. next_count t s.block v l (s.count l) }

-- the state after the blocks of w
unfoldable pub after : Routine → State → List ℕ → State
after t s [] = s
after t s (v ∷ w) = after t (next t s v) w

-- some loop's count is over its limit
unfoldable pub passes_limit : Routine → State → Bool
passes_limit t s = any_below (loop_count t) (λ l. ltb (limit t l) (s.count l))

-- no limit is passed in state s, nor at any later block of w
unfoldable pub keeps_limits : Routine → State → List ℕ → Bool
keeps_limits t s [] = not (passes_limit t s)
keeps_limits t s (v ∷ w) = not (passes_limit t s) && keeps_limits t (next t s v) w

-- "A counted run passes no limit."
unfoldable pub counted_run : Routine → List ℕ → Bool
counted_run t [] = false
counted_run t (v ∷ w) = run t (v ∷ w) && keeps_limits t start w
