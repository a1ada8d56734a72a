-- How the columns are computed. The tail of loop l at a block x inside l: the greatest weight of a path from x to l's header that stays inside
-- l, by forward edges up to the one back edge at its end. Block x does not count, and the header at the end counts with its cost only. The
-- tail is none where there is no path. Loop 0 has no back edge: its tails lead to the exit.
use Rattle.std.specs.Prelude.{ℕ, zero, suc, ◌+◌, ◌*◌, ◌-◌, Bool, not, ◌&&◌, eqb, ltb}
use Rattle.std.proofs.Math.Option.{Option, none, some}
use Rattle.lists.specs.Search.{when◌then◌else◌}
use Rattle.wcet.specs.Table.{Routine, exit, missing, cost, loop_of, first, second, header, limit, multiplier, inside, is_header}
use Rattle.wcet.specs.Cycles.{back_edge}

-- the greater of two by a test for less, none being the least
unfoldable pub best : {A : Type 0} → (A → A → Bool) → Option A → Option A → Option A
best less none o = o
best less (some a) none = some a
best less (some a) (some b) = when less a b then some b else some a

-- c more
unfoldable pub more : ℕ → Option ℕ → Option ℕ
more c none = none
more c (some a) = some (c + a)

-- what a forward edge to v weighs: v's cost, and at a header all rounds of its loop that the limit allows after the first visit
unfoldable pub weight : Routine → ℕ → ℕ
weight t v = when is_header t v then cost t v + multiplier t (loop_of t v) * (limit t (loop_of t v) - 1) else cost t v

-- What the edge from x to v gives to the tail of loop l at x, given the tails of the next blocks: none where v is missing or outside l, or is
-- another header reached by a back edge.
unfoldable pub via : Routine → ℕ → (ℕ → Option ℕ) → ℕ → ℕ → Option ℕ
via t l tail x v =
    when eqb v missing then none else
    when not (inside t v l) then none else
    when back_edge t x v then (when not (eqb l 0) && eqb v (header t l) then some (cost t v) else none) else
    more (weight t v) (tail v)

-- The tail of loop l at x, given the tails of the next blocks: the greater of what x's two successors give. Loop 0's tail at the exit is 0.
unfoldable pub tail_at : Routine → ℕ → (ℕ → Option ℕ) → ℕ → Option ℕ
tail_at t l tail x =
    when eqb l 0 && eqb x (exit t) then some 0 else best ltb (via t l tail x (first t x)) (via t l tail x (second t x))

-- the tail of loop l at x, by paths of fewer than d forward edges
unfoldable pub tail_by : Routine → ℕ → ℕ → ℕ → Option ℕ
tail_by t zero l x = none
tail_by t (suc d) l x = tail_at t l (tail_by t d l) x
