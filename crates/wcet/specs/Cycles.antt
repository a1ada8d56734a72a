-- Document 02, §2, "Loops that nobody declared": closed walks without a back edge, and a test for them that computes.
use Rattle.std.specs.Prelude.{ℕ, zero, suc, ◌<◌, ◌≡◌, Bool, true, not, ◌&&◌, ◌||◌, List, [], ◌∷◌, ◌++◌}
use Rattle.lists.specs.Search.{any_below}
use Rattle.wcet.specs.Table.{Routine, block_count, loop_of, edge, inside, is_header}

-- a back edge from u to v: it "returns to a header from inside that header's loop"
unfoldable pub back_edge : Routine → ℕ → ℕ → Bool
back_edge t u v = is_header t v && inside t u (loop_of t v)

-- a forward edge from u to v: any other edge, one that enters a loop at its header included
unfoldable pub forward_edge : Routine → ℕ → ℕ → Bool
forward_edge t u v = edge t u v && not (back_edge t u v)

-- from block u the blocks of w follow forward edges
unfoldable pub forward_path : Routine → ℕ → List ℕ → Bool
forward_path t u [] = true
forward_path t u (v ∷ w) = forward_edge t u v && forward_path t v w

-- "a closed walk of one edge or more, none of which returns to a header from inside that header's loop": from a block along a list of
-- blocks, which may be empty, and back to that block
pub record ClosedWalk (t : Routine) : Type 0 where
  pub start : ℕ
  pub between : List ℕ
  pub block : start < block_count t
  pub closed : forward_path t start (between ++ start ∷ []) ≡ true

-- Walks as a test that computes (Warshall's recursion), by any kind of edge: with `forward_edge` for 209, with `edge` for 401. From u to v
-- leads a walk of one edge or more, and all blocks between are below k. For k + 1: a walk that avoids block k, or one from u to k and one
-- from k to v.
unfoldable pub reaches : (leads : ℕ → ℕ → Bool) → ℕ → ℕ → ℕ → Bool
reaches leads zero u v = leads u v
reaches leads (suc k) u v = reaches leads k u v || (reaches leads k u k && reaches leads k k v)

-- 209: "a table is refused if it has a closed walk of one edge or more, none of which returns to a header from inside that header's loop":
-- by forward edges some block reaches itself. Of tables that pass 201 to 207 the test holds exactly where there is a `ClosedWalk`: see `RepliesExactly`.
unfoldable pub undeclared_loop : Routine → Bool
undeclared_loop t = any_below (block_count t) (λ u. reaches (forward_edge t) (block_count t) u u)
