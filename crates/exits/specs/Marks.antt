-- The marks that spread from the exit: for functions that are no public entry.
use Rattle.std.specs.Prelude.{ℕ, ◌<◌, ◌≡◌, ◌↔◌, Bool, true, false, not, ◌&&◌, List, length, get_or}
use Rattle.limits.specs.Limits.{most_blocks}
use Rattle.lists.specs.Search.{count_below}
use Rattle.wcet.specs.Table.{Routine, block_count, some_edge}
use Rattle.nesting.specs.Columns.{edge_columns}
use Rattle.optimum.specs.Remade.{PathToExit}

-- The routine of two successor columns. Paths use the costs only for the number of blocks: the first successors stand in their place.
abbrev pub link_columns : (firsts seconds : List ℕ) → Routine
link_columns firsts seconds = edge_columns firsts firsts seconds

abbrev pub marked : List Bool → ℕ → Bool
marked marks u = get_or marks u false

abbrev pub unmarked : ℕ → List Bool → ℕ
unmarked n marks = count_below n (λ u. not (marked marks u))

-- block u is not marked and has an edge to a marked block
unfoldable pub can_mark : Routine → List Bool → ℕ → Bool
can_mark t marks u = not (marked marks u) && some_edge t u (marked marks)

-- a marked block has a path to the exit
abbrev pub Sound : Routine → List Bool → Type 0
Sound t marks = (u : ℕ) → u < block_count t → marked marks u ≡ true → PathToExit t u

-- no block is left to mark
abbrev pub Closed : Routine → List Bool → Type 0
Closed t marks = (u : ℕ) → u < block_count t → can_mark t marks u ≡ false

-- What a pass over the blocks makes of the old marks, and `more`: whether it marked a block.
pub record Passed (t : Routine) (old marks : List Bool) (more : Bool) : Type 0 where
  pub size : length marks ≡ most_blocks
  pub kept : (u : ℕ) → marked old u ≡ true → marked marks u ≡ true
  pub sound : Sound t old → Sound t marks
  pub closed : more ≡ false → Closed t marks
  pub fewer : more ≡ true → unmarked (block_count t) marks < unmarked (block_count t) old

-- the blocks with a path to the exit are marked, and no others
abbrev pub MarksPaths : Routine → List Bool → Type 0
MarksPaths t marks = (u : ℕ) → u < block_count t → (marked marks u ≡ true) ↔ PathToExit t u
