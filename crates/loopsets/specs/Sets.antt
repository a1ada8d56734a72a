-- What a set of loops holds, and the sets of the loops around each loop.
use Rattle.std.specs.Prelude.{ℕ, ◌≤◌, ◌<◌, ◌≡◌, Bool, true, false, List, ltb, length, get_or, replicate}
use Rattle.limits.specs.Limits.{most_loops}
use Rattle.lists.specs.Search.{when◌then◌else◌, tabulate}
use Rattle.bits.specs.Digits.{has, set_of}
use Rattle.wcet.specs.Table.{around}
use Rattle.loopsets.specs.declared.LoopSet.{LoopSet}

-- loop k is in the set
unfoldable pub member : LoopSet → ℕ → Bool
member s k = has s.word k

-- l is the lowest loop in the set, and most_loops where the set is empty
pub record LowestOf (s : LoopSet) (l : ℕ) : Type 0 where
  pub within : l ≤ most_loops
  pub present : l < most_loops → member s l ≡ true
  pub lower : (k : ℕ) → k < l → member s k ≡ false

-- the set of loop l
unfoldable pub set_at : List ℕ → ℕ → LoopSet
set_at sets l = record { word = get_or sets l 0 }

-- what 202 says of a parent column: loop 0 is its own parent, and any other loop's parent is below it
pub record Parents (parents : List ℕ) : Type 0 where
  pub root : get_or parents 0 0 ≡ 0
  pub below : (l : ℕ) → 0 < l → get_or parents l 0 < l

-- Document 01: "The loops around a block fit one 64-bit set". The word of each loop's set: the loops around it, and none where the parent
-- column has no loop l.
unfoldable pub sets_around : List ℕ → List ℕ
sets_around parents = tabulate most_loops (λ l. when ltb l (length parents) then set_of most_loops (around parents (length parents) l) else 0)

-- every set is empty
abbrev pub no_sets : List ℕ
no_sets = replicate most_loops 0
