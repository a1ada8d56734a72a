-- The depth of a loop in the nesting, and the loop of one depth around each loop.
use Rattle.std.specs.Prelude.{ℕ, zero, suc, ◌≤◌, ◌<◌, ◌≡◌, true, List, eqb, length, get_or}
use Rattle.limits.specs.Limits.{most_loops}
use Rattle.lists.specs.Search.{when◌then◌else◌}
use Rattle.wcet.specs.Table.{around}
use Rattle.levels.specs.declared.Depths.{Depths}

-- how many loops are around loop l, loop 0 and its own counted, by d steps from a loop to its parent
unfoldable pub depth_by : List ℕ → ℕ → ℕ → ℕ
depth_by parents zero l = 1
depth_by parents (suc d) l = when eqb l 0 then 1 else suc (depth_by parents d (get_or parents l 0))

-- a parent is below its loop (202), so as many steps as there are loops reach loop 0
abbrev pub depth : List ℕ → ℕ → ℕ
depth parents l = depth_by parents (length parents) l

pub record DepthsOf (parents : List ℕ) (r : Depths) : Type 0 where
  pub size : length r.each ≡ most_loops
  pub same : (l : ℕ) → l < length parents → get_or r.each l 0 ≡ depth parents l
  pub most : (l : ℕ) → l < length parents → depth parents l ≤ r.most
  pub attained : (l : ℕ) × (l < length parents) × (depth parents l ≡ r.most)

-- the depth of each loop, and one that none is over
pub record Deep (parents depths : List ℕ) (deepest : ℕ) : Type 0 where
  pub same : (l : ℕ) → l < length parents → get_or depths l 0 ≡ depth parents l
  pub most : (l : ℕ) → l < length parents → depth parents l ≤ deepest

-- there is no such loop
abbrev pub no_loop : ℕ
no_loop = 65535

-- for each loop k the loop of depth d around it, and `no_loop` where there is none
pub record Level (parents : List ℕ) (d : ℕ) (level : List ℕ) : Type 0 where
  pub size : length level ≡ most_loops
  pub chosen : (k : ℕ) → k < length parents → (get_or level k 0 ≡ no_loop → ⊥)
      → (get_or level k 0 < length parents) × (around parents (length parents) k (get_or level k 0) ≡ true) × (depth parents (get_or level k 0) ≡ d)
  pub each : (k l : ℕ) → k < length parents → l < length parents → around parents (length parents) k l ≡ true → depth parents l ≡ d → get_or level k 0 ≡ l
