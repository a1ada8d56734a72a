-- Document 01, "Counted runs", without steps: the visits to a header within one stay, counted over the list; and the claim that the counts
-- of `Run.antt` are these.
use Rattle.std.specs.Prelude.{◌≡◌, ◌↔◌, Bool, true, ◌&&◌, List, [], ◌∷◌, ℕ, suc, ◌+◌, ◌≤◌, ◌<◌, eqb, length, take}
use Rattle.lists.specs.Search.{when◌then◌else◌}
use Rattle.wcet.specs.Table.{Routine, loop_count, header, limit, inside}
use Rattle.wcet.specs.Run.{run, start, after, counted_run}

-- each block of w is inside loop l
unfoldable pub all_inside : Routine → ℕ → List ℕ → Bool
all_inside t l [] = true
all_inside t l (v ∷ w) = inside t v l && all_inside t l w

-- the present stay in loop l at the end of the list w: the longest end of w that is inside l throughout, and empty where the last block is
-- outside l
unfoldable pub current_stay : Routine → ℕ → List ℕ → List ℕ
current_stay t l [] = []
current_stay t l (v ∷ w) = when all_inside t l (v ∷ w) then v ∷ w else current_stay t l w

-- how often block h stands in the list w
unfoldable pub visits : ℕ → List ℕ → ℕ
visits h [] = 0
visits h (v ∷ w) = (when eqb h v then 1 else 0) + visits h w

-- "For each loop the visits to its header are counted within one stay": the visits to loop l's header in the present stay
abbrev pub stay_visits : Routine → ℕ → List ℕ → ℕ
stay_visits t l w = visits (header t l) (current_stay t l w)

-- for a pair of tables: the counts that the steps of a run keep are these visits; and a run is counted exactly where at each of its blocks no
-- loop has more visits in the present stay than its limit
pub record CountsExactly (t : Routine) : Type 0 where
  pub stepped : (w : List ℕ) (l : ℕ) → l < loop_count t → (after t start w).count l ≡ stay_visits t l (0 ∷ w)
  pub counted : (w : List ℕ)
      → (counted_run t w ≡ true) ↔ ((run t w ≡ true) × ((k l : ℕ) → k < length w → l < loop_count t → stay_visits t l (take (suc k) w) ≤ limit t l))
