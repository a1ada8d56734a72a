-- The tally of one loop over a recorded walk, the tallies of all loops, and what one step makes of them.
use Rattle.std.specs.Prelude.{ℕ, ◌+◌, ◌-◌, ◌≤◌, ◌<◌, max, ◌≡◌, List, ◌∷◌, eqb, length, get_or, set, replicate}
use Rattle.limits.specs.Limits.{most_loops, longest_walk}
use Rattle.lists.specs.Search.{when◌then◌else◌}
use Rattle.tallies.specs.declared.LoopTally.{LoopTally}

-- the tally of a loop after a step that ends with these visits to its header in the present stay; 0 where it ends at another block
abbrev pub seen_after : LoopTally → ℕ → LoopTally
seen_after one visits = record { stays = one.stays + (when eqb visits 1 then 1 else 0); greatest = max one.greatest visits }

-- no stay and no visit
abbrev pub unseen : LoopTally
unseen = record { stays = 0; greatest = 0 }

-- the tallies at the first block: one stay in loop 0, with one visit to its header
abbrev pub first_tallies : List LoopTally
first_tallies = record { stays = 1; greatest = 1 } ∷ replicate (most_loops - 1) unseen

-- the tally of loop l
abbrev pub tally_of : List LoopTally → ℕ → LoopTally
tally_of tallies l = get_or tallies l unseen

-- there is a tally for every loop, and room for one stay more in loop l
pub record TallyFits (tallies : List LoopTally) (l : ℕ) : Type 0 where
  pub sized : length tallies ≡ most_loops
  pub is_loop : l < most_loops
  pub few : (tally_of tallies l).stays ≤ longest_walk

-- the tallies of all loops after a step into loop l that ends with these visits to its header: the first visit begins a stay
abbrev pub noted : List LoopTally → ℕ → ℕ → List LoopTally
noted tallies l visits = set tallies l (seen_after (tally_of tallies l) visits)
