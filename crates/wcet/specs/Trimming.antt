-- Document 02, §9, "Once checked, cheaper is still checked": what a trimmed pair of tables is. What is claimed of it is `StaysChecked`, in
-- `Claim.antt`.
use Rattle.std.specs.Prelude.{ℕ, ◌≤◌, ◌<◌, ◌≡◌, length}
use Rattle.wcet.specs.Table.{Routine, with_numbers, block_count, loop_count, cost, limit}

-- The tables `new` are the tables `old`, trimmed: "with the same figures and multipliers if any costs go down and any limits of loops from 1 up
-- go down, never below 1". A cost or limit may stay as well; everything else does: the other columns, the length of each column and the limit
-- of loop 0.
pub record Trimmed (old new : Routine) : Type 0 where
  pub others : new ≡ with_numbers old new.costs old.figures new.limits old.multipliers
  pub cost_count : length new.costs ≡ length old.costs
  pub limit_count : length new.limits ≡ length old.limits
  pub cheaper : (u : ℕ) → u < block_count old → cost new u ≤ cost old u
  pub tighter : (l : ℕ) → 1 ≤ l → l < loop_count old → (1 ≤ limit new l) × (limit new l ≤ limit old l)
  pub loop0_limit : limit new 0 ≡ limit old 0
