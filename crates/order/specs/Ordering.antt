-- What the ordering of the blocks ensures, and what follows where it has all of them.
use Rattle.std.specs.Prelude.{ℕ, ◌≤◌, ◌<◌, ◌≡◌, ◌↔◌, true, List, ℤ, length, get_or}
use Rattle.limits.specs.Limits.{most_blocks}
use Rattle.wcet.specs.Table.{Routine, block_count}
use Rattle.wcet.specs.Cycles.{forward_edge, ClosedWalk}
use Rattle.wcet.specs.Rules.{structure_rules}
use Rattle.wcet.specs.Claim.{AllHold}
use Rattle.loopsets.specs.Sets.{sets_around}
use Rattle.nesting.specs.Columns.{routine}
use Rattle.order.specs.declared.Order.{Order}

-- block u stands in one of the first k places
abbrev pub StandsBefore : (order : List ℕ) → ℕ → ℕ → Type 0
StandsBefore order k u = (i : ℕ) × (i < k) × (get_or order i 0 ≡ u)

-- The first `count` places hold different blocks, and every forward edge into one of them comes from a block that stands earlier. No more
-- blocks have such a place: one that only these lead to is one of them. So which blocks they are and how many is fixed; they are all blocks
-- exactly where there is no closed walk of forward edges. Left free is which of the possible orders it is, and what the later places hold.
pub record Ordering (t : Routine) (r : Order) : Type 0 where
  pub size : length r.blocks ≡ most_blocks
  pub few : r.count ≤ block_count t
  pub block : (i : ℕ) → i < r.count → get_or r.blocks i 0 < block_count t
  pub once : (i j : ℕ) → i < j → j < r.count → get_or r.blocks i 0 ≡ get_or r.blocks j 0 → ⊥
  pub earlier : (u j : ℕ) → u < block_count t → j < r.count → forward_edge t u (get_or r.blocks j 0) ≡ true → StandsBefore r.blocks j u
  pub most : (v : ℕ) → v < block_count t → ((u : ℕ) → u < block_count t → forward_edge t u v ≡ true → StandsBefore r.blocks r.count u)
      → StandsBefore r.blocks r.count v
  pub all : (r.count ≡ block_count t) ↔ (ClosedWalk t → ⊥)

-- It holds of every routine with these four columns, whatever the other five are, if it passes 201 to 207 and the sets are those of its
-- parents. Of other inputs nothing is ensured of the result.
abbrev pub Orders : (sets loops firsts seconds headers : List ℕ) → Order → Type 0
Orders sets loops firsts seconds headers r =
    (costs : List ℕ) (figures : List ℤ) (parents limits multipliers : List ℕ)
    → AllHold (structure_rules (routine costs loops firsts seconds figures parents headers limits multipliers)) → sets ≡ sets_around parents
    → Ordering (routine costs loops firsts seconds figures parents headers limits multipliers) r

-- A topological order of all blocks by the forward edges: what an ordering that has all blocks is (`topological` in proofs/Orders).
pub record Topological (t : Routine) (order : List ℕ) : Type 0 where
  pub position : ℕ → ℕ
  pub within : (u : ℕ) → u < block_count t → position u < block_count t
  pub there : (u : ℕ) → u < block_count t → get_or order (position u) 0 ≡ u
  pub block : (i : ℕ) → i < block_count t → get_or order i 0 < block_count t
  pub index : (i : ℕ) → i < block_count t → position (get_or order i 0) ≡ i
  pub rises : (u v : ℕ) → u < block_count t → forward_edge t u v ≡ true → position u < position v
