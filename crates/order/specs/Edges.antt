-- The forward edges, as they are read off the loop sets, and what the removal of one does to the counts and the queue: for functions that
-- are no public entry.
use Rattle.std.specs.Prelude.{ℕ, ◌+◌, ◌-◌, ◌≤◌, ◌<◌, ◌/◌, ◌%◌, ◌≡◌, Bool, not, ◌&&◌, List, eqb, length, get_or, set, Option, Some, None}
use Rattle.limits.specs.Limits.{most_blocks}
use Rattle.lists.specs.Search.{when◌then◌else◌, count_below}
use Rattle.wcet.specs.Table.{missing}
use Rattle.loopsets.specs.Sets.{member, set_at}

-- an edge from u to v is a back edge: whether u is inside the target's loop is read off its set
unfoldable pub back_by_sets : (sets loops headers : List ℕ) → ℕ → ℕ → Bool
back_by_sets sets loops headers u v = eqb (get_or headers (get_or loops v 0) 0) v && member (set_at sets (get_or loops u 0)) (get_or loops v 0)

-- the target of the forward edge from u to its successor v, and `missing` where the successor is missing or it is a back edge
unfoldable pub target_by_sets : (sets loops headers : List ℕ) → ℕ → ℕ → ℕ
target_by_sets sets loops headers u v = when back_by_sets sets loops headers u v then missing else v

-- a target, where there is one
abbrev pub named_target : ℕ → Option ℕ
named_target v = when eqb v missing then None else Some v

-- Edges have numbers, 2u from block u to its first successor and 2u + 1 to its second.
abbrev pub successor : (firsts seconds : List ℕ) → ℕ → ℕ
successor firsts seconds e = when eqb (e % 2) 0 then get_or firsts (e / 2) 0 else get_or seconds (e / 2) 0

unfoldable pub edge_target : (sets loops firsts seconds headers : List ℕ) → ℕ → ℕ
edge_target sets loops firsts seconds headers e = target_by_sets sets loops headers (e / 2) (successor firsts seconds e)

-- the counts of the edges below e that lead to each of n blocks
pub record Counted (ends : ℕ → ℕ) (n : ℕ) (counts : List ℕ) (e : ℕ) : Type 0 where
  pub size : length counts ≡ most_blocks
  pub each : (v : ℕ) → v < n → get_or counts v 0 ≡ count_below e (λ i. eqb (ends i) v)

-- one edge more leads to v, and what that requires
abbrev pub one_more : List ℕ → ℕ → List ℕ
one_more counts v = when eqb v missing then counts else set counts v (get_or counts v 0 + 1)

abbrev pub Countable : List ℕ → ℕ → Type 0
Countable counts v = (v ≡ missing → ⊥) → (v < most_blocks) × (get_or counts v 0 < 65535)

-- the first k places of a queue hold the blocks below n whose count is 0, each once
pub record Queue (counts queue : List ℕ) (n k : ℕ) : Type 0 where
  pub few : k ≤ n
  pub block : (j : ℕ) → j < k → get_or queue j 0 < n
  pub once : (i j : ℕ) → i < j → j < k → get_or queue i 0 ≡ get_or queue j 0 → ⊥
  pub clear : (j : ℕ) → j < k → get_or counts (get_or queue j 0) 0 ≡ 0
  pub all : (v : ℕ) → v < n → get_or counts v 0 ≡ 0 → (j : ℕ) × (j < k) × (get_or queue j 0 ≡ v)

-- an edge to v is removed
abbrev pub one_less : List ℕ → ℕ → List ℕ
one_less counts v = when eqb v missing then counts else set counts v (get_or counts v 0 - 1)

-- and was the last of those to v, which is taken then
abbrev pub last_to : List ℕ → ℕ → Bool
last_to counts v = not (eqb v missing) && eqb (get_or counts v 0 - 1) 0

abbrev pub queue_after : (counts queue : List ℕ) → ℕ → ℕ → List ℕ
queue_after counts queue k v = when last_to counts v then set queue k v else queue

abbrev pub count_after : (counts : List ℕ) → ℕ → ℕ → ℕ
count_after counts k v = when last_to counts v then k + 1 else k

-- what the removal of an edge to v requires, and what it leaves
abbrev pub Removable : (counts : List ℕ) → ℕ → ℕ → Type 0
Removable counts k v = (v ≡ missing → ⊥) → (v < most_blocks) × (0 < get_or counts v 0) × (k < most_blocks)

pub record Removed (counts queue : List ℕ) (k v : ℕ) (counts' queue' : List ℕ) (k' : ℕ) : Type 0 where
  pub counted : counts' ≡ one_less counts v
  pub queued : queue' ≡ queue_after counts queue k v
  pub taken : k' ≡ count_after counts k v
