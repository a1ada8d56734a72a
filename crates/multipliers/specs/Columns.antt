-- The weights, the tails at headers and the multipliers after the loops of one depth, and of all: for functions that are no public entry.
use Rattle.std.specs.Prelude.{ℕ, ◌+◌, ◌*◌, ◌-◌, ◌^◌, ◌≤◌, ◌<◌, ◌≡◌, Bool, true, false, List, ℤ, pos, length, get_or}
use Rattle.limits.specs.Limits.{most_blocks, most_loops, most_depth}
use Rattle.wcet.specs.Table.{Routine, block_count, loop_count, header, inside}
use Rattle.wcet.specs.Rules.{structure_rules}
use Rattle.wcet.specs.Claim.{AllHold}
use Rattle.loopsets.specs.Sets.{sets_around}
use Rattle.order.specs.Ordering.{Topological}
use Rattle.levels.specs.Levels.{depth, Deep}
use Rattle.optimum.specs.Tails.{weight}
use Rattle.optimum.specs.Columns.{or_default, tails, remade_multipliers, remultiplied}
use Rattle.optimum.specs.Replies.{multiplier_over}
use Rattle.tails.specs.Words.{most_tail, no_tail, word_of, cap, Low}
use Rattle.tails.specs.Slots.{SlotsOf, Slotted}
use Rattle.tails.specs.Passes.{tail_in}

-- the weight of each block is its cost
pub record CostWeights (costs : List ℕ) (weights : List ℤ) : Type 0 where
  pub size : length weights ≡ most_blocks
  pub low : Low weights
  pub each : (x : ℕ) → x < length costs → get_or weights x (pos 0) ≡ pos (get_or costs x 0)

-- and none at the header of a loop, loop 0 apart
pub record HeadersClosed (costs headers : List ℕ) (weights : List ℤ) : Type 0 where
  pub size : length weights ≡ most_blocks
  pub low : Low weights
  pub closed : (l : ℕ) → 0 < l → l < length headers → get_or weights (get_or headers l 0) (pos 0) ≡ no_tail
  pub plain : (x : ℕ) → x < length costs → ((l : ℕ) → 0 < l → l < length headers → get_or headers l 0 ≡ x → ⊥) → get_or weights x (pos 0) ≡ pos (get_or costs x 0)

-- where the tail of a loop of depth d at the header of loop l is kept
abbrev pub kept_at : ℕ → ℕ → ℕ
kept_at l d = l * 16 + d - 1

-- the tails at the headers of the loops that are not less deep than d
pub record TailsKept (values : List ℤ) (firstSlots secondSlots headers depths : List ℕ) (d : ℕ) (old new : List ℤ) : Type 0 where
  pub size : length new ≡ most_blocks
  pub low : Low old → Low values → Low new
  pub kept : (l : ℕ) → l < length headers → d ≤ get_or depths l 0 → get_or new (kept_at l d) (pos 0) ≡ tail_in firstSlots secondSlots values (get_or headers l 0)
  pub rest : (i : ℕ) → ((l : ℕ) → l < length headers → i ≡ kept_at l d → ⊥) → get_or new i (pos 0) ≡ get_or old i (pos 0)

-- the round of loop l of depth d: the tail at its header, 0 where there is none
abbrev pub round_by : (kept : List ℤ) → ℕ → ℕ → ℕ
round_by kept d l = or_default 0 (word_of (get_or kept (kept_at l d) (pos 0)))

-- the loops of depth d have their multipliers and their headers' weights, the others keep theirs; unless one is over 2^40. No two loops have
-- one header (204).
pub record RoundsTaken (kept : List ℤ) (costs headers limits depths : List ℕ) (d : ℕ) (made : List ℕ) (weights : List ℤ) (over : Bool) (made' : List ℕ) (weights' : List ℤ) : Type 0 where
  pub made_size : length made' ≡ most_loops
  pub weights_size : length weights' ≡ most_blocks
  pub low : Low weights → Low weights'
  pub taken : over ≡ false → (l : ℕ) → l < length headers → get_or depths l 0 ≡ d → (get_or made' l 0 ≡ round_by kept d l) × (get_or made' l 0 ≤ 2 ^ 40)
  pub others : over ≡ false → (l : ℕ) → (get_or depths l 0 ≡ d → ⊥) → get_or made' l 0 ≡ get_or made l 0
  pub weighed : over ≡ false → ((k l : ℕ) → k < length headers → l < length headers → get_or headers k 0 ≡ get_or headers l 0 → k ≡ l)
      → (l : ℕ) → l < length headers → get_or depths l 0 ≡ d → get_or weights' (get_or headers l 0) (pos 0) ≡ pos (get_or costs (get_or headers l 0) 0 + get_or made' l 0 * (get_or limits l 0 - 1))
  pub other_weights : over ≡ false → (x : ℕ) → ((l : ℕ) → l < length headers → get_or depths l 0 ≡ d → get_or headers l 0 ≡ x → ⊥) → get_or weights' x (pos 0) ≡ get_or weights x (pos 0)
  pub high : over ≡ true → (l : ℕ) × (l < length headers) × (get_or depths l 0 ≡ d) × (2 ^ 40 < round_by kept d l)

-- what 201 to 205 ensure of the columns that are read
pub record Readied (costs headers limits : List ℕ) (deepest : ℕ) (firstSlots secondSlots order : List ℕ) : Type 0 where
  pub few_loops : length headers ≤ most_loops
  pub limits_size : length limits ≡ length headers
  pub deep : deepest ≤ most_depth
  pub slotted : Slotted (length costs) firstSlots secondSlots order
  pub cost_most : (x : ℕ) → x < length costs → get_or costs x 0 ≤ 1000000
  pub header_block : (l : ℕ) → l < length headers → get_or headers l 0 < length costs
  pub limit_least : (l : ℕ) → l < length headers → 1 ≤ get_or limits l 0
  pub limit_most : (l : ℕ) → l < length headers → get_or limits l 0 ≤ 65535

-- the multipliers, the weights by them and the tails at the headers of t, unless a multiplier is over 2^40
pub record MultipliedOf (t : Routine) (over : Bool) (made : List ℕ) (weights kept : List ℤ) : Type 0 where
  pub tested : over ≡ multiplier_over (remultiplied t)
  pub same : over ≡ false → (l : ℕ) → l < loop_count t → get_or made l 0 ≡ get_or (remade_multipliers t) l 0
  pub weighed : over ≡ false → (x : ℕ) → x < block_count t → get_or weights x (pos 0) ≡ pos (weight (remultiplied t) x)
  pub kept_tails : over ≡ false → (l j : ℕ) → l < loop_count t → j < loop_count t → inside t (header t l) j ≡ true
      → word_of (get_or kept (kept_at l (depth t.parents j)) (pos 0)) ≡ cap most_tail (tails (remultiplied t) j (header t l))

-- of every routine with these three columns that passes 201 to 207, if the depths, the slots and the order are its own
pub record Multiplied (costs headers limits depths : List ℕ) (deepest : ℕ) (firstSlots secondSlots order : List ℕ) (over : Bool) (made : List ℕ) (weights kept : List ℤ) : Type 0 where
  pub low : over ≡ false → (l : ℕ) → l < length headers → get_or made l 0 ≤ 2 ^ 40
  pub kept_low : Low kept
  pub says : (t : Routine) (sets : List ℕ) → t.costs ≡ costs → t.headers ≡ headers → t.limits ≡ limits → AllHold (structure_rules t) → sets ≡ sets_around t.parents
      → Deep t.parents depths deepest → Topological t order → SlotsOf sets t.loops t.headers t.firsts firstSlots
      → SlotsOf sets t.loops t.headers t.seconds secondSlots → MultipliedOf t over made weights kept
