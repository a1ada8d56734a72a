-- What a pass requires and leaves, of every routine that it may be about: for functions that are no public entry.
use Rattle.std.specs.Prelude.{ℕ, ◌+◌, ◌^◌, ◌≤◌, ◌<◌, ◌≡◌, Bool, true, not, ◌&&◌, List, eqb, ltb, ℤ, pos, length, get_or}
use Rattle.std.proofs.Math.Option.{none, some}
use Rattle.limits.specs.Limits.{most_blocks}
use Rattle.lists.specs.Search.{when◌then◌else◌}
use Rattle.wcet.specs.Table.{Routine, block_count, loop_count, cost, loop_of, header, multiplier, inside, is_header}
use Rattle.wcet.specs.Rules.{structure_rules}
use Rattle.wcet.specs.Claim.{AllHold}
use Rattle.loopsets.specs.Sets.{sets_around}
use Rattle.order.specs.Ordering.{Topological}
use Rattle.levels.specs.Levels.{depth}
use Rattle.optimum.specs.Remade.{with_columns}
use Rattle.optimum.specs.Tails.{weight}
use Rattle.optimum.specs.Columns.{tails}
use Rattle.tails.specs.Words.{most_tail, no_tail, word_of, greater_of, cap, Low}
use Rattle.tails.specs.Slots.{nowhere, SlotsOf}

-- with some figures and multipliers t passes 201 to 207, and its own multipliers are in range
pub record Passed (t : Routine) : Type 0 where
  pub figures : List ℤ
  pub multipliers : List ℕ
  pub rules : AllHold (structure_rules (with_columns t figures multipliers))
  pub loop0_multiplier : multiplier t 0 ≡ 0
  pub multiplier_most : (l : ℕ) → l < loop_count t → multiplier t l ≤ 2 ^ 40

-- the gates after the loops below `length headers` are set for depth d, and the places before and after them
pub record GatesSet (costs headers depths : List ℕ) (d : ℕ) (old new : List ℤ) : Type 0 where
  pub size : length new ≡ length old
  pub gate : (l : ℕ) → l < length headers
      → get_or new (most_blocks + l) (pos 0) ≡ (when eqb (get_or depths l 0) d then (when eqb l 0 then pos 0 else pos (get_or costs (get_or headers l 0) 0)) else no_tail)
  pub rest : (i : ℕ) → (i < most_blocks) → get_or new i (pos 0) ≡ get_or old i (pos 0)
  pub after : (i : ℕ) → most_blocks + length headers ≤ i → get_or new i (pos 0) ≡ get_or old i (pos 0)

-- the weight of a block in the pass of depth d: none at the header of a loop, loop 0 apart, that is not deeper than d
unfoldable pub closed : Routine → ℕ → ℕ → Bool
closed t d x = is_header t x && not (eqb (loop_of t x) 0) && not (ltb d (depth t.parents (loop_of t x)))

pub record Weights (t : Routine) (d : ℕ) (weights : List ℤ) : Type 0 where
  pub says : (x : ℕ) → x < block_count t → word_of (get_or weights x (pos 0)) ≡ (when closed t d x then none else some (weight t x))

-- the gates of the loops of depth d are open, the others closed
pub record Gates (t : Routine) (d : ℕ) (values : List ℤ) : Type 0 where
  pub gate : (k : ℕ) → k < loop_count t
      → word_of (get_or values (most_blocks + k) (pos 0)) ≡ (when eqb (depth t.parents k) d then (when eqb k 0 then some 0 else some (cost t (header t k))) else none)
  pub empty : word_of (get_or values nowhere (pos 0)) ≡ none

-- what a pass of depth d over t is about
pub record PassOf (t : Routine) (d : ℕ) (sets : List ℕ) (weights : List ℤ) (firstSlots secondSlots order : List ℕ) (values : List ℤ) : Type 0 where
  pub passed : Passed t
  pub sets_around_lem : sets ≡ sets_around t.parents
  pub ordered : Topological t order
  pub first_slots : SlotsOf sets t.loops t.headers t.firsts firstSlots
  pub second_slots : SlotsOf sets t.loops t.headers t.seconds secondSlots
  pub weights_say : Weights t d weights
  pub gates : Gates t d values

-- the tail at x by the slots
abbrev pub tail_in : (firstSlots secondSlots : List ℕ) (values : List ℤ) → ℕ → ℤ
tail_in firstSlots secondSlots values x = greater_of (get_or values (get_or firstSlots x 0) (pos 0)) (get_or values (get_or secondSlots x 0) (pos 0))

-- the slots say the tails of the loops of depth d, up to the cap
abbrev pub TailsIn : Routine → ℕ → (firstSlots secondSlots : List ℕ) (values : List ℤ) → Type 0
TailsIn t d firstSlots secondSlots values =
    (x l : ℕ) → x < block_count t → l < loop_count t → inside t x l ≡ true → depth t.parents l ≡ d
    → word_of (tail_in firstSlots secondSlots values x) ≡ cap most_tail (tails t l x)

-- so after a pass over n blocks, of every routine and depth that it may be about; the gates stay as they are
pub record Filled (weights : List ℤ) (firstSlots secondSlots order : List ℕ) (n : ℕ) (old new : List ℤ) : Type 0 where
  pub size : length new ≡ length old
  pub low : Low new
  pub rest : (i : ℕ) → n ≤ i → get_or new i (pos 0) ≡ get_or old i (pos 0)
  pub says : (t : Routine) (d : ℕ) (sets : List ℕ) → block_count t ≡ n → PassOf t d sets weights firstSlots secondSlots order old
      → TailsIn t d firstSlots secondSlots new
