-- The slots of the edges, read off the loop sets.
use Rattle.std.specs.Prelude.{ℕ, ◌+◌, ◌-◌, ◌≤◌, ◌<◌, ◌≡◌, List, eqb, length, get_or}
use Rattle.limits.specs.Limits.{most_blocks}
use Rattle.lists.specs.Search.{when◌then◌else◌}
use Rattle.wcet.specs.Table.{missing}
use Rattle.order.specs.Edges.{back_by_sets}

-- a place for each block, from most_blocks up a gate for each loop, and one that is always empty
abbrev pub places : ℕ
places = 1089

abbrev pub nowhere : ℕ
nowhere = 1088

-- the slot of the edge from x to v: v's place, or the gate of the loop that it returns to
unfoldable pub slot_by_sets : (sets loops headers : List ℕ) → ℕ → ℕ → ℕ
slot_by_sets sets loops headers x v =
    when eqb v missing then nowhere else
    when back_by_sets sets loops headers x v then most_blocks + get_or loops v 0 else
    v

-- the slots of the edges to these successors; the exit, from which no edge leads on, has the gate of loop 0
pub record SlotsOf (sets loops headers next slots : List ℕ) : Type 0 where
  pub size : length slots ≡ most_blocks
  pub at_exit : get_or slots (length loops - 1) 0 ≡ most_blocks
  pub each : (x : ℕ) → x < length loops → (x ≡ length loops - 1 → ⊥) → get_or slots x 0 ≡ slot_by_sets sets loops headers x (get_or next x 0)

-- n blocks in an order, each with two slots
pub record Slotted (n : ℕ) (firsts seconds order : List ℕ) : Type 0 where
  pub few : n ≤ most_blocks
  pub block : (i : ℕ) → i < n → get_or order i 0 < n
  pub first_place : (x : ℕ) → x < n → get_or firsts x 0 < places
  pub second_place : (x : ℕ) → x < n → get_or seconds x 0 < places
