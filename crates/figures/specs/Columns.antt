-- The figures of the headers after the loops of one level and of all, and the figures of all blocks: for functions that are no public entry.
use Rattle.std.specs.Prelude.{ℕ, ◌+◌, ◌*◌, ◌-◌, ◌^◌, ◌≤◌, ◌<◌, ◌≡◌, Bool, true, false, List, eqb, ltb, ℤ, pos, neg_ℤ, ◌+ℤ◌, ◌-ℤ◌, length, get_or, ◌≤ℤ◌, ◌<ℤ◌}
use Rattle.std.proofs.Math.Option.{Option, none, some}
use Rattle.std.specs.Int.Signed.{lt_z}
use Rattle.limits.specs.Limits.{most_blocks, most_loops, most_depth}
use Rattle.lists.specs.Search.{when◌then◌else◌}
use Rattle.wcet.specs.Table.{Routine, block_count, loop_count, cost, header}
use Rattle.wcet.specs.Rules.{structure_rules, figure_outside}
use Rattle.wcet.specs.Claim.{AllHold}
use Rattle.loopsets.specs.Sets.{Parents}
use Rattle.levels.specs.Levels.{no_loop, Deep}
use Rattle.optimum.specs.Tails.{best}
use Rattle.optimum.specs.Remade.{AllPaths}
use Rattle.optimum.specs.Columns.{tails, figure_by, remade_multipliers, remultiplied, remade_figures, remade}
use Rattle.optimum.specs.Replies.{figure_over}
use Rattle.tails.specs.Words.{word_of, greater_of, Low}
use Rattle.tails.specs.Slots.{nowhere}
use Rattle.multipliers.specs.Columns.{kept_at, MultipliedOf}
use Rattle.figures.specs.Figures.{no_figure, figure_of, turn_of}

-- ---- the figures of the headers

-- what a level of depth d gives to the figure of l's header, none where l is inside no loop of it; and the figure then
abbrev pub turn_by : (kept : List ℤ) (made level : List ℕ) (d : ℕ) (heads : List ℤ) → ℕ → Option ℤ
turn_by kept made level d heads l =
    when eqb (get_or level l 0) no_loop then none else
    turn_of (eqb (get_or level l 0) 0) (eqb l (get_or level l 0)) (get_or made (get_or level l 0) 0) (word_of (get_or kept (kept_at l d) (pos 0))) (figure_of (get_or heads (get_or level l 0) (pos 0)))

unfoldable pub filled_by : (kept : List ℤ) (made level : List ℕ) (d : ℕ) (heads : List ℤ) → ℕ → Option ℤ
filled_by kept made level d heads l = best lt_z (figure_of (get_or heads l (pos 0))) (turn_by kept made level d heads l)

-- a figure is not below −b, if it is one, and not over 2^60; a word that is none is not below −2^62
pub record Bounded (b : ℕ) (z : ℤ) : Type 0 where
  pub most : z ≤ℤ pos (2 ^ 60)
  pub least : no_figure ≤ℤ z
  pub figure_least : neg_ℤ (pos (2 ^ 61)) ≤ℤ z → neg_ℤ (pos b) ≤ℤ z

-- what the turn of a level of depth d requires: its loops are loops of m, each in its own place; the figures so far are not below −2^40 for each
-- depth before d
pub record Turnable (made level : List ℕ) (d m : ℕ) (heads : List ℤ) : Type 0 where
  pub few : m ≤ most_loops
  pub deep : (1 ≤ d) × (d ≤ most_depth)
  pub size : length heads ≡ most_loops
  pub chosen : (l : ℕ) → l < m → (get_or level l 0 ≡ no_loop → ⊥) → get_or level l 0 < m
  pub own : (l : ℕ) → l < m → (get_or level l 0 ≡ no_loop → ⊥) → get_or level (get_or level l 0) 0 ≡ get_or level l 0
  pub multiplier_most : (l : ℕ) → l < m → get_or made l 0 ≤ 2 ^ 40
  pub bounded : (l : ℕ) → l < m → Bounded (2 ^ 40 * (d - 1)) (get_or heads l (pos 0))

-- the figures when the loops of a level have had their turn, unless one of them is over 2^60
pub record Turned (kept : List ℤ) (made level : List ℕ) (d m : ℕ) (old : List ℤ) (over : Bool) (new : List ℤ) : Type 0 where
  pub size : length new ≡ most_loops
  pub same : over ≡ false → (l : ℕ) → l < m → figure_of (get_or new l (pos 0)) ≡ filled_by kept made level d old l
  pub bounded : over ≡ false → (l : ℕ) → l < m → Bounded (2 ^ 40 * d) (get_or new l (pos 0))
  pub high : over ≡ true → (l : ℕ) × (l < m) × ((f : ℤ) × (filled_by kept made level d old l ≡ some f) × (pos (2 ^ 60) <ℤ f))

pub record HeadsReadied (parents : List ℕ) (kept : List ℤ) (made depths : List ℕ) (deepest : ℕ) : Type 0 where
  pub some_loop : 0 < length parents
  pub few_loops : length parents ≤ most_loops
  pub parents_below : Parents parents
  pub deep : Deep parents depths deepest
  pub few_depths : deepest ≤ most_depth
  pub kept_low : Low kept
  pub multiplier_most : (l : ℕ) → l < length parents → get_or made l 0 ≤ 2 ^ 40

-- the figures of the headers of t, by its remade multipliers, unless one of them is over 2^60
pub record HeadsFigured (t : Routine) (over : Bool) (heads : List ℤ) : Type 0 where
  pub same : over ≡ false → (l : ℕ) → l < loop_count t → figure_of (get_or heads l (pos 0)) ≡ figure_by (remultiplied t) (tails (remultiplied t)) (loop_count t) (header t l)
  pub high : over ≡ true → (l : ℕ) × (l < loop_count t) × ((f : ℤ) × (figure_by (remultiplied t) (tails (remultiplied t)) (loop_count t) (header t l) ≡ some f) × (pos (2 ^ 60) <ℤ f))

-- of every routine with these parents that passes 201 to 207 and has these tails and multipliers
pub record HeadsOf (parents : List ℕ) (kept : List ℤ) (made : List ℕ) (over : Bool) (heads : List ℤ) : Type 0 where
  pub size : length heads ≡ most_loops
  pub bounded : over ≡ false → (l : ℕ) → l < length parents → Bounded (2 ^ 40 * most_depth) (get_or heads l (pos 0))
  pub says : (t : Routine) (weights : List ℤ) → t.parents ≡ parents → AllHold (structure_rules t) → MultipliedOf t false made weights kept → HeadsFigured t over heads

-- ---- the figures of all blocks

-- the gates, and the places before and after them
pub record GatesSet (costs headers made : List ℕ) (heads old new : List ℤ) : Type 0 where
  pub size : length new ≡ length old
  pub exit_gate : get_or new most_blocks (pos 0) ≡ pos 0
  pub gate : (l : ℕ) → 0 < l → l < length headers
      → get_or new (most_blocks + l) (pos 0) ≡ pos (get_or costs (get_or headers l 0) 0) -ℤ pos (get_or made l 0) +ℤ get_or heads l (pos 0)
  pub rest : (i : ℕ) → i < most_blocks → get_or new i (pos 0) ≡ get_or old i (pos 0)
  pub after : (i : ℕ) → most_blocks + length headers ≤ i → most_blocks < i → get_or new i (pos 0) ≡ get_or old i (pos 0)

-- the value in slot s by the figures F: a block's figure and weight, or a gate
abbrev pub slot_value : (F : ℕ → ℤ) (n : ℕ) (weights gates : List ℤ) → ℕ → ℤ
slot_value F n weights gates s = when ltb s n then F s +ℤ get_or weights s (pos 0) else get_or gates s (pos 0)

-- F are figures of n blocks by these slots
abbrev pub Equations : (F : ℕ → ℤ) (n : ℕ) (weights : List ℤ) (firstSlots secondSlots : List ℕ) (gates : List ℤ) → Type 0
Equations F n weights firstSlots secondSlots gates =
    (x : ℕ) → x < n → F x ≡ greater_of (slot_value F n weights gates (get_or firstSlots x 0)) (slot_value F n weights gates (get_or secondSlots x 0))

-- the slots of a block that are blocks stand after it in the order
pub record Forward (n : ℕ) (firstSlots secondSlots order : List ℕ) : Type 0 where
  pub position : ℕ → ℕ
  pub within : (u : ℕ) → u < n → position u < n
  pub there : (u : ℕ) → u < n → get_or order (position u) 0 ≡ u
  pub index : (i : ℕ) → i < n → position (get_or order i 0) ≡ i
  pub first_later : (x : ℕ) → x < n → get_or firstSlots x 0 < n → position x < position (get_or firstSlots x 0)
  pub second_later : (x : ℕ) → x < n → get_or secondSlots x 0 < n → position x < position (get_or secondSlots x 0)

-- a pass makes the only such figures, unless one of them is outside −2^60 to 2^60
pub record FiguresFilled (weights : List ℤ) (firstSlots secondSlots order : List ℕ) (n : ℕ) (gates : List ℤ) (outside : Bool) (figures : List ℤ) : Type 0 where
  pub size : length figures ≡ most_blocks
  pub within : outside ≡ false → Forward n firstSlots secondSlots order → (x : ℕ) → x < n → figure_outside (get_or figures x (pos 0)) ≡ false
  pub made : outside ≡ false → Forward n firstSlots secondSlots order → Equations (λ x. get_or figures x (pos 0)) n weights firstSlots secondSlots gates
  pub only : outside ≡ false → Forward n firstSlots secondSlots order → (F : ℕ → ℤ) → Equations F n weights firstSlots secondSlots gates → (x : ℕ) → x < n → get_or figures x (pos 0) ≡ F x
  pub high : outside ≡ true → Forward n firstSlots secondSlots order → (F : ℕ → ℤ) → Equations F n weights firstSlots secondSlots gates → (x : ℕ) × (x < n) × (figure_outside (F x) ≡ true)

-- some remade figure of t is over 2^60
abbrev pub FigureHigh : Routine → Type 0
FigureHigh t = (x : ℕ) × (x < block_count t) × (pos (2 ^ 60) <ℤ get_or (remade_figures t) x (pos 0))

-- the gates of t by its remade columns: what a back edge to the header of each loop asks for, and 0 for the exit
pub record GatesOf (t : Routine) (gates : List ℤ) : Type 0 where
  pub exit_gate : get_or gates most_blocks (pos 0) ≡ pos 0
  pub gate : (l : ℕ) → 0 < l → l < loop_count t
      → get_or gates (most_blocks + l) (pos 0) ≡ pos (cost t (header t l)) -ℤ pos (get_or (remade_multipliers t) l 0) +ℤ get_or (remade_figures t) (header t l) (pos 0)
  pub empty : get_or gates nowhere (pos 0) ≡ no_figure

-- the remade figures of t, which has a path to the exit from each block; unless one of them is outside the limits or there is none
pub record FiguredOf (t : Routine) (outside : Bool) (figures : List ℤ) : Type 0 where
  pub paths : outside ≡ false → AllPaths t
  pub same : outside ≡ false → (x : ℕ) → x < block_count t → get_or figures x (pos 0) ≡ get_or (remade_figures t) x (pos 0)
  pub tested : AllPaths t → outside ≡ figure_over (remade t)
