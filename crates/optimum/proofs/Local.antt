-- What the arrays of the code satisfy when their passes are over: equations between neighbouring blocks. `Tailed`: each tail is what the
-- next blocks' tails give. `LocallyMade`: the multipliers and the figures are read off such tails. `Ranked`: an order in which the blocks
-- can be taken. Assumes nothing: these are definitions.
use Prim.Native.Nat.{ℕ, ◌<◌}
use mathlib.Core.Path.{◌≡◌}
use mathlib.Core.Bool.{true}
use mathlib.Core.Logic.{◌⊎◌}
use mathlib.Core.Option.{Option, none, some}
use lib.IntN.{ℤ, pos, ◌+ℤ◌, ◌-ℤ◌}
use lib.Signed.{◌≤ℤ◌}
use Rattle.wcet.specs.Table.{Routine, block_count, loop_count, figure, header, multiplier, inside}
use Rattle.wcet.specs.Cycles.{forward_edge}
use Rattle.optimum.specs.Tails.{tail_at}
use Rattle.optimum.specs.Columns.{figure_by}

-- the tails of every loop at every block inside it
abbrev pub Tailed : Routine → ((l x : ℕ) → Option ℕ) → Type 0
Tailed t tail = (l x : ℕ) → l < loop_count t → x < block_count t → inside t x l ≡ true → tail l x ≡ tail_at t l (tail l) x

-- x's figure is its tail to the exit, or, by a loop l around it of which it is not the header, its tail of l, less l's multiplier, and on
-- from l's header
abbrev pub FigureFrom : Routine → ((l x : ℕ) → Option ℕ) → ℕ → Type 0
FigureFrom t tail x =
    ((k : ℕ) × (tail 0 x ≡ some k) × (figure t x ≡ pos k))
    ⊎ ((l k : ℕ) × (0 < l) × (l < loop_count t) × (inside t x l ≡ true) × (x ≡ header t l → ⊥) × (tail l x ≡ some k)
    × (figure t x ≡ pos k -ℤ pos (multiplier t l) +ℤ figure t (header t l)))

-- the tails, the multipliers read off them, and the figures
pub record LocallyMade (t : Routine) : Type 0 where
  pub tail : (l x : ℕ) → Option ℕ
  pub tails : Tailed t tail
  -- the multiplier of loop l is the tail of l at its header, 0 where there is none
  pub some_round : (l k : ℕ) → 0 < l → l < loop_count t → tail l (header t l) ≡ some k → multiplier t l ≡ k
  pub no_round : (l : ℕ) → 0 < l → l < loop_count t → tail l (header t l) ≡ none → multiplier t l ≡ 0
  -- a figure is no less than either of these, by any loop
  pub to_exit : (x k : ℕ) → x < block_count t → tail 0 x ≡ some k → pos k ≤ℤ figure t x
  pub by_back_edge : (x l k : ℕ) → x < block_count t → 0 < l → l < loop_count t → inside t x l ≡ true → tail l x ≡ some k
      → (pos k -ℤ pos (multiplier t l) +ℤ figure t (header t l)) ≤ℤ figure t x
  -- and it is one of these
  pub from : (x : ℕ) → x < block_count t → FigureFrom t tail x

-- a rank that falls along every forward edge
pub record Ranked (t : Routine) : Type 0 where
  pub rank : ℕ → ℕ
  pub falls : (u v : ℕ) → u < block_count t → forward_edge t u v ≡ true → rank v < rank u

-- x gets a figure, when every loop has had its turn
abbrev pub HasFigure : Routine → ((l x : ℕ) → Option ℕ) → ℕ → Type 0
HasFigure t tail x = (f : ℤ) × (figure_by t tail (loop_count t) x ≡ some f)
