-- The remade columns in numbers of any size: the multipliers from the highest loop down, each by those of the loops inside it; then the
-- figures, for each loop in its turn from loop 0 up.
use Rattle.std.specs.Prelude.{ℕ, zero, suc, ◌-◌, not, List, [], eqb, ℤ, pos, ◌+ℤ◌, ◌-ℤ◌, replicate, set}
use Rattle.std.proofs.Math.Option.{Option, none, some}
use Rattle.std.specs.Int.Signed.{lt_z}
use Rattle.lists.specs.Search.{when◌then◌else◌, tabulate}
use Rattle.wcet.specs.Table.{Routine, block_count, loop_count, header, multiplier, inside}
use Rattle.optimum.specs.Remade.{with_columns}
use Rattle.optimum.specs.Tails.{best, tail_by}

-- what is there, or else d
unfoldable pub or_default : {A : Type 0} → A → Option A → A
or_default d none = d
or_default d (some a) = a

-- the tails of t: where 209 is not broken, forward edges come to no block twice, so a path has fewer of them than there are blocks
abbrev pub tails : Routine → (l x : ℕ) → Option ℕ
tails t = tail_by t (block_count t)

-- ks with the multipliers of loops l down to 1 made, each the tail at its loop's header; "it is 0 if no round exists"
unfoldable pub multipliers_down : Routine → ℕ → List ℕ → List ℕ
multipliers_down t zero ks = ks
multipliers_down t (suc l) ks = multipliers_down t l (set ks (suc l) (or_default 0 (tails (with_columns t [] ks) (suc l) (header t (suc l)))))

-- of all loops; loop 0 has no round, and its multiplier stays 0
unfoldable pub remade_multipliers : Routine → List ℕ
remade_multipliers t = multipliers_down t (loop_count t - 1) (replicate (loop_count t) 0)

-- a figure by a tail k of loop 0
unfoldable pub from_exit : Option ℕ → Option ℤ
from_exit none = none
from_exit (some k) = some (pos k)

-- and by a tail k of another loop: tail k − multiplier m + the header's figure f
unfoldable pub from_header : ℕ → Option ℕ → Option ℤ → Option ℤ
from_header m none h = none
from_header m (some k) none = none
from_header m (some k) (some f) = some (pos k -ℤ pos m +ℤ f)

-- What x's figure must be at least, by the paths whose first back edge returns to l's header; for l = 0, by the paths to the exit without a
-- back edge. Loop l gives this in its turn, when the figure of its header is h.
unfoldable pub turn : Routine → ((l x : ℕ) → Option ℕ) → ℕ → ℕ → Option ℤ → Option ℤ
turn t tail l x h =
    when not (inside t x l) then none else
    when eqb l 0 then from_exit (tail l x) else
    when eqb x (header t l) then none else
    from_header (multiplier t l) (tail l x) h

-- x's figure when the loops below d have had their turns
unfoldable pub figure_by : Routine → ((l x : ℕ) → Option ℕ) → ℕ → ℕ → Option ℤ
figure_by t tail zero x = none
figure_by t tail (suc l) x = best lt_z (figure_by t tail l x) (turn t tail l x (figure_by t tail l (header t l)))

-- t with the remade multipliers
abbrev pub remultiplied : Routine → Routine
remultiplied t = with_columns t [] (remade_multipliers t)

-- the figures, 0 at a block that has none: it has no path to the exit (401)
unfoldable pub remade_figures : Routine → List ℤ
remade_figures t = tabulate (block_count t) (λ x. or_default (pos 0) (figure_by (remultiplied t) (tails (remultiplied t)) (loop_count t) x))

-- t with the remade columns
unfoldable pub remade : Routine → Routine
remade t = with_columns t (remade_figures t) (remade_multipliers t)
