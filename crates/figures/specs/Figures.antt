-- Figures in signed words of 64 bits, none among them: what a word says, and what a loop gives to the figure of a header.
use Rattle.std.specs.Prelude.{ℕ, ◌+◌, ◌^◌, Bool, List, ℤ, pos, neg_ℤ, get_or, ◌≤ℤ◌}
use Rattle.std.proofs.Math.Option.{Option, none, some}
use Rattle.std.specs.Int.Signed.{lt_z}
use Rattle.lists.specs.Search.{when◌then◌else◌}
use Rattle.optimum.specs.Columns.{from_exit, from_header}

-- a figure, and none below −2^61
unfoldable pub figure_of : ℤ → Option ℤ
figure_of z = when lt_z z (neg_ℤ (pos (2 ^ 61))) then none else some z

abbrev pub no_figure : ℤ
no_figure = neg_ℤ (pos (2 ^ 62))

-- a figure, if it is one, from −2^60 to 2^60
pub record Known (z : ℤ) : Type 0 where
  pub most_figure : z ≤ℤ pos (2 ^ 60)
  pub least_figure : neg_ℤ (pos (2 ^ 61)) ≤ℤ z → neg_ℤ (pos (2 ^ 60)) ≤ℤ z

-- what a loop with multiplier k gives to the figure of a header inside it, by the header's tail and the figure h of the loop's own header: the loop
-- is loop 0 or not, the header is the loop's own or not
unfoldable pub turn_of : (whole own : Bool) (k : ℕ) → Option ℕ → Option ℤ → Option ℤ
turn_of whole own k tail h =
    when whole then from_exit tail else
    when own then none else
    from_header k tail h

-- ranges that keep the sums of a pass within 64 bits
pub record HeadFits (z : ℤ) : Type 0 where
  pub head_least : no_figure ≤ℤ z
  pub head_most : z ≤ℤ pos (2 ^ 60)

abbrev pub ValuesFit : List ℤ → Type 0
ValuesFit values = (i : ℕ) → (neg_ℤ (pos (2 ^ 62 + 2 ^ 41)) ≤ℤ get_or values i (pos 0)) × (get_or values i (pos 0) ≤ℤ pos (2 ^ 61))

pub record WeightFits (w : ℤ) : Type 0 where
  pub weight_least : pos 0 ≤ℤ w
  pub weight_most : w ≤ℤ pos (2 ^ 57)
