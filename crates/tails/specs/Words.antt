-- Tails in signed words of 64 bits that stop at a cap: what a word says.
use Rattle.std.specs.Prelude.{ℕ, ◌+◌, ◌^◌, min, List, ℤ, pos, negsuc, get_or, ◌≤ℤ◌}
use Rattle.std.proofs.Math.Option.{Option, none, some}
use Rattle.std.specs.Int.Signed.{lt_z}
use Rattle.lists.specs.Search.{when◌then◌else◌}

-- The cap. It is over the limits of a multiplier (2^40) and of a figure (2^60), whatever is taken off it: what is at the cap is refused.
abbrev pub most_tail : ℕ
most_tail = 2 ^ 61

-- the word for no tail
abbrev pub no_tail : ℤ
no_tail = negsuc 0

-- what a word says: a tail is its number, and a number below 0 is no tail
unfoldable pub word_of : ℤ → Option ℕ
word_of (pos k) = some k
word_of (negsuc k) = none

-- the greater of two
unfoldable pub greater_of : ℤ → ℤ → ℤ
greater_of a b = when lt_z a b then b else a

-- k for each number over k
unfoldable pub cap : ℕ → Option ℕ → Option ℕ
cap k none = none
cap k (some a) = some (min k a)

-- the sum of two, in numbers up to k; none where either is none
unfoldable pub more_capped : ℕ → Option ℕ → Option ℕ → Option ℕ
more_capped k none o = none
more_capped k (some c) none = none
more_capped k (some c) (some a) = some (min k (min k c + a))

-- a word is not below −1 and not over the cap
pub record Word (w : ℤ) : Type 0 where
  pub least : no_tail ≤ℤ w
  pub most : w ≤ℤ pos most_tail

abbrev pub Low : List ℤ → Type 0
Low words = (i : ℕ) → Word (get_or words i (pos 0))
