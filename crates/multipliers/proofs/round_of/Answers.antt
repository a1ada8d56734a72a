use Rattle.std.proofs.Common.{◌≡◌, refl, ◌∙◌, ℕ, ℤ, pos, negsuc, nat_abs, Result, Ok, Err, OkIff, FitsSigned}
use mir.Syntax.{w64}
use Rattle.integers.proofs.Laws.{ints, size}
use mir.Facts.{to_z-of_z}
use Rattle.std.specs.Result.{result_unwrap_or}
use Rattle.std.specs.Int.{FitsUnsignedBits}
use Rattle.optimum.specs.Columns.{or_default}
use Rattle.tails.specs.Words.{word_of}
use Rattle.multipliers.proofs.round_of.Goals as goal

-- a word that is a number without a sign is its tail
is_round : {E : Type 0} (w : ℤ) (r : Result ℕ E) → FitsSigned w64 w → OkIff r (FitsUnsignedBits 64 w) (nat_abs w) → result_unwrap_or r 0 ≡ or_default 0 (word_of w)
unfolding or_default word_of
is_round (pos k) (Ok x) f h = h.1
is_round (pos k) (Err e) f h = absurd (h (omega (ints, size (pos k))))
is_round (negsuc k) (Ok x) f h = absurd h.0
is_round (negsuc k) (Err e) f h = refl

pub returns : goal.returns
returns c = c.unwrap_or.ensures ∙ is_round c.args.w c.try_from.result c.ranges.w (rw (to_z-of_z c.ranges.w) at c.try_from.ensures)
