use lib.Count.{trailing_le}
use Prim.Native.Nat.{ℕ, ◌^◌, ◌≤◌, ◌<◌}
use native.Mathlib.Omega.{arith}
use Rattle.bits.proofs.Laws.{trailing_present, trailing_lower}
use Rattle.loopsets.specs.Sets.{member}
use Rattle.loopsets.proofs.LoopSet.lowest.Goals as goal

-- a count of zeros fits: which word they are counted in shows in the result
small : (n : ℕ) → n ≤ 64 → n < 2 ^ 64
small n h = omega arith

pub overflow_cast-result : goal.overflow_cast-result
overflow_cast-result c = record { fits = small _ (trailing_le 64 _) }

pub returns : goal.returns
unfolding member
returns c = let s = c.args.self.word in
    record { within = trailing_le 64 s; present = trailing_present 64 s; lower = trailing_lower 64 s }
