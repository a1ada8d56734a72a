-- The weights before any multiplier is made: of each block its cost, then none at each header in its turn. Assumes nothing.
use Rattle.std.proofs.Common.{◌≡◌, refl, List, ℕ, zero, suc, ◌*◌, ◌-◌, ◌^◌, ◌≤◌, ◌<◌, arith, ℤ, pos, length, get_or, replicate}
use native.Mathlib.Nat.{mul-le-mul}
use Rattle.limits.specs.Limits.{most_blocks}
use Rattle.integers.proofs.Laws.{ints}
use Rattle.tails.specs.Words.{no_tail, Word, Low}
use Rattle.multipliers.specs.Columns.{HeadersClosed}

-- what a loop's later visits may take is below 2^56
pub later_most : (k b : ℕ) → k ≤ 2 ^ 40 → b ≤ 65535 → k * (b - 1) ≤ 2 ^ 40 * 65534
later_most k b h l = let less : b - 1 ≤ 65534 = omega arith in mul-le-mul h less

pub none_low : (n : ℕ) → Low (replicate n no_tail)
none_low zero i = record { least = omega ints; most = omega ints }
none_low (suc n) zero = record { least = omega ints; most = omega ints }
none_low (suc n) (suc i) = none_low n i

pub cost_word : (c : ℕ) → c < 2 ^ 32 → Word (pos c)
cost_word c h = record { least = omega ints; most = omega (ints, h) }

-- ---- costs

-- the blocks below i have their weights
pub record Weighing (costs : List ℕ) (weights : List ℤ) (i : ℕ) : Type 0 where
  pub size : length weights ≡ most_blocks
  pub low : Low weights
  pub each : (x : ℕ) → x < i → get_or weights x (pos 0) ≡ pos (get_or costs x 0)

module _ (costs : List ℕ) where
  pub weighing_first : Weighing costs (replicate most_blocks no_tail) 0
  weighing_first = record { size = refl; low = none_low most_blocks; each = λ x b. absurd (omega arith) }

-- ---- headers

-- the headers of the loops below i, loop 0 apart, have none
pub record Closing (costs headers : List ℕ) (weights : List ℤ) (i : ℕ) : Type 0 where
  pub size : length weights ≡ most_blocks
  pub low : Low weights
  pub closed : (l : ℕ) → 0 < l → l < i → get_or weights (get_or headers l 0) (pos 0) ≡ no_tail
  pub plain : (x : ℕ) → x < length costs → ((l : ℕ) → 0 < l → l < i → get_or headers l 0 ≡ x → ⊥) → get_or weights x (pos 0) ≡ pos (get_or costs x 0)

module _ (costs headers : List ℕ) where
  -- up to the last loop: with no loop there is nothing to close
  pub closing_all : (weights : List ℤ) (i : ℕ) → length headers ≤ i → Closing costs headers weights i → (1 < i → i ≤ length headers) → HeadersClosed costs headers weights
  closing_all weights i a W b = record {
    size = W.size;
    low = W.low;
    closed = λ l p k. W.closed l p (omega arith);
    plain = λ x k no. W.plain x k (λ l p j q. no l p (omega (arith, b)) q);
  }
