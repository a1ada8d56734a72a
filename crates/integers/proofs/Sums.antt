-- Sums over the numbers below k, compared term by term in a direction. Assumes nothing.
use mathlib.Core.Path.{◌≡◌, refl, sym, subst₂}
use Prim.Native.Nat.{ℕ, zero, suc, ◌<◌}
use native.Mathlib.Decide.{ℕ_discrete}
use native.Mathlib.Omega.{arith}
use lib.IntN.{ℤ, pos, ◌+ℤ◌}
use Rattle.integers.proofs.Laws.{ints, sum}
use Rattle.integers.proofs.Direction.{Direction, add}

-- f 0 + .. + f (k − 1)
unfoldable pub sum_below : ℕ → (ℕ → ℤ) → ℤ
sum_below zero f = pos 0
sum_below (suc k) f = sum_below k f +ℤ f k

-- a sum of zeros
pub sum_zero : (k : ℕ) (f : ℕ → ℤ) → ((l : ℕ) → l < k → f l ≡ pos 0) → sum_below k f ≡ pos 0
unfolding sum_below
sum_zero zero f z = refl
sum_zero (suc k) f z = rw (sum_zero k f (λ l h. z l (omega arith)), z k (omega arith))

-- three summands regrouped, and the last two swapped
regroup : (x y z : ℤ) → x +ℤ (y +ℤ z) ≡ x +ℤ y +ℤ z
regroup x y z = omega (ints, sum y z, sum x (y +ℤ z), sum x y, sum (x +ℤ y) z)

exchange : (x y z : ℤ) → x +ℤ y +ℤ z ≡ x +ℤ z +ℤ y
exchange x y z = omega (ints, sum x y, sum (x +ℤ y) z, sum x z, sum (x +ℤ z) y)

module _ (R : ℤ → ℤ → Type 0) (O : Direction R) where
  pub sum_mono : (k : ℕ) (f g : ℕ → ℤ) → ((l : ℕ) → l < k → R (f l) (g l)) → R (sum_below k f) (sum_below k g)
  unfolding sum_below
  sum_mono zero f g h = O.same (pos 0)
  sum_mono (suc k) f g h = add R O (sum_below k f) (sum_below k g) (f k) (g k) (sum_mono k f g (λ l b. h l (omega arith))) (h k (omega arith))

  -- every term but the one at h is ordered, and that one with a and b added
  pub sum_but : (k : ℕ) (f g : ℕ → ℤ) (h : ℕ) (a b : ℤ) → h < k
      → ((l : ℕ) → l < k → (l ≡ h → ⊥) → R (f l) (g l)) → R (f h +ℤ a) (g h +ℤ b)
      → R (sum_below k f +ℤ a) (sum_below k g +ℤ b)
  unfolding sum_below
  sum_but zero f g h a b below others here = absurd (omega arith)
  sum_but (suc k) f g h a b below others here = go (ℕ_discrete h k) (λ b'. sum_but k f g h a b b' (λ l c ne. others l (omega arith) ne) here)
    where
      go : Dec (h ≡ k) → (h < k → R (sum_below k f +ℤ a) (sum_below k g +ℤ b)) → R (sum_below k f +ℤ f k +ℤ a) (sum_below k g +ℤ g k +ℤ b)
      go (yes e) rest =
          subst₂ R (regroup (sum_below k f) (f k) a) (regroup (sum_below k g) (g k) b)
          (add R O (sum_below k f) (sum_below k g) (f k +ℤ a) (g k +ℤ b) (sum_mono k f g (λ l c. others l (omega arith) (λ q. omega arith))) (rw e at here))
      go (no ne) rest =
          subst₂ R (exchange (sum_below k f) a (f k)) (exchange (sum_below k g) b (g k))
          (add R O (sum_below k f +ℤ a) (sum_below k g +ℤ b) (f k) (g k) (rest (omega arith)) (others k (omega arith) (λ q. ne (sym q))))
