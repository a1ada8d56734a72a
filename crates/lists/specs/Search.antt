-- The choice by a test, searches over the numbers 0 to k − 1, and the list of what a function gives for them.
use Rattle.std.specs.Prelude.{ℕ, zero, suc, ◌+◌, max, Bool, false, cond, ◌||◌, List, [], ◌∷◌, Option, Some, None}

infixr 1 when◌then◌else◌
-- the choice by a test
abbrev pub when◌then◌else◌ {ℓ} : {A : Type ℓ} → Bool → A → A → A
when b then x else y = cond b x y

-- some number below k passes the test p
unfoldable pub any_below : ℕ → (ℕ → Bool) → Bool
any_below zero p = false
any_below (suc k) p = any_below k p || p k

-- how many numbers below k pass the test p
unfoldable pub count_below : ℕ → (ℕ → Bool) → ℕ
count_below zero p = 0
count_below (suc k) p = count_below k p + (when p k then 1 else 0)

-- the greatest of f 0 to f (k − 1), and 0 where k is 0
unfoldable pub greatest_below : ℕ → (ℕ → ℕ) → ℕ
greatest_below zero f = 0
greatest_below (suc k) f = max (greatest_below k f) (f k)

-- the first of two answers, if it is there, and else the second
abbrev pub or_else : Option ℕ → Option ℕ → Option ℕ
or_else (Some i) o = Some i
or_else None o = o

-- the lowest number below k that passes the test p
unfoldable pub first_below : ℕ → (ℕ → Bool) → Option ℕ
first_below zero p = None
first_below (suc k) p = or_else (first_below k p) (when p k then Some k else None)

-- the list of f 0 to f (k − 1)
unfoldable pub tabulate {ℓ} : {A : Type ℓ} → ℕ → (ℕ → A) → List A
tabulate zero f = []
tabulate (suc k) f = f 0 ∷ tabulate k (λ i. f (suc i))
