-- A cap on each number keeps the sums and the greater of two (`more_capped_lem`, `best_capped`). Assumes nothing.
use Rattle.std.proofs.Common.{◌≡◌, refl, ap, Bool, true, false, ℕ, min, arith, ltb}
use mathlib.Core.Option.{Option, none, some}
use borrow.Author.Tests.{ltb-true, ltb-false}
use Rattle.lists.specs.Search.{when◌then◌else◌}
use Rattle.optimum.specs.Tails.{best, more}
use Rattle.tails.specs.Words.{cap, more_capped}

module _ (k : ℕ) where
  pub more_capped_lem : (c : ℕ) (o : Option ℕ) → more_capped k (some c) (cap k o) ≡ cap k (more c o)
  unfolding more_capped cap more
  more_capped_lem c none = refl
  more_capped_lem c (some a) = ap some (omega arith)

  pub more_none : (o : Option ℕ) → more_capped k o none ≡ none
  unfolding more_capped
  more_none none = refl
  more_none (some c) = refl

  pub best_capped : (a b : Option ℕ) → best ltb (cap k a) (cap k b) ≡ cap k (best ltb a b)
  unfolding best cap
  best_capped none b = refl
  best_capped (some a) none = refl
  best_capped (some a) (some b) = go (ltb a b) (ltb (min k a) (min k b)) refl refl
    where
      go : (p q : Bool) → ltb a b ≡ p → ltb (min k a) (min k b) ≡ q → (when q then some (min k b) else some (min k a)) ≡ cap k (when p then some b else some a)
      go true true p q = refl
      go true false p q = ap some (omega (arith, ltb-true a b p, ltb-false (min k a) (min k b) q))
      go false true p q = ap some (omega (arith, ltb-false a b p, ltb-true (min k a) (min k b) q))
      go false false p q = refl
