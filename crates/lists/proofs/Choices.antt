-- A choice by a test, and a row of alternatives, where the code has made the test. Assumes nothing.
use mathlib.Core.Path.{◌≡◌, sym, ◌∙◌}
use mathlib.Core.Bool.{Bool, true, false, cond, ◌||◌}
use Prim.Native.Nat.{ℕ}
use borrow.Author.Tests.{eq-eqb, ne_eqb}
use lib.Dec.{eqb}

module _ {A : Type 0} {r : A} (x y : A) where
  -- f is what a function answered
  pub chosen : {f : Bool} (t : Bool) → f ≡ t → f ≡ true → r ≡ x → r ≡ cond t x y
  chosen t p q e = rw (sym p ∙ q) e

  pub passed_by : {f : Bool} (t : Bool) → f ≡ t → f ≡ false → r ≡ y → r ≡ cond t x y
  passed_by t p q e = rw (sym p ∙ q) e

  -- the flag itself
  pub is_set : {t : Bool} → t ≡ true → r ≡ x → r ≡ cond t x y
  is_set q e = rw q e

  pub is_clear : {t : Bool} → t ≡ false → r ≡ y → r ≡ cond t x y
  is_clear q e = rw q e

  pub equal : (a b : ℕ) → a ≡ b → r ≡ x → r ≡ cond (eqb a b) x y
  equal a b q e = rw (eq-eqb a b q) e

  pub unequal : (a b : ℕ) → (a ≡ b → ⊥) → r ≡ y → r ≡ cond (eqb a b) x y
  unequal a b q e = rw (ne_eqb a b q) e

-- the first of several alternatives, or one of the others
module _ (u : Bool) where
  pub first_of : {f : Bool} (t : Bool) → f ≡ t → f ≡ true → true ≡ (t || u)
  first_of t p q = rw (sym p ∙ q)

  pub later_of : {f r : Bool} (t : Bool) → f ≡ t → f ≡ false → r ≡ u → r ≡ (t || u)
  later_of t p q e = rw (sym p ∙ q) e

  pub first_equal : (a b : ℕ) → a ≡ b → true ≡ (eqb a b || u)
  first_equal a b q = rw (eq-eqb a b q)

  pub later_equal : {r : Bool} (a b : ℕ) → (a ≡ b → ⊥) → r ≡ u → r ≡ (eqb a b || u)
  later_equal a b q e = rw (ne_eqb a b q) e

-- every way through nested choices, and through a row of alternatives
pub ruleset choices = (chosen, passed_by, is_set, is_clear, equal, unequal)

pub ruleset alternatives = (first_of, later_of, first_equal, later_equal)
