-- A direction of comparison: a preorder on ℤ that a sum keeps. What is proved over a direction holds of upper and of lower bounds.
-- Assumes nothing.
use mathlib.Core.Path.{subst₂}
use lib.IntN.{ℤ, ◌+ℤ◌, +ℤ_comm}
use lib.Signed.{◌≤ℤ◌}
use Rattle.integers.proofs.Laws.{ints, sum}

pub record Direction (R : ℤ → ℤ → Type 0) : Type 0 where
  pub same : (a : ℤ) → R a a
  pub trans : (a b c : ℤ) → R a b → R b c → R a c
  pub shift : (a b c : ℤ) → R a b → R (a +ℤ c) (b +ℤ c)

pub at_most : Direction ◌≤ℤ◌
at_most = record {
  same = λ a. omega ints;
  trans = λ a b c h k. omega ints;
  shift = λ a b c h. omega (ints, sum a c, sum b c);
}

-- and the other way
abbrev pub AtLeast : ℤ → ℤ → Type 0
AtLeast a b = b ≤ℤ a

pub at_least : Direction AtLeast
at_least = record {
  same = λ a. omega ints;
  trans = λ a b c h k. omega ints;
  shift = λ a b c h. omega (ints, sum a c, sum b c);
}

module _ (R : ℤ → ℤ → Type 0) (O : Direction R) where
  pub shift_left : (a b c : ℤ) → R a b → R (c +ℤ a) (c +ℤ b)
  shift_left a b c h = subst₂ R (+ℤ_comm a c) (+ℤ_comm b c) (O.shift a b c h)

  pub add : (a b c d : ℤ) → R a b → R c d → R (a +ℤ c) (b +ℤ d)
  add a b c d h k = O.trans (a +ℤ c) (b +ℤ c) (b +ℤ d) (O.shift a b c h) (shift_left c d b k)
