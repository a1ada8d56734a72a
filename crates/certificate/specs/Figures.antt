-- The range of a figure: for functions that are no public entry.
use Rattle.std.specs.Prelude.{◌^◌, ℤ, pos, neg_ℤ, ◌≤ℤ◌}

-- 203: from −2^60 to 2^60
pub record Figure (z : ℤ) : Type 0 where
  pub least : neg_ℤ (pos (2 ^ 60)) ≤ℤ z
  pub most : z ≤ℤ pos (2 ^ 60)
