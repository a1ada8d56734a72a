-- The test of a word, and what it says of the setting. Assumes nothing.
use mathlib.Core.Path.{◌≡◌, refl, sym, ◌∙◌}
use mathlib.Core.Bool.{Bool, true, false}
use mathlib.Core.List.{List}
use Prim.Native.Nat.{ℕ}
use Rattle.lists.proofs.Bytes.{same_true}
use Rattle.lists.specs.Bytes.{same}

-- what a comparison of the whole setting with a word tells
pub is_other : (s t : List ℕ) (r : Bool) → r ≡ false → (s ≡ t → r ≡ true) → same s t ≡ false
is_other s t r f h = go (same s t) refl
  where
    go : (x : Bool) → same s t ≡ x → x ≡ false
    go true e = sym (h (same_true s t e)) ∙ f
    go false e = refl
