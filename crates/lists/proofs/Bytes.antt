-- Comparing lists of bytes. Assumes nothing.
use mathlib.Core.Path.{◌≡◌, refl, sym, ◌∙◌}
use mathlib.Core.Logic.{◌≢◌}
use mathlib.Core.Bool.{Bool, true, false, false≢true, true≢false}
use mathlib.Core.List.{List, [], ◌∷◌}
use Prim.Native.Nat.{ℕ}
use borrow.Author.Tests.{eq-eqb, eqb-true}
use lib.Dec.{eqb}
use Rattle.lists.specs.Bytes.{same}
use Rattle.lists.proofs.Tests.{and-true}

pub same_refl : (s : List ℕ) → same s s ≡ true
unfolding same
same_refl [] = refl
same_refl (b ∷ s) = rw (eq-eqb b b refl, same_refl s)

pub same_true : (s t : List ℕ) → same s t ≡ true → s ≡ t
unfolding same
same_true [] [] e = refl
same_true [] (c ∷ t) e = absurd (false≢true e)
same_true (b ∷ s) [] e = absurd (false≢true e)
same_true (b ∷ s) (c ∷ t) e =
    let q : (eqb b c ≡ true) × (same s t ≡ true) = and-true (eqb b c) (same s t) e in
    rw (eqb-true b c q.0, same_true s t q.1)

-- bytes that differ, and the test
pub differs : (s t : List ℕ) → s ≢ t → same s t ≡ false
differs s t ne = go (same s t) refl
  where
    go : (x : Bool) → same s t ≡ x → same s t ≡ false
    go true e = absurd (ne (same_true s t e))
    go false e = e

pub apart : (s t : List ℕ) → same s t ≡ false → s ≢ t
apart s t h e = true≢false (sym (same_refl t) ∙ rw e at h)
