-- A field without its quote marks: whoever gives one answer to each text that holds a quote mark may leave doubled marks doubled.
-- Assumes nothing.
use mathlib.Core.Path.{◌≡◌, refl, sym, ap, ◌∙◌}
use mathlib.Core.Bool.{Bool, true, false, cond, ◌||◌, or-true}
use mathlib.Core.Logic.{◌⊎◌, inl, inr}
use mathlib.Core.List.{List, [], ◌∷◌}
use Prim.Native.Nat.{ℕ, suc, ◌-◌, ◌≤◌}
use native.Mathlib.Omega.{arith}
use borrow.Author.Tests.{le-ltb}
use lib.Dec.{ltb, eqb}
use lib.ListN.{length, take, drop, get_or}
use Rattle.csv_text.specs.Grammar.{is_quote, undoubled, content}
use Rattle.csv_text.specs.Place.{inner}

-- what `inner_part` gives, by the length and the first byte
pub inner_is : (w : List ℕ) → inner w ≡ cond (ltb (length w) 1) w (cond (eqb (get_or w 0 0) 34) (cond (ltb (length w) 2) [] (take (length w - 1 - 1) (drop 1 w))) w)
unfolding inner
inner_is [] = refl
inner_is (b ∷ []) = refl
inner_is (b ∷ c ∷ s) =
    let l : suc (suc (length s)) - 1 - 1 ≡ suc (length s) - 1 = omega arith in
    let one : 1 ≤ suc (suc (length s)) = omega arith in
    let two : 2 ≤ suc (suc (length s)) = omega arith in
    rw (l, le-ltb _ 1 one, le-ltb _ 2 two)

-- whether a text holds a quote mark: doubled or not, it does
unfoldable pub has_mark : List ℕ → Bool
has_mark [] = false
has_mark (b ∷ s) = is_quote b || has_mark s

undoubled_same : (s : List ℕ) → (undoubled s ≡ s) ⊎ ((has_mark s ≡ true) × (has_mark (undoubled s) ≡ true))
unfolding undoubled has_mark
undoubled_same [] = inl refl
undoubled_same (b ∷ []) = inl refl
undoubled_same (b ∷ c ∷ s) = go (is_quote b) refl (undoubled_same (c ∷ s))
  where
    go : (t : Bool) → is_quote b ≡ t → (undoubled (c ∷ s) ≡ c ∷ s) ⊎ ((has_mark (c ∷ s) ≡ true) × (has_mark (undoubled (c ∷ s)) ≡ true)) → (cond t (b ∷ undoubled s) (b ∷ undoubled (c ∷ s)) ≡ b ∷ c ∷ s) ⊎ ((has_mark (b ∷ c ∷ s) ≡ true) × (has_mark (cond t (b ∷ undoubled s) (b ∷ undoubled (c ∷ s))) ≡ true))
    go true e h = inr (rw e, rw e)
    go false e (inl h) = inl (ap (λ (t : List ℕ). b ∷ t) h)
    go false e (inr h) = inr (rw h.0 (or-true (is_quote b)), rw h.1 (or-true (is_quote b)))

pub through : {A : Type 0} (f : List ℕ → A) (bad : A) → ((s : List ℕ) → has_mark s ≡ true → f s ≡ bad) → (w : List ℕ) → f (inner w) ≡ f (content w)
unfolding content inner
through f bad h [] = refl
through f bad h (b ∷ s) = go (is_quote b)
  where
    same : (t : List ℕ) → (undoubled t ≡ t) ⊎ ((has_mark t ≡ true) × (has_mark (undoubled t) ≡ true)) → f t ≡ f (undoubled t)
    same t (inl e) = rw e
    same t (inr e) = h t e.0 ∙ sym (h (undoubled t) e.1)

    go : (t : Bool) → f (cond t (take (length s - 1) s) (b ∷ s)) ≡ f (cond t (undoubled (take (length s - 1) s)) (b ∷ s))
    go true = same (take (length s - 1) s) (undoubled_same (take (length s - 1) s))
    go false = refl
