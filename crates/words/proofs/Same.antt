-- Two words compared byte by byte, at their turn i. Assumes nothing.
use Rattle.std.proofs.Common.{◌≡◌, refl, sym, ap, ◌∙◌, Bool, true, false, List, [], ◌∷◌, ℕ, suc, ◌+◌, ◌<◌, ◌≤◌, length, drop, get_or, arith, ne_eqb, eq-eqb, drop_of_length-le}
use Rattle.std.proofs.Math.Bool.{and-false}
use Rattle.lists.specs.Bytes.{same}
use Rattle.words.proofs.Runs.{next_byte}

pub same_lengths : (s t : List ℕ) → (length s ≡ length t → ⊥) → false ≡ same s t
unfolding same
same_lengths [] [] h = absurd (h refl)
same_lengths [] (c ∷ t) h = refl
same_lengths (b ∷ s) [] h = refl
same_lengths (b ∷ s) (c ∷ t) h = rw (sym (same_lengths s t (λ e. h (ap suc e))), and-false)

module _ (s t : List ℕ) (i : ℕ) {x : Bool} where
  pub same_over : length s ≡ length t → length s ≤ i → x ≡ same (drop i s) (drop i t) → true ≡ x
  unfolding same
  same_over l h e = sym (e ∙ rw (drop_of_length-le s h, drop_of_length-le t {i = i} (omega arith)))

  pub same_stops : length s ≡ length t → i < length s → (get_or s i 0 ≡ get_or t i 0 → ⊥) → x ≡ same (drop i s) (drop i t) → false ≡ x
  unfolding same
  same_stops l h q e = sym (e ∙ rw (next_byte s i h, next_byte t i (omega arith), ne_eqb (get_or s i 0) (get_or t i 0) q))

  pub same_on : length s ≡ length t → i < length s → get_or s i 0 ≡ get_or t i 0 → x ≡ same (drop i s) (drop i t) → x ≡ same (drop (i + 1) s) (drop (i + 1) t)
  unfolding same
  same_on l h q e = e ∙ rw (next_byte s i h, next_byte t i (omega arith), eq-eqb (get_or s i 0) (get_or t i 0) q)
