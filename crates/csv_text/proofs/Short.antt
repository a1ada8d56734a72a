-- Text bytes that a comma, a line end or the end of the text follows are a field.
-- Assumes nothing.
use mathlib.Core.Path.{◌≡◌, refl, sym, ap, ◌∙◌}
use mathlib.Core.Bool.{Bool, true, false, cond}
use mathlib.Core.List.{List, [], ◌∷◌}
use Prim.Native.Nat.{ℕ, ◌≤◌}
use borrow.Author.Tests.{eqb-true}
use lib.ListN.{length, take, drop, take-append-drop}
use lib.Seq.{length-take-le}
use lib.Dec.{leb}
use Rattle.limits.specs.Limits.{most_field_bytes}
use Rattle.csv_text.specs.Grammar.{is_comma, is_cr, is_lf, is_text, is_quote, size, extent, Field, comma, ends, broken, line_feed, following, limited, field}
use Rattle.csv_text.specs.Write.{bare, all_text}
use Rattle.csv_text.specs.declared.Ending.TheVariants.{CrLf, Lf}
use Rattle.csv_text.proofs.Inverse.{Stops, extent_written}

stops : (n : ℕ) (t : List ℕ) → (following n t ≡ broken → ⊥) → Stops t
unfolding following
stops n [] f = tt
stops n (b ∷ t) f = go (is_comma b) (is_cr b) (is_lf b) refl refl refl f
  where
    go : (c r l : Bool) → is_comma b ≡ c → is_cr b ≡ r → is_lf b ≡ l → (cond c (comma n) (cond r (line_feed n t) (cond l (ends Lf n) broken)) ≡ broken → ⊥) → (is_text b ≡ false) × (is_quote b ≡ false)
    go true r l e h i f = let z : b ≡ 44 = eqb-true b 44 e in (rw z, rw z)
    go false true l e h i f = let z : b ≡ 13 = eqb-true b 13 h in (rw z, rw z)
    go false false true e h i f = let z : b ≡ 10 = eqb-true b 10 i in (rw z, rw z)
    go false false false e h i f = absurd (f refl)

-- LAW: n text bytes at the start of s, with what follows them, are what the grammar finds there.
pub short_field : (s : List ℕ) (n : ℕ) → n ≤ length s → all_text (take n s) ≡ true → (limited s (size n) ≡ broken → ⊥) → field s ≡ limited s (size n)
unfolding field
short_field s n l u f = ap (limited s) extent_is
  where
    follows : (b : Bool) → leb n most_field_bytes ≡ b → (cond b (following n (drop n s)) broken ≡ broken → ⊥) → following n (drop n s) ≡ broken → ⊥
    follows true e f = f
    follows false e f = absurd (f refl)

    extent_is : extent s ≡ size n
    extent_is = ap extent (sym (take-append-drop n s)) ∙ extent_written (bare (take n s)) (drop n s) u (stops n (drop n s) (follows (leb n most_field_bytes) refl f)) ∙ ap size (length-take-le n s l)

-- the count of bytes that a field has
abbrev pub Sized : ℕ → Field → Type 0
Sized n (comma m) = n ≡ m
Sized n (ends x m) = n ≡ m
Sized n broken = Unit {0}

pub short_sized : (s : List ℕ) (n : ℕ) → Sized n (limited s (size n))
unfolding following
short_sized s n = go (leb n most_field_bytes)
  where
    line : (t : List ℕ) → Sized n (line_feed n t)
    line [] = tt
    line (b ∷ t) = feed (is_lf b)
      where
        feed : (f : Bool) → Sized n (cond f (ends CrLf n) broken)
        feed true = refl
        feed false = tt

    next : (t : List ℕ) → Sized n (following n t)
    next [] = refl
    next (b ∷ t) = at (is_comma b) (is_cr b) (is_lf b)
      where
        at : (f g h : Bool) → Sized n (cond f (comma n) (cond g (line_feed n t) (cond h (ends Lf n) broken)))
        at true g h = refl
        at false true h = line t
        at false false true = refl
        at false false false = tt

    go : (b : Bool) → Sized n (cond b (following n (drop n s)) broken)
    go true = next (drop n s)
    go false = tt
