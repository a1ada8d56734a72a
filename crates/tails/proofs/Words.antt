-- Words that are tails, and words that are none; the greater of two words is the better tail (`word_greater`). Assumes nothing.
use Rattle.std.proofs.Common.{◌≡◌, refl, sym, ◌∙◌, Bool, true, false, cond, List, ℕ, ◌+◌, ◌<◌, min, ltb, ℤ, pos, negsuc, ◌+ℤ◌, length, get_or, set, ◌≤ℤ◌, ◌<ℤ◌}
use mathlib.Core.Option.{none, some}
use native.Mathlib.Decide.{ℕ_discrete}
use lib.Seq.{get_or-set_same, get_or-set_other}
use lib.Signed.{lt_z}
use mir.Syntax.{w64}
use mir.Val.{SFits}
use Rattle.integers.proofs.Laws.{ints, sum, size}
use Rattle.lists.specs.Search.{when◌then◌else◌}
use Rattle.optimum.specs.Tails.{best}
use Rattle.std.specs.Int.{int_max, int_min}
use Rattle.std.proofs.lemmas.Int.{clamps}
use Rattle.tails.proofs.Capped.{more_none}
use Rattle.tails.specs.Words.{most_tail, no_tail, word_of, greater_of, more_capped, Word, Low}

-- ---- the greater of two

-- it is the maximum
pub greater_max : (a b r : ℤ) → r ≡ int_max a b → r ≡ greater_of a b
unfolding greater_of
greater_max a b r e = go (lt_z b a) (lt_z a b) refl refl e
  where
    go : (p q : Bool) → lt_z b a ≡ p → lt_z a b ≡ q → r ≡ cond p a b → r ≡ cond q b a
    go true true p q e = absurd (omega ints)
    go true false p q e = e
    go false true p q e = e
    go false false p q e = e ∙ omega ints

pub greater_second : (a b : ℤ) → a <ℤ b → b ≡ greater_of a b
unfolding greater_of
greater_second a b h = let e : lt_z a b ≡ true = omega ints in rw e

pub greater_first : (a b : ℤ) → b ≤ℤ a → a ≡ greater_of a b
unfolding greater_of
greater_first a b h = let e : lt_z a b ≡ false = omega ints in rw e

-- it is not below what neither is below, nor over what neither is over
module _ (a b z : ℤ) where
  pub greater_least : z ≤ℤ a → z ≤ℤ b → z ≤ℤ greater_of a b
  unfolding greater_of
  greater_least p q = go (lt_z a b)
    where
      go : (l : Bool) → z ≤ℤ (when l then b else a)
      go true = q
      go false = p

  pub greater_most : a ≤ℤ z → b ≤ℤ z → greater_of a b ≤ℤ z
  unfolding greater_of
  greater_most p q = go (lt_z a b)
    where
      go : (l : Bool) → (when l then b else a) ≤ℤ z
      go true = q
      go false = p

-- ---- words

pub no_word : (w : ℤ) → w <ℤ pos 0 → word_of w ≡ none
unfolding word_of
no_word (pos k) h = absurd (omega ints)
no_word (negsuc k) h = refl

pub word_greater : (a b : ℤ) → word_of (greater_of a b) ≡ best ltb (word_of a) (word_of b)
unfolding greater_of word_of best
word_greater (pos a) (pos b) = go (ltb a b)
  where
    go : (l : Bool) → word_of (when l then pos b else pos a) ≡ (when l then some b else some a)
    go true = refl
    go false = refl
word_greater (pos a) (negsuc b) = refl
word_greater (negsuc a) (pos b) = refl
word_greater (negsuc a) (negsuc b) = go (lt_z (negsuc a) (negsuc b))
  where
    go : (l : Bool) → word_of (when l then negsuc b else negsuc a) ≡ none
    go true = refl
    go false = refl

pub greater_word : (a b : ℤ) → Word a → Word b → Word (greater_of a b)
greater_word a b p q = record { least = greater_least a b no_tail p.least q.least; most = greater_most a b (pos most_tail) p.most q.most }

-- the sum of two words
module _ (c w : ℤ) (p : pos 0 ≤ℤ c) (q : pos 0 ≤ℤ w) (C : Word c) (W : Word w) where
  pub word_fits : SFits w64 (c +ℤ w)
  word_fits = let h = C.most in let k = W.most in omega (ints, size (c +ℤ w), sum c w, size c, size w)

  -- up to the cap
  pub word_sum : (r : ℤ) → r ≡ int_min (c +ℤ w) (pos most_tail) → (word_of r ≡ more_capped most_tail (word_of c) (word_of w)) × Word r
  unfolding more_capped word_of
  word_sum r e = (go c w p q C.most e, record { least = omega (ints, clamps, sum c w, e); most = omega (ints, clamps, e) })
    where
      go : (c w : ℤ) → pos 0 ≤ℤ c → pos 0 ≤ℤ w → c ≤ℤ pos most_tail → r ≡ int_min (c +ℤ w) (pos most_tail) → word_of r ≡ more_capped most_tail (word_of c) (word_of w)
      go (pos a) (pos b) p q m e = let k : r ≡ pos (min most_tail (min most_tail a + b)) = omega (ints, clamps) in rw k
      go (pos a) (negsuc b) p q m e = absurd (omega ints)
      go (negsuc a) w p q m e = absurd (omega ints)

-- none, where either is none
pub no_first : (c w : ℤ) → c <ℤ pos 0 → (word_of no_tail ≡ more_capped most_tail (word_of c) (word_of w)) × Word no_tail
unfolding more_capped
no_first c w h = (no_word no_tail (omega ints) ∙ rw (no_word c h), record { least = omega ints; most = omega ints })

pub no_second : (c w : ℤ) → w <ℤ pos 0 → (word_of no_tail ≡ more_capped most_tail (word_of c) (word_of w)) × Word no_tail
no_second c w h = (no_word no_tail (omega ints) ∙ rw (no_word w h) (sym (more_none most_tail (word_of c))), record { least = omega ints; most = omega ints })

-- a word in a list of words
pub low_set : (words : List ℤ) (x : ℕ) (w : ℤ) → x < length words → Word w → Low words → Low (set words x w)
low_set words x w h least low i = go (ℕ_discrete i x)
  where
    go : Dec (i ≡ x) → Word (get_or (set words x w) i (pos 0))
    go (yes e) = rw (e, get_or-set_same words x w (pos 0) h) least
    go (no ne) = rw (get_or-set_other words x i w (pos 0) ne) (low i)
