-- The word that the reader finds, among the words of the text. Assumes nothing.
use Rattle.std.proofs.Common.{◌≡◌, refl, sym, ap, ◌∙◌, Bool, true, false, cond, List, [], ◌∷◌, ℕ, suc, ◌+◌, ◌-◌, ◌<◌, ◌≤◌, Option, Some, None, length, take, drop, get_or, ltb, add-zero, arith, ltb-true, ltb-false, length-drop, drop_of_length-le, drop-drop}
use Rattle.std.proofs.lemmas.Option.{none-some}
use Rattle.lists.specs.Bytes.{bytes, same}
use Rattle.vcd.specs.Words.{parting, size, word_of, Word, words}
use Rattle.words.specs.Places.{gap, next_start, words_from, after_end, TextEnds, ended, missing}
use Rattle.words.specs.declared.Word.{Word as Found}
use Rattle.vcd.proofs.Words.{size_within}
use Rattle.words.proofs.Runs.{next_byte}

-- ---- what `next_start` answers

module _ (s : List ℕ) (at from : ℕ) (p : from ≡ at + gap (drop at s)) where
  pub start_found : (b : ℕ) → true ≡ ltb from (length s) → b ≡ get_or s from 0 → Some (record { from = from; first = b }) ≡ next_start s at
  unfolding next_start
  start_found b h e = rw (sym p, ← h, e)

  pub start_missing : {r : Option Found} → false ≡ ltb from (length s) → r ≡ None → r ≡ next_start s at
  unfolding next_start
  start_missing h e = rw (sym p, ← h, e)

-- ---- the words of a text

-- the words after the bytes of a word
words_rest : (at : ℕ) (s : List ℕ) → words false at s ≡ words true (at + size s) (drop (size s) s)
unfolding words size
words_rest at [] = refl
words_rest at (b ∷ s) = go (parting b) refl (words_rest (suc at) s)
  where
    go : (t : Bool) → parting b ≡ t → words false (suc at) s ≡ words true (suc at + size s) (drop (size s) s) → cond t (words true (suc at) s) (words false (suc at) s) ≡ words true (at + cond t 0 (suc (size s))) (drop (cond t 0 (suc (size s))) (b ∷ s))
    go true e h = rw (e, add-zero)
    go false e h = let z : suc at + size s ≡ at + suc (size s) = omega arith in h ∙ ap (λ (n : ℕ). words true n (drop (size s) s)) z

-- the first word of s begins at `from`, and s from there on is given
abbrev first_by : ℕ → List ℕ → List Word
first_by from [] = []
first_by from (b ∷ s) = record { at = from; bytes = word_of (b ∷ s) } ∷ words true (from + size (b ∷ s)) (drop (size (b ∷ s)) (b ∷ s))

word_here : (at b : ℕ) (s : List ℕ) → parting b ≡ false → record { at = at; bytes = word_of (b ∷ s) } ∷ words false (suc at) s ≡ first_by at (b ∷ s)
unfolding size
word_here at b s e =
    let z : suc at + size s ≡ at + suc (size s) = omega arith in
    rw (e, words_rest (suc at) s, z)

first_word : (at : ℕ) (s : List ℕ) → words true at s ≡ first_by (at + gap s) (drop (gap s) s)
unfolding words gap
first_word at [] = refl
first_word at (b ∷ s) = go (parting b) refl (first_word (suc at) s)
  where
    go : (t : Bool) → parting b ≡ t → words true (suc at) s ≡ first_by (suc at + gap s) (drop (gap s) s)
        → cond t (words true (suc at) s) (record { at = at; bytes = word_of (b ∷ s) } ∷ words false (suc at) s) ≡ first_by (at + cond t (suc (gap s)) 0) (drop (cond t (suc (gap s)) 0) (b ∷ s))
    go true e h = let z : suc at + gap s ≡ at + suc (gap s) = omega arith in h ∙ ap (λ (n : ℕ). first_by n (drop (gap s) s)) z
    go false e h = rw add-zero (word_here at b s e)

-- the byte after a gap parts no words
gap_next : (s : List ℕ) (b : ℕ) (t : List ℕ) → drop (gap s) s ≡ b ∷ t → parting b ≡ false
unfolding gap
gap_next [] b t e = absurd (let z : ◌≡◌ {A = ℕ} 0 1 = cc in omega arith)
gap_next (a ∷ s) b t e = go (parting a) refl (λ q. gap_next s b t q) e
  where
    go : (f : Bool) → parting a ≡ f → (drop (gap s) s ≡ b ∷ t → parting b ≡ false) → drop (cond f (suc (gap s)) 0) (a ∷ s) ≡ b ∷ t → parting b ≡ false
    go true p h e = h e
    go false p h e = let z : a ≡ b = cc in rw (← z) p

size_some : (b : ℕ) (s : List ℕ) → parting b ≡ false → 0 < size (b ∷ s)
unfolding size
size_some b s e = rw e (omega arith)

-- the word at `from`, the first from p on
pub record Begins (s : List ℕ) (p from b : ℕ) : Type 0 where
  pub low : p ≤ from
  pub byte : b ≡ get_or s from 0
  pub plain : parting (get_or s from 0) ≡ false
  pub some : 0 < size (drop from s)
  pub within : from + size (drop from s) ≤ length s
  pub is : words_from s p ≡ record { at = from; bytes = word_of (drop from s) } ∷ words_from s (from + size (drop from s))

module _ (s : List ℕ) (p : ℕ) {r : Option Found} (q : r ≡ next_start s p) where
  abbrev start : ℕ
  start = p + gap (drop p s)

  behind : drop (gap (drop p s)) (drop p s) ≡ drop start s
  behind = drop-drop (gap (drop p s)) p s

  pub no_more : r ≡ None → words_from s p ≡ []
  unfolding next_start
  no_more e = go (ltb start (length s)) refl (sym e ∙ q)
    where
      go : (t : Bool) → ltb start (length s) ≡ t → ◌≡◌ {A = Option Found} None (cond t (Some (record { from = start; first = get_or s start 0 })) None) → words_from s p ≡ []
      go true h f = absurd (none-some _ f)
      go false h f = first_word p (drop p s) ∙ rw (behind, drop_of_length-le s {i = start} (ltb-false start (length s) h))

  begins_start : start < length s → (b : ℕ) → b ≡ get_or s start 0 → Begins s p start b
  begins_start l b m =
      let d : drop (gap (drop p s)) (drop p s) ≡ get_or s start 0 ∷ drop (start + 1) s = behind ∙ next_byte s start l in
      let e : parting (get_or s start 0) ≡ false = gap_next (drop p s) (get_or s start 0) (drop (start + 1) s) d in
      let w : size (drop start s) ≤ length s - start = rw length-drop at (size_within (drop start s)) in
      record {
        low = omega arith;
        byte = m;
        plain = e;
        some = rw (next_byte s start l) (size_some (get_or s start 0) (drop (start + 1) s) e);
        within = omega arith;
        is = first_word p (drop p s) ∙ rw (d, ← next_byte s start l, drop-drop);
      }

  pub word_starts : (w : Found) → r ≡ Some w → Begins s p w.from w.first
  unfolding next_start
  word_starts w e = go (ltb start (length s)) refl (sym e ∙ q)
    where
      go : (t : Bool) → ltb start (length s) ≡ t → Some w ≡ cond t (Some (record { from = start; first = get_or s start 0 })) None → Begins s p w.from w.first
      go true h f = let z : w ≡ record { from = start; first = get_or s start 0 } = cc in rw z (begins_start (ltb-true start (length s) h) (get_or s start 0) refl)
      go false h f = absurd (none-some _ (sym f))

  -- the word, from its first byte to its end, is a part of the text
  module _ (w : Found) (to : ℕ) (e : r ≡ Some w) (t : to ≡ w.from + size (drop w.from s)) where
    begins : Begins s p w.from w.first
    begins = word_starts w e

    pub part_starts : w.from ≤ to
    part_starts = omega arith

    pub part_ends : to ≤ length s
    part_ends = omega (arith, begins.within)

    pub part_moves : p < to
    part_moves = omega (arith, begins.low, begins.some)

    pub part_left : length s - to < length s - p
    part_left = omega (arith, begins.low, begins.some, begins.within)

    pub part_is : take (to - w.from) (drop w.from s) ≡ word_of (drop w.from s)
    part_is = let z : to - w.from ≡ size (drop w.from s) = omega arith in rw z

    pub word_then : words_from s p ≡ record { at = w.from; bytes = take (to - w.from) (drop w.from s) } ∷ words_from s to
    word_then = begins.is ∙ rw (part_is, ← t)

-- ---- the words after a $end

module _ (s : List ℕ) (at p : ℕ) (i : after_end (words_from s at) ≡ after_end (words_from s p)) {r : Option Found} (q : r ≡ next_start s p) where
  pub end_missing : r ≡ None → TextEnds s at None
  unfolding after_end
  end_missing e = missing (i ∙ rw (no_more s p q e))

  module _ (low : at ≤ p) (w : Found) (to : ℕ) (e : r ≡ Some w) (t : to ≡ w.from + size (drop w.from s)) where
    pub end_on : at ≤ to
    end_on = omega (arith, part_moves s p q w to e t)

    module _ {f : Bool} (g : f ≡ same (take (to - w.from) (drop w.from s)) (bytes "$end")) where
      pub end_found : f ≡ true → TextEnds s at (Some to)
      unfolding after_end
      end_found y = ended {to = to} (omega (arith, part_moves s p q w to e t)) (part_ends s p q w to e t) (i ∙ rw (word_then s p q w to e t, sym g ∙ y))

      pub end_later : f ≡ false → after_end (words_from s at) ≡ after_end (words_from s to)
      unfolding after_end
      end_later y = i ∙ rw (word_then s p q w to e t, sym g ∙ y)
