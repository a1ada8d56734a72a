-- The bytes between words, the bytes of a word and those that pass a test, one by one. Assumes nothing.
use Rattle.std.proofs.Common.{◌≡◌, refl, sym, ap, ◌∙◌, Bool, true, false, not, true≢false, List, [], ◌∷◌, ℕ, zero, suc, ◌+◌, ◌-◌, ◌<◌, ◌≤◌, Option, Some, None, length, drop, get_or, Fits, w8, add-zero, add-one, arith, ltb, ltb-true, ltb-false, ne_eqb, leb, leb-true, leb-false, cond, length-drop, drop_of_length-le, drop-cons}
use Rattle.std.proofs.lemmas.Option.{none-some}
use borrow.Author.Tests.{lt-leb}
use Rattle.vcd.specs.Words.{parting, size, word_of}
use Rattle.vcd.specs.Syntax.{all, one_or_more, is_graphic, is_state, is_decimal}
use Rattle.vcd.proofs.Words.{word_byte, size_byte, size_within, word_length}
use Rattle.words.specs.Places.{gap, Along, Run, Tests, word_in}

pub next_byte : (s : List ℕ) (at : ℕ) → at < length s → drop at s ≡ get_or s at 0 ∷ drop (at + 1) s
next_byte s at h = rw (add-one, drop-cons s at 0)

-- ---- bytes counted up to the first that parts words, or that parts none

-- f counts bytes up to the first that parts words (`stop` is true), or that parts none
pub record Counts (f : List ℕ → ℕ) (stop : Bool) : Type 0 where
  pub none : f [] ≡ 0
  pub last : (b : ℕ) (s : List ℕ) → parting b ≡ stop → f (b ∷ s) ≡ 0
  pub more : (b : ℕ) (s : List ℕ) → parting b ≡ not stop → f (b ∷ s) ≡ suc (f s)

counts_gap : Counts gap false
unfolding gap
counts_gap = record { none = refl; last = λ b s e. rw e; more = λ b s e. rw e }

counts_word : Counts size true
unfolding size
counts_word = record { none = refl; last = λ b s e. rw e; more = λ b s e. rw e }

-- the n bytes from `at` to `to` do not end the count, and there it ends
counted : (f : List ℕ → ℕ) (stop : Bool) → Counts f stop → (s : List ℕ) (n at to : ℕ) → at + n ≡ to → ((k : ℕ) → at ≤ k → k < to → (k < length s) × (parting (get_or s k 0) ≡ not stop))
    → (to < length s → parting (get_or s to 0) ≡ stop) → f (drop at s) ≡ n
counted f stop c s zero at to e p q = go (ltb at (length s)) refl
  where
    z : at ≡ to
    z = omega arith

    go : (t : Bool) → ltb at (length s) ≡ t → f (drop at s) ≡ 0
    go true h = let l : to < length s = rw (← z) (ltb-true at (length s) h) in rw (z, next_byte s to l) (c.last (get_or s to 0) (drop (to + 1) s) (q l))
    go false h = rw (drop_of_length-le s (ltb-false at (length s) h)) c.none
counted f stop c s (suc n) at to e p q =
    let h = p at (omega arith) (omega arith) in
    let i : f (drop (at + 1) s) ≡ n = counted f stop c s n (at + 1) to (omega arith) (λ k l m. p k (omega arith) m) q in
    rw (next_byte s at h.0, c.more (get_or s at 0) (drop (at + 1) s) h.1, i)

module _ {test : ℕ → Bool → Type 0} (s : List ℕ) (at to : ℕ) (r : Run test s at to) (bytes : (k : ℕ) → Fits w8 (get_or s k 0)) where
  counted_to : (f : List ℕ → ℕ) (stop : Bool) → Counts f stop → ((b : ℕ) → b < 256 → test b true → parting b ≡ not stop) → ((b : ℕ) → b < 256 → test b false → parting b ≡ stop) → to ≡ at + f (drop at s)
  counted_to f stop c p q =
      let low : at ≤ to = r.low in
      let n : f (drop at s) ≡ to - at = counted f stop c s (to - at) at to (omega arith) (λ k l h. (r.inside k l h, p (get_or s k 0) (bytes k).fits (r.passed k l h))) (λ h. q (get_or s to 0) (bytes to).fits (r.ends h)) in
      omega arith

  -- by a test of the bytes that part words, and of those that do not
  pub gap_counted : ((b : ℕ) (t : Bool) → b < 256 → test b t → t ≡ parting b) → to ≡ at + gap (drop at s)
  gap_counted p = counted_to gap false counts_gap (λ b l h. sym (p b true l h)) (λ b l h. sym (p b false l h))

  pub word_counted : ((b : ℕ) (t : Bool) → b < 256 → test b t → t ≡ not (parting b)) → to ≡ at + size (drop at s)
  word_counted p = counted_to size true counts_word (λ b l h. turned (parting b) true (p b true l h)) (λ b l h. turned (parting b) false (p b false l h))
    where
      turned : (x t : Bool) → t ≡ not x → x ≡ not t
      turned true true e = absurd (true≢false e)
      turned true false e = refl
      turned false true e = refl
      turned false false e = e

-- a word of no bytes: at the end of the text, and at a byte that parts words
pub none_over : (s : List ℕ) (i : ℕ) → length s ≤ i → size (drop i s) ≡ 0
unfolding size
none_over s i h = rw (drop_of_length-le s h)

pub none_parting : (s : List ℕ) (i : ℕ) → i < length s → parting (get_or s i 0) ≡ true → size (drop i s) ≡ 0
unfolding size
none_parting s i h e = rw (next_byte s i h, e)

-- ---- words whose bytes pass a test

-- the word at `at` is one or more bytes that pass, and ends at `to`
pub record WordPasses (p : ℕ → Bool) (s : List ℕ) (at to : ℕ) : Type 0 where
  pub passes : one_or_more p (word_of (drop at s)) ≡ true
  pub ends : to ≡ at + size (drop at s)
  pub moves : at < to
  pub within : to ≤ length s

-- a byte over 32 parts no words
pub dark : (b : ℕ) → 33 ≤ b → parting b ≡ false
dark b h = rw (ne_eqb b 32 (λ e. omega arith), ne_eqb b 9 (λ e. omega arith), ne_eqb b 13 (λ e. omega arith), ne_eqb b 10 (λ e. omega arith))

-- no byte below 33 passes
lit : (p : ℕ → Bool) → ((b : ℕ) → b < 33 → p b ≡ false) → (b : ℕ) → p b ≡ true → parting b ≡ false
lit p low b e = go (leb 33 b) refl
  where
    go : (t : Bool) → leb 33 b ≡ t → parting b ≡ false
    go true q = dark b (leb-true 33 b q)
    go false q = absurd (true≢false (sym e ∙ low b (leb-false 33 b q)))

pub graphic_plain : (b : ℕ) → is_graphic b ≡ true → parting b ≡ false
graphic_plain = lit is_graphic (λ b h. rw (lt-leb 33 b h))

pub state_plain : (b : ℕ) → is_state b ≡ true → parting b ≡ false
state_plain = lit is_state (λ b h. rw (ne_eqb b 48 (λ e. omega arith), ne_eqb b 49 (λ e. omega arith), ne_eqb b 120 (λ e. omega arith), ne_eqb b 88 (λ e. omega arith), ne_eqb b 122 (λ e. omega arith), ne_eqb b 90 (λ e. omega arith)))

pub decimal_plain : (b : ℕ) → is_decimal b ≡ true → parting b ≡ false
decimal_plain = lit is_decimal (λ b h. rw (lt-leb 48 b (omega arith)))

module _ (p : ℕ → Bool) (plain : (b : ℕ) → p b ≡ true → parting b ≡ false) (s : List ℕ) (at : ℕ) where
  pub along_here : Along p s at at
  along_here = record { low = omega arith; sizes = refl; alike = refl }

  pub along_on : {i : ℕ} → Along p s at i → i < length s → p (get_or s i 0) ≡ true → Along p s at (i + 1)
  unfolding all
  along_on {i} a h e =
      let n : parting (get_or s i 0) ≡ false = plain (get_or s i 0) e in
      let z : size (drop i s) ≡ suc (size (drop (i + 1) s)) = ap size (next_byte s i h) ∙ size_byte (get_or s i 0) (drop (i + 1) s) n in
      record {
        low = omega (arith, a.low);
        sizes = a.sizes ∙ omega arith;
        alike = a.alike ∙ rw (next_byte s i h, word_byte (get_or s i 0) (drop (i + 1) s) n, e);
      }

  -- as many bytes pass
  along_by : (n : ℕ) → ((k : ℕ) → at ≤ k → k < at + n → (k < length s) × (p (get_or s k 0) ≡ true)) → Along p s at (at + n)
  along_by zero q = rw add-zero along_here
  along_by (suc n) q =
      let h = q (at + n) (omega arith) (omega arith) in
      let z : at + n + 1 ≡ at + suc n = omega arith in
      rw (← z) (along_on (along_by n (λ k l m. q k l (omega arith))) h.0 h.1)

  some_not : (w : List ℕ) → all p w ≡ false → one_or_more p w ≡ false
  unfolding one_or_more
  some_not [] e = refl
  some_not (b ∷ w) e = e

  some_is : (w : List ℕ) → all p w ≡ true → 0 < length w → one_or_more p w ≡ true
  unfolding one_or_more
  some_is [] e h = absurd (omega arith)
  some_is (b ∷ w) e h = e

  none_is : (w : List ℕ) → length w ≡ 0 → one_or_more p w ≡ false
  unfolding one_or_more
  none_is [] h = refl
  none_is (b ∷ w) h = absurd (omega arith)

  -- the word has no bytes
  word_empty : size (drop at s) ≡ 0 → one_or_more p (word_of (drop at s)) ≡ false
  word_empty z = none_is (word_of (drop at s)) (word_length (drop at s) ∙ z)

  -- a byte of it does not pass
  word_broken : {to : ℕ} → Along p s at to → to < length s → p (get_or s to 0) ≡ false → parting (get_or s to 0) ≡ false → one_or_more p (word_of (drop at s)) ≡ false
  unfolding all
  word_broken {to} a h e n = some_not (word_of (drop at s)) (a.alike ∙ rw (next_byte s to h, word_byte (get_or s to 0) (drop (to + 1) s) n, e))

  -- what the answer tells
  pub in_none : {r : Option ℕ} → r ≡ word_in p s at → r ≡ None → one_or_more p (word_of (drop at s)) ≡ false
  unfolding word_in
  in_none {r} q e = go (one_or_more p (word_of (drop at s))) (sym e ∙ q)
    where
      go : (t : Bool) → None ≡ cond t (Some (at + size (drop at s))) None → t ≡ false
      go true f = absurd (none-some _ f)
      go false f = refl

  pub in_some : {r : Option ℕ} (to : ℕ) → r ≡ word_in p s at → r ≡ Some to → WordPasses p s at to
  unfolding word_in
  in_some {r} to q e = go (one_or_more p (word_of (drop at s))) refl (sym e ∙ q)
    where
      go : (t : Bool) → one_or_more p (word_of (drop at s)) ≡ t → Some to ≡ cond t (Some (at + size (drop at s))) None → WordPasses p s at to
      go true h f =
          let z : to ≡ at + size (drop at s) = cc in
          let n : 0 < size (drop at s) = pos h in
          let w : size (drop at s) ≤ length s - at = rw length-drop at (size_within (drop at s)) in
          record { passes = h; ends = z; moves = omega arith; within = omega arith }
        where
          pos : one_or_more p (word_of (drop at s)) ≡ true → 0 < size (drop at s)
          pos h = go' (size (drop at s)) refl
            where
              go' : (k : ℕ) → size (drop at s) ≡ k → 0 < size (drop at s)
              go' zero e = absurd (true≢false (sym h ∙ word_empty e))
              go' (suc k) e = omega arith
      go false h f = absurd (none-some _ (sym f))

-- what `!` says of a test
pub refused : {v x f : Bool} → v ≡ not f → f ≡ x → v ≡ true → x ≡ false
refused {v} {x} {f} p q e = go x (sym e ∙ p ∙ ap not q)
  where
    go : (y : Bool) → true ≡ not y → y ≡ false
    go true h = absurd (true≢false h)
    go false h = refl

pub allowed : {v x f : Bool} → v ≡ not f → f ≡ x → v ≡ false → x ≡ true
allowed {v} {x} {f} p q e = go x (sym e ∙ p ∙ ap not q)
  where
    go : (y : Bool) → false ≡ not y → y ≡ true
    go true h = refl
    go false h = h

-- by a run of bytes that pass
module _ {test : ℕ → Bool → Type 0} (s : List ℕ) (at to : ℕ) (r : Run test s at to) (bytes : (k : ℕ) → Fits w8 (get_or s k 0)) (p : ℕ → Bool) (t : Tests test p) where
  run_along : Along p s at to
  run_along =
      let low : at ≤ to = r.low in
      let z : at + (to - at) ≡ to = omega arith in
      rw z at (along_by p t.plain s at (to - at) (λ k l h. let m : k < to = omega arith in (r.inside k l m, sym (t.says (get_or s k 0) true (bytes k).fits (r.passed k l m)))))

  stops : to < length s → p (get_or s to 0) ≡ false
  stops h = sym (t.says (get_or s to 0) false (bytes to).fits (r.ends h))

  pub in_broken : to < length s → parting (get_or s to 0) ≡ false → None ≡ word_in p s at
  unfolding word_in
  in_broken h n = rw (word_broken p t.plain s at run_along h (stops h) n)

  -- where no byte passes
  pub in_empty : to ≡ at → None ≡ word_in p s at
  unfolding word_in
  in_empty e = go (ltb to (length s)) refl
    where
      none : size (drop at s) ≡ 0 → None ≡ cond (one_or_more p (word_of (drop at s))) (Some (at + size (drop at s))) None
      none z = rw (word_empty p t.plain s at z)

      at_byte : to < length s → (x : Bool) → parting (get_or s to 0) ≡ x → None ≡ cond (one_or_more p (word_of (drop at s))) (Some (at + size (drop at s))) None
      at_byte h true q = none (rw e at (none_parting s to h q))
      at_byte h false q = rw (word_broken p t.plain s at run_along h (stops h) q)

      go : (x : Bool) → ltb to (length s) ≡ x → None ≡ cond (one_or_more p (word_of (drop at s))) (Some (at + size (drop at s))) None
      go true q = at_byte (ltb-true to (length s) q) (parting (get_or s to 0)) refl
      go false q = none (rw e at (none_over s to (ltb-false to (length s) q)))

  -- where it ends with the word
  whole : size (drop to s) ≡ 0 → (to ≡ at → ⊥) → Some to ≡ word_in p s at
  unfolding word_in all
  whole z n =
      let a : Along p s at to = run_along in
      let l : length (word_of (drop at s)) ≡ size (drop at s) = word_length (drop at s) in
      let e : to ≡ at + size (drop at s) = omega (arith, a.sizes) in
      rw (some_is p t.plain s at (word_of (drop at s)) (a.alike ∙ rw z) (omega (arith, l, a.low)), ← e)

  pub in_over : length s ≤ to → (to ≡ at → ⊥) → Some to ≡ word_in p s at
  in_over h n = whole (none_over s to h) n

  pub in_whole : to < length s → parting (get_or s to 0) ≡ true → (to ≡ at → ⊥) → Some to ≡ word_in p s at
  in_whole h q n = whole (none_parting s to h q) n
