-- What the functions on a text and a place answer. No reply rests on these definitions: the readers above are promised by `vcd`.
use Rattle.std.specs.Prelude.{ℕ, suc, ◌+◌, ◌≤◌, ◌<◌, ◌≡◌, Bool, true, false, List, [], ◌∷◌, ltb, length, drop, get_or, Option, Some, None}
use Rattle.lists.specs.Search.{when◌then◌else◌}
use Rattle.vcd.specs.Words.{parting, size, word_of, Word as TextWord, words, is}
use Rattle.vcd.specs.Syntax.{all, one_or_more}
use Rattle.words.specs.declared.Word.{Word}

-- how many bytes that part words stand at the front of s
unfoldable pub gap : List ℕ → ℕ
gap [] = 0
gap (b ∷ s) = when parting b then suc (gap s) else 0

abbrev pub start_by : List ℕ → ℕ → Option Word
start_by s from = when ltb from (length s) then Some (record { from = from; first = get_or s from 0 }) else None

-- the first word of s that begins at a place or after it
unfoldable pub next_start : List ℕ → ℕ → Option Word
next_start s at = start_by s (at + gap (drop at s))

-- The bytes of a word from `at` to `to` pass the test p, so that the rest of the word decides of the whole.
pub record Along (p : ℕ → Bool) (s : List ℕ) (at to : ℕ) : Type 0 where
  pub low : at ≤ to
  pub sizes : at + size (drop at s) ≡ to + size (drop to s)
  pub alike : all p (word_of (drop at s)) ≡ all p (word_of (drop to s))

-- The bytes of s from `at` to `to` pass a test of bytes, and there they end: with the text, or at a byte that does not pass.
pub record Run (test : ℕ → Bool → Type 0) (s : List ℕ) (at to : ℕ) : Type 0 where
  pub low : at ≤ to
  pub inside : (k : ℕ) → at ≤ k → k < to → k < length s
  pub passed : (k : ℕ) → at ≤ k → k < to → test (get_or s k 0) true
  pub ends : to < length s → test (get_or s to 0) false

-- the test says what p says, and no byte that passes p parts words
pub record Tests (test : ℕ → Bool → Type 0) (p : ℕ → Bool) : Type 0 where
  pub says : (b : ℕ) (r : Bool) → b < 256 → test b r → r ≡ p b
  pub plain : (b : ℕ) → p b ≡ true → parting b ≡ false

-- where the word at `at` ends, if it is one or more bytes that pass
unfoldable pub word_in : (ℕ → Bool) → List ℕ → ℕ → Option ℕ
word_in p s at = when one_or_more p (word_of (drop at s)) then Some (at + size (drop at s)) else None

abbrev pub WordIn : (test : ℕ → Bool → Type 0) (s : List ℕ) (at : ℕ) → Option ℕ → Type 0
WordIn test s at r = (p : ℕ → Bool) → Tests test p → r ≡ word_in p s at

-- the words of s from a place on
abbrev pub words_from : List ℕ → ℕ → List TextWord
words_from s at = words true at (drop at s)

-- the words after the first $end
unfoldable pub after_end : List TextWord → Option (List TextWord)
after_end [] = None
after_end (w ∷ ws) = when is w.bytes "$end" then Some ws else after_end ws

-- what is found of it from a place of s on
pub data TextEnds (s : List ℕ) (at : ℕ) : Option ℕ → Type 0 where
  ended : {to : ℕ} → at < to → to ≤ length s → after_end (words_from s at) ≡ Some (words_from s to) → TextEnds s at (Some to)
  missing : after_end (words_from s at) ≡ None → TextEnds s at None
