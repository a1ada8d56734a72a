-- The bytes of a word, and the words of a text one after the other. Assumes nothing.
use mathlib.Core.Path.{◌≡◌, refl, ◌∙◌}
use mathlib.Core.Bool.{Bool, true, false, cond}
use mathlib.Core.List.{List, [], ◌∷◌}
use Prim.Native.Nat.{ℕ, suc, ◌+◌, ◌≤◌}
use native.Mathlib.Omega.{arith}
use lib.ListN.{length}
use lib.Seq.{length-take-le}
use Rattle.vcd.specs.Words.{parting, size, word_of, Word, words}

-- a word with another first byte
pub word_byte : (b : ℕ) (s : List ℕ) → parting b ≡ false → word_of (b ∷ s) ≡ b ∷ word_of s
unfolding size
word_byte b s e = rw e

pub size_byte : (b : ℕ) (s : List ℕ) → parting b ≡ false → size (b ∷ s) ≡ suc (size s)
unfolding size
size_byte b s e = rw e

pub size_within : (s : List ℕ) → size s ≤ length s
unfolding size
size_within [] = omega arith
size_within (b ∷ s) = go (parting b) (size_within s)
  where
    go : (t : Bool) → size s ≤ length s → cond t 0 (suc (size s)) ≤ suc (length s)
    go true h = omega arith
    go false h = omega arith

pub word_length : (s : List ℕ) → length (word_of s) ≡ size s
word_length s = length-take-le (size s) s (size_within s)

-- words from `low` on, each parted from the next, in a text of length n
abbrev pub Sorted : ℕ → ℕ → List Word → Type 0
Sorted low n [] = low ≤ suc n
Sorted low n (w ∷ ws) = (low ≤ w.at) × Sorted (suc (w.at + length w.bytes)) n ws

sooner : (low high n : ℕ) (ws : List Word) → low ≤ high → Sorted high n ws → Sorted low n ws
sooner low high n [] h s = omega arith
sooner low high n (w ∷ ws) h s = (omega arith, s.1)

pub sorted_within : (low n : ℕ) (ws : List Word) → Sorted low n ws → low ≤ suc n
sorted_within low n [] s = s
sorted_within low n (w ∷ ws) s = omega (arith, s.0, sorted_within (suc (w.at + length w.bytes)) n ws s.1)

-- the words of s, where a word may begin at its first byte and where it may not
both_sorted : (at n : ℕ) (s : List ℕ) → n ≡ at + length s → Sorted at n (words true at s) × Sorted (suc (at + size s)) n (words false at s)
unfolding words size
both_sorted at n [] e = (omega arith, omega arith)
both_sorted at n (b ∷ s) e = go (parting b) refl (both_sorted (suc at) n s (omega arith))
  where
    go : (t : Bool) → parting b ≡ t → Sorted (suc at) n (words true (suc at) s) × Sorted (suc (suc at + size s)) n (words false (suc at) s)
        → Sorted at n (cond t (words true (suc at) s) (record { at = at; bytes = word_of (b ∷ s) } ∷ words false (suc at) s)) × Sorted (suc (at + cond t 0 (suc (size s)))) n (cond t (words true (suc at) s) (words false (suc at) s))
    go true q ih = (sooner at (suc at) n (words true (suc at) s) (omega arith) ih.0, sooner (suc (at + 0)) (suc at) n (words true (suc at) s) (omega arith) ih.0)
    go false q ih =
        let l : length (word_of (b ∷ s)) ≡ suc (size s) = word_length (b ∷ s) ∙ size_byte b s q in
        ((omega arith, sooner (suc (at + length (word_of (b ∷ s)))) (suc (suc at + size s)) n (words false (suc at) s) (omega arith) ih.1), sooner (suc (at + suc (size s))) (suc (suc at + size s)) n (words false (suc at) s) (omega arith) ih.1)

pub words_sorted : (s : List ℕ) → Sorted 0 (length s) (words true 0 s)
words_sorted s = (both_sorted 0 (length s) s (omega arith)).0
