-- The words of a text: document 02, §8, "words parted by space, tab, CR or LF".
use Rattle.std.specs.Prelude.{ℕ, suc, Bool, ◌||◌, List, [], ◌∷◌, eqb, take}
use Prim.Native.String.{String}
use Rattle.lists.specs.Search.{when◌then◌else◌}
use Rattle.lists.specs.Bytes.{bytes, same}

-- "space, tab, CR or LF": a byte that parts words
abbrev pub parting : ℕ → Bool
parting b = eqb b 32 || (eqb b 9 || (eqb b 13 || eqb b 10))

-- how many bytes stand in s before the first that parts words; all, if none does
unfoldable pub size : List ℕ → ℕ
size [] = 0
size (b ∷ s) = when parting b then 0 else suc (size s)

-- the bytes of the word at the front of s; none where s begins with a byte that parts words
abbrev pub word_of : List ℕ → List ℕ
word_of s = take (size s) s

-- a word, and the place of its first byte
pub record Word : Type 0 where
  pub at : ℕ
  pub bytes : List ℕ

-- The words that begin in s, whose first byte is byte `at` of the text. One begins at each byte that parts no words and is the first of the text
-- or comes after a byte that parts words (`fresh`).
unfoldable pub words : (fresh : Bool) (at : ℕ) → List ℕ → List Word
words fresh at [] = []
words fresh at (b ∷ s) =
    when parting b then words Bool.true (suc at) s else
    when fresh then record { at = at; bytes = word_of (b ∷ s) } ∷ words Bool.false (suc at) s else
    words Bool.false (suc at) s

-- the word w is this one, in ASCII
abbrev pub is : List ℕ → String → Bool
is w k = same w (bytes k)
