-- Document 02, §8, as a writer sees it: the texts that give the named vector a list of values, piece by piece, with all that the writer may choose.
-- Nothing here says how a text is read; Claim.antt has what is claimed of the two.
use Rattle.std.specs.Prelude.{ℕ, ◌+◌, ◌*◌, ◌≤◌, ◌≡◌, ◌≢◌, ◌⊎◌, true, not}
use mathlib.Core.List.{List, [], ◌∷◌, ◌++◌, Memᴰ}
use Rattle.lists.specs.Bytes.{bytes}
use Rattle.vcd.specs.Words.{parting}
use Rattle.vcd.specs.Syntax.{one_or_more, is_code, is_state, is_decimal, is_declaration, is_dump}

-- ---- words and the bytes between them

-- a word is one or more bytes that part no words
abbrev pub IsWord : List ℕ → Type 0
IsWord w = one_or_more (λ b. not (parting b)) w ≡ true

-- what comes after a word: the end of the text, or a byte that parts words
abbrev pub Parted : List ℕ → Type 0
Parted [] = Unit {0}
Parted (b ∷ s) = parting b ≡ true

-- "words parted by space, tab, CR or LF": the words of a text. The writer puts one such byte or more between two words, and as many as it likes before
-- the first word and after the last.
pub data Spaced : List (List ℕ) → List ℕ → Type 0 where
  empty : Spaced [] []
  gap : {ws : List (List ℕ)} {s : List ℕ} (b : ℕ) → parting b ≡ true → Spaced ws s → Spaced ws (b ∷ s)
  word : {ws : List (List ℕ)} {s : List ℕ} (w : List ℕ) → IsWord w → Parted s → Spaced ws s → Spaced (w ∷ ws) (w ++ s)

-- ---- declarations

-- the text of a declaration or a comment, up to its $end: any words but that one
abbrev pub NoEnd : List (List ℕ) → Type 0
NoEnd [] = Unit {0}
NoEnd (w ∷ ws) = (w ≢ bytes "$end") × NoEnd ws

-- declarations, the codes that they declare, and their words
pub data Declarations : (codes : List (List ℕ)) → List (List ℕ) → Type 0 where
  none : Declarations [] []
  -- "Of a declaration only its keyword, its $end .. count"
  other : {codes ws : List (List ℕ)} (keyword : List ℕ) (text : List (List ℕ)) → is_declaration keyword ≡ true → NoEnd text → Declarations codes ws
      → Declarations codes (keyword ∷ text ++ bytes "$end" ∷ ws)
  -- "the code is the third word after $var, and a $end among those three is not allowed"
  variable : {codes ws : List (List ℕ)} (kind size code : List ℕ) (text : List (List ℕ)) → is_code code ≡ true → NoEnd (kind ∷ size ∷ text) → Declarations codes ws
      → Declarations (code ∷ codes) (bytes "$var" ∷ kind ∷ size ∷ code ∷ text ++ bytes "$end" ∷ ws)

-- ---- changes

-- a number and digits that write it in base 2, the highest digit first, with as many zeros in front as the writer likes
pub data Binary : ℕ → List ℕ → Type 0 where
  first : (bit : ℕ) → bit ≤ 1 → Binary bit ((48 + bit) ∷ [])
  next : {n : ℕ} {s : List ℕ} (bit : ℕ) → bit ≤ 1 → Binary n s → Binary (n * 2 + bit) (s ++ (48 + bit) ∷ [])

-- a change, the values that it gives the named vector (one or none), and its words
pub data Change (named : List ℕ) : List ℕ → List (List ℕ) → Type 0 where
  -- of the named vector: in "b or B form", without "an x or z digit", and not "over 65,534"
  value : (v b : ℕ) (digits : List ℕ) → (b ≡ 98) ⊎ (b ≡ 66) → Binary v digits → v ≤ 65534 → Change named (v ∷ []) ((b ∷ digits) ∷ named ∷ [])
  -- of another code, as in IEEE 1364: a digit and the code, in one word
  scalar : (digit : ℕ) (code : List ℕ) → is_state digit ≡ true → is_code code ≡ true → code ≢ named → Change named [] ((digit ∷ code) ∷ [])
  -- of another code: "One or more digits follow b or B, each 0, 1, x or z in either case"
  vector : (b : ℕ) (digits code : List ℕ) → (b ≡ 98) ⊎ (b ≡ 66) → one_or_more is_state digits ≡ true → is_code code ≡ true → code ≢ named
      → Change named [] ((b ∷ digits) ∷ code ∷ [])
  -- of another code: "any bytes or none may follow r or R"
  real : (r : ℕ) (s code : List ℕ) → (r ≡ 114) ⊎ (r ≡ 82) → is_code code ≡ true → code ≢ named → Change named [] ((r ∷ s) ∷ code ∷ [])

-- changes, one after the other
pub data Changes (named : List ℕ) : List ℕ → List (List ℕ) → Type 0 where
  none : Changes named [] []
  change : {us vs : List ℕ} {ws xs : List (List ℕ)} → Change named us ws → Changes named vs xs → Changes named (us ++ vs) (ws ++ xs)

-- ---- the whole text

-- what comes after the declarations, the values that it gives the named vector, and its words
pub data Commands (named : List ℕ) : List ℕ → List (List ℕ) → Type 0 where
  none : Commands named [] []
  change : {us vs : List ℕ} {ws xs : List (List ℕ)} → Change named us ws → Commands named vs xs → Commands named (us ++ vs) (ws ++ xs)
  -- "# takes one or more of 0 to 9", "times are not compared"
  time : {vs : List ℕ} {xs : List (List ℕ)} (digits : List ℕ) → one_or_more is_decimal digits ≡ true → Commands named vs xs → Commands named vs ((35 ∷ digits) ∷ xs)
  -- "only $comment may come later too"
  comment : {vs : List ℕ} {xs : List (List ℕ)} (text : List (List ℕ)) → NoEnd text → Commands named vs xs
      → Commands named vs (bytes "$comment" ∷ text ++ bytes "$end" ∷ xs)
  -- "A dump keyword and its $end are passed over; only changes may stand between, and they count."
  dump : {us vs : List ℕ} {ws xs : List (List ℕ)} (keyword : List ℕ) → is_dump keyword ≡ true → Changes named us ws → Commands named vs xs
      → Commands named (us ++ vs) (keyword ∷ ws ++ bytes "$end" ∷ xs)

-- The words of a whole text. "Declarations come first, $enddefinitions once and last", and the named vector is among those declared.
pub data Recording (named vs : List ℕ) : List (List ℕ) → Type 0 where
  recording : {codes ws xs : List (List ℕ)} (text : List (List ℕ)) → Declarations codes ws → Memᴰ named codes → NoEnd text → Commands named vs xs
      → Recording named vs (ws ++ (bytes "$enddefinitions" ∷ text ++ bytes "$end" ∷ xs))

-- the text s gives the named vector the values vs, in this order, repeated ones included
pub record Written (named vs s : List ℕ) : Type 0 where
  pub words : List (List ℕ)
  pub says : Recording named vs words
  pub spaced : Spaced words s
