-- What is put into a lent buffer, and the lines of fixed MPS in parts.
use Rattle.std.specs.Prelude.{ℕ, ◌+◌, ◌≤◌, ◌≡◌, Bool, List, [], ◌∷◌, ◌++◌, length, ℤ, pos, neg_ℤ}
use Rattle.std.proofs.Math.Seq.{paste}
use Rattle.lists.specs.Search.{when◌then◌else◌}
use Rattle.digits.specs.Decimal.{integer_of}
use Rattle.mps.specs.Program.{block, loop, is_zero}
use Rattle.mps.specs.Text.{row_name, filled}
use Rattle.cards.specs.declared.Cursor.{Cursor}

-- the cursor's buffer has room for w
abbrev pub Space : List ℕ → Cursor → Type 0
Space w c = c.at + length w ≤ length c.out.now

-- from cursor c to d: w is put into the same buffer
pub record Put (w : List ℕ) (c d : Cursor) : Type 0 where
  pub same : d.out.ghost_name ≡ c.out.ghost_name
  pub next : d.at ≡ c.at + length w
  pub held : d.out.now ≡ paste c.out.now c.at w (length w)

-- columns 1 to 24 of a card
unfoldable pub head : List ℕ → List ℕ → List ℕ
head name row = 32 ∷ 32 ∷ 32 ∷ 32 ∷ filled name (filled row [])

-- the line of a row, with its end
unfoldable pub block_row : ℕ → List ℕ
block_row u = 32 ∷ 69 ∷ 32 ∷ 32 ∷ row_name (block u) ++ 10 ∷ []

unfoldable pub loop_row : ℕ → List ℕ
loop_row l = 32 ∷ 76 ∷ 32 ∷ 32 ∷ row_name (loop l) ++ 10 ∷ []

-- the number of a sign and a size
unfoldable pub signed : Bool → ℕ → ℤ
signed negative n = when negative then neg_ℤ (pos n) else pos n

-- the card of a number with its end: none, where the number is 0
unfoldable pub card : List ℕ → ℤ → List ℕ
card h x = when is_zero x then [] else h ++ integer_of x ++ 10 ∷ []

-- r is the length of such a card, whatever its first 24 columns hold
pub record CardLength (x : ℤ) (r : ℕ) : Type 0 where
  pub exact : (h : List ℕ) → length h ≡ 24 → r ≡ length (card h x)
  pub most : r ≤ 46
