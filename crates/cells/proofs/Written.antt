-- A number that is written in decimal digits, in a field with quote marks or without, is read as that number.
-- Assumes nothing.
use Rattle.std.proofs.Common.{◌≡◌, ap, ◌∙◌, ◌∷◌, ℕ, suc, ◌-◌, ◌^◌, ◌≤◌, Ok, pos, negsuc}
use Rattle.digits.specs.Decimal.{numeral_of}
use Rattle.numbers.specs.Number.{natural, integer}
use Rattle.numbers.proofs.Written.{natural_back, positive_back, negative_back}
use Rattle.csv_text.specs.Write.{Entry, entry_text, written, Unmarked}
use Rattle.csv_text.proofs.Inverse.{content_written}
use Rattle.cells.specs.Cell.{unsigned, signed}

module _ (f : Entry) (u : Unmarked f) where
  -- THEOREM: a number within its width reads back, whether its field stands between quote marks or not.
  pub number_back : (greatest n : ℕ) → entry_text f ≡ numeral_of n → n ≤ greatest → unsigned greatest (written f) ≡ Ok n
  unfolding unsigned
  number_back greatest n e l = ap (natural greatest) (content_written f u ∙ e) ∙ natural_back greatest n l

  -- the same of signed numbers
  pub signed_back : (n : ℕ) → entry_text f ≡ numeral_of n → n ≤ 2 ^ 63 - 1 → signed (written f) ≡ Ok (pos n)
  unfolding signed
  signed_back n e l = ap integer (content_written f u ∙ e) ∙ positive_back n l

  pub minus_back : (n : ℕ) → entry_text f ≡ 45 ∷ numeral_of (suc n) → suc n ≤ 2 ^ 63 → signed (written f) ≡ Ok (negsuc n)
  unfolding signed
  minus_back n e l = ap integer (content_written f u ∙ e) ∙ negative_back n l
