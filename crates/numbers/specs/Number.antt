-- Decimal numbers over a list of bytes: what a text without quote marks says. Document 01, "Reading the text".
-- Assumes nothing: these are definitions.
use Rattle.std.specs.Prelude.{ℕ, zero, suc, ◌-◌, ◌^◌, Bool, false, cond, not, ◌&&◌, List, [], ◌∷◌, leb, eqb, ℤ, pos, negsuc, Result, Ok, Err}
use Rattle.digits.specs.Decimal.{digit, digits, decimal}
use Rattle.digits.specs.declared.NotNumber.{NotNumber}
use Rattle.digits.specs.declared.NotNumber.TheVariants.{Missing, Bad}

-- "A number is decimal digits with no leading zero other than 0 alone."
unfoldable pub numeral : List ℕ → Bool
numeral [] = false
numeral (b ∷ []) = digit b
numeral (b ∷ c ∷ s) = not (eqb b 48) && digits (b ∷ c ∷ s)

-- a number of at most `greatest`; an empty text is missing
unfoldable pub natural : ℕ → List ℕ → Result ℕ NotNumber
natural greatest [] = Err Missing
natural greatest (b ∷ s) = cond (numeral (b ∷ s) && leb (decimal 0 (b ∷ s)) greatest) (Ok (decimal 0 (b ∷ s))) (Err Bad)

-- a number with no sign; and one after a minus sign, where "−0 is no number"
abbrev pub plus : Result ℕ NotNumber → Result ℤ NotNumber
plus (Ok n) = Ok (pos n)
plus (Err e) = Err e

abbrev pub minus : Result ℕ NotNumber → Result ℤ NotNumber
minus (Ok zero) = Err Bad
minus (Ok (suc n)) = Ok (negsuc n)
minus (Err e) = Err Bad

-- "Only the figure may have a minus sign (byte 2D hexadecimal)": from −2^63 to 2^63−1
unfoldable pub integer : List ℕ → Result ℤ NotNumber
integer [] = Err Missing
integer (b ∷ s) = cond (eqb b 45) (minus (natural (2 ^ 63) s)) (plus (natural (2 ^ 63 - 1) (b ∷ s)))
