-- Decimal digits over a list of bytes: the number that they write, and the digits that write a number. Document 01, "Reading the text".
-- Assumes nothing: these are definitions.
use Rattle.std.specs.Prelude.{ℕ, zero, suc, ◌+◌, ◌-◌, ◌*◌, ◌/◌, ◌%◌, Bool, true, cond, ◌&&◌, List, [], ◌∷◌, leb, ltb, ℤ, pos, negsuc}

-- the decimal digits, bytes 30 to 39 hexadecimal
abbrev pub digit : ℕ → Bool
digit b = leb 48 b && leb b 57

unfoldable pub digits : List ℕ → Bool
digits [] = true
digits (b ∷ s) = digit b && digits s

-- the number that the digits of s write after those of n
unfoldable pub decimal : ℕ → List ℕ → ℕ
decimal n [] = n
decimal n (b ∷ s) = decimal (n * 10 + (b - 48)) s

-- The other way round: the decimal digits of n with no leading zero, in front of s. A number below k has at most k digits.
unfoldable pub numeral_in : ℕ → ℕ → List ℕ → List ℕ
numeral_in zero n s = s
numeral_in (suc k) n s = cond (ltb n 10) ((48 + n) ∷ s) (numeral_in k (n / 10) ((48 + n % 10) ∷ s))

unfoldable pub numeral_of : ℕ → List ℕ
numeral_of n = numeral_in (suc n) n []

-- with a minus sign where it is negative
unfoldable pub integer_of : ℤ → List ℕ
integer_of (pos n) = numeral_of n
integer_of (negsuc n) = 45 ∷ numeral_of (suc n)
