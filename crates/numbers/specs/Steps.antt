-- What the steps of a reading answer: the sign at a position of a text, and what digits say once their number is known. A width is given by the greatest
-- number that it holds.
-- Assumes nothing: these are definitions.
use Rattle.std.specs.Prelude.{ℕ, ◌-◌, ◌^◌, Bool, false, cond, List, [], ◌∷◌, eqb, leb, ℤ, Option, Some, None, Result, Ok, Err}
use Rattle.digits.specs.declared.NotNumber.{NotNumber}
use Rattle.digits.specs.declared.NotNumber.TheVariants.{Missing, Bad}
use Rattle.numbers.specs.Number.{plus, minus}

-- whether a minus sign stands at the start of s, as a count of bytes
unfoldable pub sign_count : List ℕ → ℕ
sign_count [] = 0
sign_count (b ∷ s) = cond (eqb b 45) 1 0

-- "no leading zero other than 0 alone": whether digits have one
unfoldable pub leading_zero : List ℕ → Bool
leading_zero [] = false
leading_zero (b ∷ []) = false
leading_zero (b ∷ c ∷ s) = eqb b 48

-- an answer whose number is of a type, made by `of`
abbrev pub in_type : {A : Type 0} → (ℕ → A) → Result ℕ NotNumber → Result A NotNumber
in_type of (Ok n) = Ok (of n)
in_type of (Err e) = Err e

-- what was gathered in a type, whose numbers are told by `number`, at a width that may be smaller
abbrev pub at_width : {A : Type 0} → (A → ℕ) → ℕ → Option A → Result A NotNumber
at_width number greatest (Some n) = cond (leb (number n) greatest) (Ok n) (Err Bad)
at_width number greatest None = Err Bad

-- What digits alone say, where v is the number that they write. Nothing at all is missing.
unfoldable pub natural_by : {A : Type 0} → (A → ℕ) → ℕ → List ℕ → Option A → Result A NotNumber
natural_by number greatest [] v = Err Missing
natural_by number greatest (b ∷ s) v = cond (leading_zero (b ∷ s)) (Err Bad) (at_width number greatest v)

-- the same of digits that may follow a minus sign
unfoldable pub integer_by : List ℕ → Option ℕ → Result ℤ NotNumber
integer_by [] v = Err Missing
integer_by (b ∷ s) v = cond (eqb b 45) (minus (natural_by (λ n. n) (2 ^ 63) s v)) (plus (natural_by (λ n. n) (2 ^ 63 - 1) (b ∷ s) v))
