-- The digits at a position of a text: how many they are, and their number at a width. A width is given by the greatest number that it holds.
-- Assumes nothing: these are definitions.
use Rattle.std.specs.Prelude.{ℕ, suc, ◌+◌, cond, List, [], ◌∷◌, leb, take, Option, Some, None}
use Rattle.digits.specs.Decimal.{digit, decimal}
use Rattle.digits.specs.declared.DigitRun.{DigitRun}

-- how many digits stand at the start of s
unfoldable pub digit_count : List ℕ → ℕ
digit_count [] = 0
digit_count (b ∷ s) = cond (digit b) (suc (digit_count s)) 0

-- n as a number of a type, made by `of`, if the type holds it: its width ends at `greatest`
abbrev pub held : {A : Type 0} → (ℕ → A) → ℕ → ℕ → Option A
held of greatest n = cond (leb n greatest) (Some (of n)) None

-- the digits at `at`, gathered at a width, where s is the rest of the text from `at` on
abbrev pub run_at : {A : Type 0} → (ℕ → A) → ℕ → ℕ → List ℕ → DigitRun A
run_at of greatest at s = record { value = held of greatest (decimal 0 (take (digit_count s) s)); end = at + digit_count s }
