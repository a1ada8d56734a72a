-- A number that is written in decimal digits is read as that number.
-- Assumes nothing.
use Rattle.std.proofs.Common.{◌≡◌, sym, ◌∙◌, true, List, [], ◌∷◌, ℕ, suc, ◌-◌, ◌^◌, ◌<◌, ◌≤◌, length, get_or, leb, Ok, pos, negsuc, arith, leb-true, le-leb, ne_eqb}
use mathlib.Core.Bool.{and-true, and-eq-true_iff}
use native.Mathlib.Decide.{ℕ_discrete}
use lib.Dec.{leb-zero}
use Rattle.digits.specs.Decimal.{digit, digits, decimal, numeral_in, numeral_of}
use Rattle.digits.proofs.Numerals.{Numeral, is_numeral}
use Rattle.numbers.specs.Number.{numeral, natural, integer}

-- digits with no leading zero say their number
digits_say : (t : List ℕ) (greatest : ℕ) → digits t ≡ true → 0 < length t → (get_or t 0 0 ≡ 48 → ⊥) → decimal 0 t ≤ greatest → Ok (decimal 0 t) ≡ natural greatest t
unfolding natural numeral digits
digits_say [] greatest d h f l = absurd (omega arith)
digits_say (b ∷ []) greatest d h f l = rw (sym (and-true (digit b)) ∙ d, le-leb (decimal 0 (b ∷ [])) greatest l)
digits_say (b ∷ c ∷ s) greatest d h f l = rw (ne_eqb b 48 f, d, le-leb (decimal 0 (b ∷ c ∷ s)) greatest l)

zero_back : (greatest : ℕ) → natural greatest (numeral_of 0) ≡ Ok 0
unfolding numeral_of numeral_in natural numeral decimal
zero_back greatest = rw leb-zero

-- THEOREM: a number within its width reads back.
pub natural_back : (greatest n : ℕ) → n ≤ greatest → natural greatest (numeral_of n) ≡ Ok n
unfolding decimal digits
natural_back greatest n l = go (ℕ_discrete n 0)
  where
    r : Numeral (suc n) n [] (numeral_of n)
    r = is_numeral n

    go : Dec (n ≡ 0) → natural greatest (numeral_of n) ≡ Ok n
    go (yes z) = rw z (zero_back greatest)
    go (no z) = sym (digits_say (numeral_of n) greatest r.digit r.some (r.first (omega arith)) (rw r.value l)) ∙ rw r.value

-- the same of signed numbers
pub positive_back : (n : ℕ) → n ≤ 2 ^ 63 - 1 → integer (numeral_of n) ≡ Ok (pos n)
unfolding integer digits
positive_back n l = plain (numeral_of n) (natural_back (2 ^ 63 - 1) n l) (is_numeral n)
  where
    plain : (t : List ℕ) → natural (2 ^ 63 - 1) t ≡ Ok n → Numeral (suc n) n [] t → integer t ≡ Ok (pos n)
    plain [] q r = absurd (omega (arith, r.some))
    plain (b ∷ t) q r =
        let d = ((and-eq-true_iff (digit b) (digits t)).0 r.digit).0 in
        let h : 48 ≤ b = leb-true 48 b ((and-eq-true_iff (leb 48 b) (leb b 57)).0 d).0 in
        rw (ne_eqb b 45 (λ z. omega arith), q)

pub negative_back : (n : ℕ) → suc n ≤ 2 ^ 63 → integer (45 ∷ numeral_of (suc n)) ≡ Ok (negsuc n)
unfolding integer
negative_back n l = rw (natural_back (2 ^ 63) (suc n) l)
