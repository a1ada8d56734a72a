-- The digits that write a number: they write that number, and they are its last digit after those of its tenth.
-- Assumes nothing.
use Rattle.std.proofs.Common.{◌≡◌, refl, ◌∙◌, ap, Bool, true, false, cond, List, [], ◌∷◌, ◌++◌, ℕ, zero, suc, ◌+◌, ◌-◌, ◌*◌, ◌/◌, ◌%◌, ◌^◌, ◌<◌, ◌≤◌, arith, le-leb, ltb-true, ltb-false, lt-ltb, le-ltb, length, length-append, get_or, ltb}
use Rattle.digits.specs.Decimal.{digits, decimal, numeral_in, numeral_of}

-- what holds of the digits of n in front of s, by cases on n < 10
module _ (P : ℕ → ℕ → List ℕ → List ℕ → Type 0) (one : (n : ℕ) (s : List ℕ) → n < 10 → (k : ℕ) → P (suc k) n s ((48 + n) ∷ s)) (more : (k n : ℕ) (s t : List ℕ) → 10 ≤ n → P k (n / 10) ((48 + n % 10) ∷ s) t → P (suc k) n s t) where
  by_digits : (k n : ℕ) (s : List ℕ) → n < k → P k n s (numeral_in k n s)
  unfolding numeral_in
  by_digits zero n s h = absurd (omega arith)
  by_digits (suc k) n s h = go (ltb n 10) refl (λ l. by_digits k (n / 10) ((48 + n % 10) ∷ s) l)
    where
      go : (b : Bool) → ltb n 10 ≡ b → (n / 10 < k → P k (n / 10) ((48 + n % 10) ∷ s) (numeral_in k (n / 10) ((48 + n % 10) ∷ s))) → P (suc k) n s (cond b ((48 + n) ∷ s) (numeral_in k (n / 10) ((48 + n % 10) ∷ s)))
      go true e ih = one n s (ltb-true n 10 e) k
      go false e ih = let l : 10 ≤ n = ltb-false n 10 e in more k n s (numeral_in k (n / 10) ((48 + n % 10) ∷ s)) l (ih (omega arith))

-- the digits write n, they are digits, and they do not start with 0 unless n is 0
pub record Numeral (k n : ℕ) (s t : List ℕ) : Type 0 where
  pub value : decimal 0 t ≡ decimal n s
  pub digit : digits t ≡ digits s
  pub some : 0 < length t
  pub first : 0 < n → get_or t 0 0 ≡ 48 → ⊥

pub is_numeral : (n : ℕ) → Numeral (suc n) n [] (numeral_of n)
unfolding numeral_of decimal digits
is_numeral n = by_digits Numeral one more (suc n) n [] (omega arith)
  where
    one : (n : ℕ) (s : List ℕ) → n < 10 → (k : ℕ) → Numeral (suc k) n s ((48 + n) ∷ s)
    one n s h k =
        let e : 0 * 10 + (48 + n - 48) ≡ n = omega arith in
        record { value = rw e; digit = rw (le-leb 48 (48 + n) (omega arith), le-leb (48 + n) 57 (omega arith)); some = omega arith; first = λ p q. omega arith }

    more : (k n : ℕ) (s t : List ℕ) → 10 ≤ n → Numeral k (n / 10) ((48 + n % 10) ∷ s) t → Numeral (suc k) n s t
    more k n s t h r =
        let e : n / 10 * 10 + (48 + n % 10 - 48) ≡ n = omega arith in
        record { value = r.value ∙ rw e; digit = r.digit ∙ rw (le-leb 48 (48 + n % 10) (omega arith), le-leb (48 + n % 10) 57 (omega arith)); some = r.some; first = λ p. r.first (omega arith) }

-- ---- the digits one by one

-- more digits than the number has play no part
fuel : (k j n : ℕ) (s : List ℕ) → n < k → n < j → numeral_in k n s ≡ numeral_in j n s
unfolding numeral_in
fuel zero j n s h l = absurd (omega arith)
fuel (suc k) zero n s h l = absurd (omega arith)
fuel (suc k) (suc j) n s h l = go (ltb n 10) refl (fuel k j (n / 10) ((48 + n % 10) ∷ s))
  where
    go : (b : Bool) → ltb n 10 ≡ b → (n / 10 < k → n / 10 < j → numeral_in k (n / 10) ((48 + n % 10) ∷ s) ≡ numeral_in j (n / 10) ((48 + n % 10) ∷ s))
        → cond b ((48 + n) ∷ s) (numeral_in k (n / 10) ((48 + n % 10) ∷ s)) ≡ cond b ((48 + n) ∷ s) (numeral_in j (n / 10) ((48 + n % 10) ∷ s))
    go true e ih = refl
    go false e ih = let m : 10 ≤ n = ltb-false n 10 e in ih (omega arith) (omega arith)

in_front : (k n : ℕ) (s t : List ℕ) → numeral_in k n (s ++ t) ≡ numeral_in k n s ++ t
unfolding numeral_in
in_front zero n s t = refl
in_front (suc k) n s t = go (ltb n 10) (in_front k (n / 10) ((48 + n % 10) ∷ s) t)
  where
    go : (b : Bool) → numeral_in k (n / 10) ((48 + n % 10) ∷ s ++ t) ≡ numeral_in k (n / 10) ((48 + n % 10) ∷ s) ++ t
        → cond b ((48 + n) ∷ s ++ t) (numeral_in k (n / 10) ((48 + n % 10) ∷ s ++ t)) ≡ cond b ((48 + n) ∷ s) (numeral_in k (n / 10) ((48 + n % 10) ∷ s)) ++ t
    go true ih = refl
    go false ih = ih

pub numeral_one : (n : ℕ) → n < 10 → numeral_of n ≡ (48 + n) ∷ []
unfolding numeral_of numeral_in
numeral_one n h = rw (lt-ltb n 10 h)

pub numeral_more : (n : ℕ) → 10 ≤ n → numeral_of n ≡ numeral_of (n / 10) ++ (48 + n % 10) ∷ []
unfolding numeral_of numeral_in
numeral_more n h = rw (le-ltb n 10 h) (in_front n (n / 10) [] ((48 + n % 10) ∷ []) ∙ ap (λ (s : List ℕ). s ++ (48 + n % 10) ∷ []) (fuel n (suc (n / 10)) (n / 10) [] (omega arith) (omega arith)))

-- a number below 10 to the k has at most k digits
pub numeral_short : (k n : ℕ) → n < 10 ^ suc k → length (numeral_of n) ≤ suc k
numeral_short zero n h = rw (numeral_one n (omega arith)) (omega arith)
numeral_short (suc k) n h = go (ltb n 10) refl (numeral_short k (n / 10))
  where
    go : (b : Bool) → ltb n 10 ≡ b → (n / 10 < 10 ^ suc k → length (numeral_of (n / 10)) ≤ suc k) → length (numeral_of n) ≤ suc (suc k)
    go true e ih = rw (numeral_one n (ltb-true n 10 e)) (omega arith)
    go false e ih = rw (numeral_more n (ltb-false n 10 e), length-append (numeral_of (n / 10)) ((48 + n % 10) ∷ [])) (omega (arith, ih (omega arith)))
