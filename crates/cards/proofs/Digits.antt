-- The last digits of a number, put into a line from the last place on. Assumes nothing.
use Rattle.std.proofs.Common.{◌≡◌, ℕ, zero, suc, ◌+◌, ◌-◌, ◌/◌, ◌%◌, ◌<◌, ◌≤◌, Bool, true, false, ltb, ltb-true, ltb-false, List, [], ◌∷◌, ◌++◌, length, length-append, take, drop, refl, sym, ◌∙◌, ap, arith, append_assoc, set}
use Rattle.std.proofs.Math.Seq.{paste}
use Rattle.std.proofs.lemmas.List.{take_all, take-set-le, drop-set, take-append-drop}
use Rattle.mps.specs.Text.{digits_in}
use Rattle.digits.specs.Decimal.{numeral_of}
use Rattle.digits.proofs.Numerals.{numeral_one, numeral_more}
use Rattle.mps.proofs.Names.{length_digits}

digits_onto : (k n : ℕ) (s : List ℕ) → digits_in k n s ≡ digits_in k n [] ++ s
unfolding digits_in
digits_onto zero n s = refl
digits_onto (suc k) n s = digits_onto k (n / 10) ((48 + n % 10) ∷ s) ∙ sym (append_assoc (digits_in k (n / 10) []) ((48 + n % 10) ∷ []) s) ∙ ap (λ (t : List ℕ). t ++ s) (sym (digits_onto k (n / 10) ((48 + n % 10) ∷ [])))

pub digits_none : (line : List ℕ) (at k n : ℕ) → take at line ++ digits_in (at + k - at) n (drop (at + k) line) ≡ paste line at (digits_in k n []) k
digits_none line at k n =
    let z : at + k - at ≡ k = omega arith in
    let all : take k (digits_in k n []) ≡ digits_in k n [] = take_all k (digits_in k n []) (omega (arith, length_digits k n [])) in
    rw (z, digits_onto k n (drop (at + k) line), all) (sym (append_assoc (take at line) (digits_in k n []) (drop (at + k) line)))

pub digits_next : (out : List ℕ) (at j rest : ℕ) → at < j → j ≤ length out
    → take at (set out (j - 1) (48 + rest % 10)) ++ digits_in (j - 1 - at) (rest / 10) (drop (j - 1) (set out (j - 1) (48 + rest % 10))) ≡ take at out ++ digits_in (j - at) rest (drop j out)
unfolding digits_in
digits_next out at j rest p q =
    let front : at ≤ j - 1 = omega arith in
    let inside : j - 1 < length out = omega arith in
    let z : j - 1 + 1 ≡ j = omega arith in
    let more : j - at ≡ suc (j - 1 - at) = omega arith in
    rw (take-set-le at out (j - 1) (48 + rest % 10), drop-set out (j - 1) (48 + rest % 10), z, more)

pub digits_all : (out : List ℕ) (at j rest : ℕ) (all : List ℕ) → j ≡ at → take at out ++ digits_in (j - at) rest (drop j out) ≡ all → out ≡ all
unfolding digits_in
digits_all out at j rest all q e = let z : at - at ≡ 0 = omega arith in sym (take-append-drop at out) ∙ rw (q, z) at e

-- the digits of a number, as many as it has
numeral_digits_below : (f n : ℕ) → n < f → digits_in (length (numeral_of n)) n [] ≡ numeral_of n
unfolding digits_in
numeral_digits_below zero n h = absurd (omega arith)
numeral_digits_below (suc f) n h = go (ltb n 10) refl (numeral_digits_below f (n / 10))
  where
    go : (b : Bool) → ltb n 10 ≡ b → (n / 10 < f → digits_in (length (numeral_of (n / 10))) (n / 10) [] ≡ numeral_of (n / 10)) → digits_in (length (numeral_of n)) n [] ≡ numeral_of n
    go true e ih = let l : n < 10 = ltb-true n 10 e in let m : n % 10 ≡ n = omega arith in rw (numeral_one n l, m)
    go false e ih =
        let l : 10 ≤ n = ltb-false n 10 e in
        let k : length (numeral_of n) ≡ suc (length (numeral_of (n / 10))) = rw (numeral_more n l, length-append (numeral_of (n / 10)) ((48 + n % 10) ∷ [])) (omega arith) in
        rw (k, digits_onto (length (numeral_of (n / 10))) (n / 10) ((48 + n % 10) ∷ []), ih (omega arith)) (sym (numeral_more n l))

pub numeral_digits : (n : ℕ) → digits_in (length (numeral_of n)) n [] ≡ numeral_of n
numeral_digits n = numeral_digits_below (suc n) n (omega arith)

pub numeral_none : (out : List ℕ) (at r n : ℕ) → r ≡ length (numeral_of n) → take at out ++ digits_in (at + r - at) n (drop (at + r) out) ≡ paste out at (numeral_of n) (length (numeral_of n))
numeral_none out at r n e = rw e (rw (numeral_digits n) at (digits_none out at (length (numeral_of n)) n))
