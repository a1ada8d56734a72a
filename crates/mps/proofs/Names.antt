-- Names and numbers of the text: their bytes, their lengths, and that a name or a number is read as what was written. Assumes nothing.
use mathlib.Core.Path.{◌≡◌, refl, sym, ◌∙◌, ap}
use mathlib.Core.Bool.{Bool, true, false, ◌&&◌}
use mathlib.Core.List.{[], ◌∷◌}
use mathlib.Core.Option.{some}
use Prim.Native.Nat.{ℕ, zero, suc, ◌+◌, ◌-◌, ◌*◌, ◌/◌, ◌%◌, ◌<◌, ◌≤◌}
use native.Mathlib.Omega.{arith}
use lib.Dec.{leb}
use lib.IntN.{ℤ, pos, negsuc}
use lib.ListN.{length, drop}
use borrow.Author.Tests.{leb-true, ne_eqb}
use Rattle.lists.proofs.Bytes.{same_true}
use Rattle.lists.specs.Bytes.{same}
use Rattle.lists.proofs.Tests.{and-true}
use Rattle.digits.specs.Decimal.{digits, decimal, numeral_of, integer_of}
use Rattle.digits.proofs.Numerals.{Numeral, is_numeral, numeral_short}
use Rattle.mps.specs.Program.{RowName, objective, block, loop}
use Rattle.mps.specs.Mps.{Bytes, natural_in, number_in}
use Rattle.mps.specs.Text.{digits_in, row_name, edge_name}

-- bytes that are neither blanks nor line ends
abbrev pub Dark : Bytes → Type 0
Dark [] = Unit {0}
Dark (b ∷ s) = (32 < b) × Dark s

-- the first of some digits is one, and so are the rest
one_digit : (b : ℕ) (s : Bytes) → digits (b ∷ s) ≡ true → (48 ≤ b) × (digits s ≡ true)
unfolding digits
one_digit b s e =
    let q : ((leb 48 b && leb b 57) ≡ true) × (digits s ≡ true) = and-true (leb 48 b && leb b 57) (digits s) e in
    (leb-true 48 b (and-true (leb 48 b) (leb b 57) q.0).0, q.1)

digits_dark : (s : Bytes) → digits s ≡ true → Dark s
digits_dark [] e = tt
digits_dark (b ∷ s) e = let q = one_digit b s e in (omega (arith, q.0), digits_dark s q.1)

-- ---- n in k digits

dark_digits : (k n : ℕ) (s : Bytes) → Dark s → Dark (digits_in k n s)
unfolding digits_in
dark_digits zero n s d = d
dark_digits (suc k) n s d = dark_digits k (n / 10) ((48 + n % 10) ∷ s) (omega arith, d)

pub length_digits : (k n : ℕ) (s : Bytes) → length (digits_in k n s) ≡ k + length s
unfolding digits_in
length_digits zero n s = omega arith
length_digits (suc k) n s = let e : length (digits_in k (n / 10) ((48 + n % 10) ∷ s)) ≡ k + suc (length s) = length_digits k (n / 10) ((48 + n % 10) ∷ s) in omega arith

-- k digits write each number below some bound: 10 times that bound with one digit more
abbrev pub Written : ℕ → ℕ → Type 0
Written k bound = (n : ℕ) (s : Bytes) → n < bound → decimal 0 (digits_in k n s) ≡ decimal n s

one_more : (k bound : ℕ) → Written k bound → Written (suc k) (bound * 10)
unfolding digits_in decimal
one_more k bound w n s h =
    let e : n / 10 * 10 + (48 + n % 10 - 48) ≡ n = omega arith in
    w (n / 10) ((48 + n % 10) ∷ s) (omega arith) ∙ rw e

no_digit : Written 0 1
unfolding digits_in
no_digit n s h = let z : n ≡ 0 = omega arith in rw z

pub two_digits : Written 2 100
two_digits = one_more 1 10 (one_more 0 1 no_digit)

pub four_digits : Written 4 10000
four_digits = one_more 3 1000 (one_more 2 100 two_digits)

-- so numbers below the bound that are written alike are the same
pub digits_apart : (k bound a b : ℕ) → Written k bound → a < bound → b < bound → digits_in k a [] ≡ digits_in k b [] → a ≡ b
unfolding decimal
digits_apart k bound a b w p q e = sym (w a [] p) ∙ ap (decimal 0) e ∙ w b [] q

-- ---- names

-- a name that a field of eight columns holds
pub record Name (s : Bytes) : Type 0 where
  pub dark : Dark s
  pub size : length s ≤ 8

pub row_named : (r : RowName) → Name (row_name r)
unfolding row_name
row_named objective = record { dark = omega arith; size = omega arith }
row_named (block u) = record { dark = (omega arith, dark_digits 4 u [] tt); size = omega (arith, length_digits 4 u []) }
row_named (loop l) = record { dark = (omega arith, dark_digits 2 l [] tt); size = omega (arith, length_digits 2 l []) }

pub edge_named : (e : ℕ) → Name (edge_name e)
unfolding edge_name
edge_named e = record { dark = (omega arith, dark_digits 4 e [] tt); size = omega (arith, length_digits 4 e []) }

-- a letter and digits: names of different numbers differ
pub numbered_apart : (letter k bound : ℕ) → Written k bound → (d e : ℕ) → d < e → e < bound → same (letter ∷ digits_in k d []) (letter ∷ digits_in k e []) ≡ false
numbered_apart letter k bound w d e h l = go (same (letter ∷ digits_in k d []) (letter ∷ digits_in k e [])) refl
  where
    go : (b : Bool) → same (letter ∷ digits_in k d []) (letter ∷ digits_in k e []) ≡ b → b ≡ false
    go true q =
        let z : d ≡ e = digits_apart k bound d e w (omega arith) l (ap (drop 1) (same_true (letter ∷ digits_in k d []) (letter ∷ digits_in k e []) q)) in
        absurd (omega arith)
    go false q = refl

-- ---- numbers

-- a number of seven digits at most
abbrev pub Small : ℤ → Type 0
Small (pos n) = n < 10000000
Small (negsuc n) = suc n < 10000000

pub whole_dark : (x : ℤ) → Dark (integer_of x)
unfolding integer_of digits
whole_dark (pos n) = digits_dark (numeral_of n) (is_numeral n).digit
whole_dark (negsuc n) = (omega arith, digits_dark (numeral_of (suc n)) (is_numeral (suc n)).digit)

pub whole_size : (x : ℤ) → Small x → length (integer_of x) ≤ 12
unfolding integer_of
whole_size (pos n) h = omega (arith, numeral_short 6 n h)
whole_size (negsuc n) h = omega (arith, numeral_short 6 (suc n) h)

natural_back : (n : ℕ) (t : Bytes) → Numeral (suc n) n [] t → natural_in t ≡ some n
unfolding digits decimal
natural_back n [] r = absurd (omega (arith, r.some))
natural_back n (b ∷ t) r = rw (r.digit, r.value)

pub number_back : (x : ℤ) → number_in (integer_of x) ≡ some x
unfolding integer_of number_in digits
number_back (pos n) = go (numeral_of n) (is_numeral n)
  where
    go : (t : Bytes) → Numeral (suc n) n [] t → number_in t ≡ some (pos n)
    go [] r = absurd (omega (arith, r.some))
    go (b ∷ t) r = let h : 48 ≤ b = (one_digit b t r.digit).0 in rw (ne_eqb b 45 (λ z. omega arith), natural_back n (b ∷ t) r)
number_back (negsuc n) = rw (natural_back (suc n) (numeral_of (suc n)) (is_numeral (suc n)))
