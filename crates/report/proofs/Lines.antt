-- Lines: how long their parts are, and numbers digit by digit. Assumes nothing.
use Rattle.std.proofs.Common.{◌≡◌, ℕ, suc, ◌+◌, ◌/◌, ◌%◌, ◌^◌, ◌<◌, ◌≤◌, List, [], ◌∷◌, ◌++◌, length, true, false, ℤ, pos, negsuc, refl, ◌∙◌, append_assoc, length-append, arith, SFits, w64, Result, Ok, Err}
use lib.Signed.{lt_z}
use lib.IntN.{nat_abs}
use borrow.Author.Tests.{ltb-true}
use Rattle.lists.specs.Bytes.{bytes}
use Rattle.digits.specs.Decimal.{numeral_of, integer_of}
use Rattle.digits.proofs.Numerals.{numeral_one, numeral_more, numeral_short}
use Rattle.report.specs.Line.{stage_word, refusal_text, line_of, line_room}
use Rattle.report.specs.declared.Stage.{Stage}
use Rattle.report.specs.declared.Stage.TheVariants.{Setting, Blocks, Loops, Table}
use Rattle.report.specs.declared.Refusal.{Refusal}

-- a number of one digit
module _ (s : List ℕ) (n : ℕ) (h : n < 10) where
  digit : numeral_of n ≡ (48 + n % 10) ∷ []
  digit = let e : n % 10 ≡ n = omega arith in rw (e, numeral_one n h)

  pub one_fits : length s + length (numeral_of n) ≤ line_room → length s + 1 ≤ line_room
  one_fits f = rw digit at f

  pub one_text : {t : List ℕ} → t ≡ s ++ (48 + n % 10) ∷ [] → t ≡ s ++ numeral_of n
  one_text e = rw digit e

-- a number of two digits or more: all but the last, and then the last
module _ (s : List ℕ) (n : ℕ) (h : 10 ≤ n) where
  both : length (numeral_of n) ≡ length (numeral_of (n / 10)) + 1
  both = rw (numeral_more n h) (length-append (numeral_of (n / 10)) ((48 + n % 10) ∷ []))

  pub front_fits : length s + length (numeral_of n) ≤ line_room → length s + length (numeral_of (n / 10)) ≤ line_room
  front_fits f = omega (arith, both)

  pub last_fits : {t : List ℕ} → t ≡ s ++ numeral_of (n / 10) → length s + length (numeral_of n) ≤ line_room → length t + 1 ≤ line_room
  last_fits e f = rw (e, length-append) (omega (arith, both))

  pub last_text : {t u : List ℕ} → t ≡ s ++ numeral_of (n / 10) → u ≡ t ++ (48 + n % 10) ∷ [] → u ≡ s ++ numeral_of n
  last_text e f = f ∙ rw (e, numeral_more n h, append_assoc)

-- an integer, with its sign
pub negative_text : (z : ℤ) → lt_z z (pos 0) ≡ true → integer_of z ≡ 45 ∷ numeral_of (nat_abs z)
unfolding integer_of
negative_text (pos n) t = absurd (omega (arith, ltb-true n 0 t))
negative_text (negsuc n) t = refl

pub positive_text : (z : ℤ) → lt_z z (pos 0) ≡ false → integer_of z ≡ numeral_of (nat_abs z)
unfolding integer_of
positive_text (pos n) t = refl
positive_text (negsuc n) t = absurd (let e : ◌≡◌ {A = ℕ} 0 1 = cc in omega arith)

pub integer_short : (z : ℤ) → SFits w64 z → length (integer_of z) ≤ 20
unfolding integer_of
integer_short (pos n) f = omega (arith, numeral_short 18 n (omega (arith, f.sfits)))
integer_short (negsuc n) f = omega (arith, numeral_short 18 (suc n) (omega (arith, f.sfits)))

pub stage_short : (s : Stage) → length (stage_word s) ≤ 7
stage_short Setting = omega arith
stage_short Blocks = omega arith
stage_short Loops = omega arith
stage_short Table = omega arith

pub refusal_length : (r : Refusal) → length (refusal_text r) ≡ length (stage_word r.stage) + length (numeral_of r.number) + length (numeral_of r.place) + 2
unfolding refusal_text
refusal_length r = simp length-append (omega arith)

pub refusal_told : (r : Refusal) (s : List ℕ) {a b c d t w : List ℕ} → w ≡ stage_word r.stage → a ≡ s ++ w → b ≡ a ++ 32 ∷ [] → c ≡ b ++ numeral_of r.number → d ≡ c ++ 32 ∷ [] → t ≡ d ++ numeral_of r.place → t ≡ s ++ refusal_text r
unfolding refusal_text
refusal_told r s h a b c d t = t ∙ rw (d, c, b, a, h) (simp append_assoc)

pub refusal_short : (r : Refusal) → r.number < 2 ^ 32 → r.place < 2 ^ 64 → length (refusal_text r) ≤ 39
refusal_short r n p = omega (arith, refusal_length r, stage_short r.stage, numeral_short 9 r.number (omega arith), numeral_short 19 r.place (omega arith))

-- a whole line
pub accepted_told : (z : ℤ) {o : Result ℤ Refusal} {a b c d : List ℕ} → o ≡ Ok z → a ≡ [] → b ≡ a ++ bytes "accepted " → c ≡ b ++ integer_of z → d ≡ c ++ 10 ∷ [] → d ≡ line_of o
unfolding line_of
accepted_told z o a b c d = d ∙ rw (c, b, a, o) (simp append_assoc)

pub refused_told : (r : Refusal) {o : Result ℤ Refusal} {a b c d : List ℕ} → o ≡ Err r → a ≡ [] → b ≡ a ++ bytes "refused " → c ≡ b ++ refusal_text r → d ≡ c ++ 10 ∷ [] → d ≡ line_of o
unfolding line_of
refused_told r o a b c d = d ∙ rw (c, b, a, o) (simp append_assoc)
