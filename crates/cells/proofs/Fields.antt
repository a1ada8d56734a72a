-- What a field says as a number: quote marks make no difference, and a number that is read fits its width.
-- Assumes nothing.
use Rattle.std.proofs.Common.{◌≡◌, refl, ap, ◌∙◌, Bool, true, false, cond, ◌&&◌, ◌||◌, List, [], ◌∷◌, ℕ, ◌≤◌, eqb, ℤ, drop, Result, Ok, Err, SFits, w64, arith, eqb-true}
use mathlib.Core.Bool.{and-false, false≢true}
use Rattle.digits.specs.Decimal.{digit, digits}
use Rattle.digits.specs.declared.NotNumber.{NotNumber}
use Rattle.digits.specs.declared.NotNumber.TheVariants.{Bad}
use Rattle.numbers.specs.Number.{natural, integer}
use Rattle.numbers.specs.Steps.{sign_count, in_type}
use Rattle.numbers.proofs.Numbers.{no_digits, no_integer, natural_fits, integer_fits, in_type_same}
use Rattle.csv_text.specs.Grammar.{is_quote, content}
use Rattle.csv_text.specs.Place.{inner}
use Rattle.csv_text.proofs.Quotes.{has_mark, through}
use Rattle.cells.specs.Cell.{unsigned, signed}

-- a text that holds a quote mark is no number
mark_no_digits : (s : List ℕ) → has_mark s ≡ true → digits s ≡ false
unfolding has_mark digits
mark_no_digits [] e = absurd (false≢true e)
mark_no_digits (b ∷ s) e = go (is_quote b) refl e (λ m. mark_no_digits s m)
  where
    go : (t : Bool) → is_quote b ≡ t → (t || has_mark s) ≡ true → (has_mark s ≡ true → digits s ≡ false) → (digit b && digits s) ≡ false
    go true f e ih = let z : b ≡ 34 = eqb-true b 34 f in rw z
    go false f e ih = rw (ih e) (and-false (digit b))

mark_after_sign : (s : List ℕ) → has_mark s ≡ true → has_mark (drop (sign_count s) s) ≡ true
unfolding has_mark sign_count
mark_after_sign [] m = m
mark_after_sign (b ∷ s) m = go (eqb b 45) refl m
  where
    rest : (q : Bool) → is_quote b ≡ q → b ≡ 45 → (q || has_mark s) ≡ true → has_mark s ≡ true
    rest true f z e = absurd (let y : b ≡ 34 = eqb-true b 34 f in omega arith)
    rest false f z e = e

    go : (t : Bool) → eqb b 45 ≡ t → (is_quote b || has_mark s) ≡ true → has_mark (drop (cond t 1 0) (b ∷ s)) ≡ true
    go true g m = rest (is_quote b) refl (eqb-true b 45 g) m
    go false g m = m

-- Each way through the functions on a field: r is what its inner part says.
pub unsigned_law : {r : Result ℕ NotNumber} {t : List ℕ} (w : List ℕ) {g : ℕ} (greatest : ℕ) → t ≡ inner w → g ≡ greatest → r ≡ in_type (λ n. n) (natural g t) → r ≡ unsigned greatest w
unfolding unsigned
unsigned_law {r} {t} w {g} greatest e z q =
    let y : r ≡ natural g t = q ∙ in_type_same (natural g t) in
    y ∙ rw (z, e) (through (natural greatest) (Err Bad) (λ s m. no_digits s greatest (mark_no_digits s m)) w)

pub signed_law : {r : Result ℤ NotNumber} {t : List ℕ} (w : List ℕ) → t ≡ inner w → r ≡ integer t → r ≡ signed w
unfolding signed
signed_law w e q = q ∙ ap integer e ∙ through integer (Err Bad) (λ s m. no_integer s (mark_no_digits (drop (sign_count s) s) (mark_after_sign s m))) w

-- a number that a field says is within its width
pub unsigned_fits : (w : List ℕ) (greatest n : ℕ) {v : Result ℕ NotNumber} → v ≡ unsigned greatest w → v ≡ Ok n → n ≤ greatest
unfolding unsigned
unsigned_fits w greatest n q e = natural_fits (content w) greatest n q e

-- a signed number that a field says fits an `i64`
pub signed_fits : (w : List ℕ) (z : ℤ) {v : Result ℤ NotNumber} → v ≡ signed w → v ≡ Ok z → SFits w64 z
unfolding signed
signed_fits w z q e = integer_fits (content w) z q e
