-- What digits say once their number is known, over any width; and that a number that is read fits its width.
-- Assumes nothing.
use Rattle.std.proofs.Common.{◌≡◌, refl, sym, ap, subst, ◌∙◌, Bool, true, false, cond, not, ◌&&◌, List, [], ◌∷◌, ℕ, zero, suc, ◌+◌, ◌-◌, ◌^◌, ◌<◌, ◌≤◌, length, take, drop, get_or, leb, ltb, eqb, Option, Some, None, Result, Ok, Err, ℤ, pos, negsuc, ◌-ℤ◌, SFits, w64, arith, true≢false, zero-add, add-zero, sub-one, eqb-true, leb-true, leb-false, eq-eqb, ne_eqb, length-drop, drop_of_length-le, take_all, drop-cons, to_z, of_z, to_z-of_z}
use mathlib.Core.Bool.{and-true, and-false}
use borrow.Author.Tests.{lt-leb}
use mir.Facts.{to_z_pos}
use Rattle.digits.specs.Decimal.{digit, digits, decimal}
use Rattle.digits.specs.Run.{digit_count, held, run_at}
use Rattle.digits.specs.declared.NotNumber.{NotNumber}
use Rattle.digits.specs.declared.NotNumber.TheVariants.{Missing, Bad}
use Rattle.digits.specs.declared.DigitRun.{DigitRun}
use Rattle.digits.proofs.Runs.{count_digits, count_all}
use Rattle.std.specs.Option.{option_map, ok_or}
use Rattle.numbers.specs.Number.{numeral, natural, integer, minus, plus}
use Rattle.numbers.specs.Steps.{sign_count, leading_zero, in_type, at_width, natural_by, integer_by}

-- Each way through `digits_start`.
module _ (s : List ℕ) (at : ℕ) where
  pub start_over : length s ≤ at → at ≡ at + sign_count (drop at s)
  unfolding sign_count
  start_over h = rw (drop_of_length-le s h, add-zero)

  pub start_minus : at < length s → get_or s at 0 ≡ 45 → at + 1 ≡ at + sign_count (drop at s)
  unfolding sign_count
  start_minus h e = rw (drop-cons s at 0 h, eq-eqb (get_or s at 0) 45 e)

  pub start_plain : at < length s → (get_or s at 0 ≡ 45 → ⊥) → at ≡ at + sign_count (drop at s)
  unfolding sign_count
  start_plain h e = rw (drop-cons s at 0 h, ne_eqb (get_or s at 0) 45 e, add-zero)

pub sign_within : (s : List ℕ) → sign_count s ≤ length s
unfolding sign_count
sign_within [] = omega arith
sign_within (b ∷ s) = go (eqb b 45)
  where
    go : (d : Bool) → cond d 1 0 ≤ suc (length s)
    go true = omega arith
    go false = omega arith

-- Each way through `has_leading_zero`.
pub short_no_zero : (w : List ℕ) → length w ≤ 1 → ltb 1 (length w) ≡ leading_zero w
unfolding leading_zero
short_no_zero [] l = refl
short_no_zero (b ∷ []) l = refl
short_no_zero (b ∷ c ∷ s) l = absurd (omega arith)

pub long_zero : (w : List ℕ) → 1 < length w → eqb (get_or w 0 0) 48 ≡ leading_zero w
unfolding leading_zero
long_zero [] l = absurd (omega arith)
long_zero (b ∷ []) l = absurd (omega arith)
long_zero (b ∷ c ∷ s) l = refl

-- Each way through `natural_by_ordered`; o is what `is_empty` gave, and p what `has_leading_zero` gave.
module _ {A : Type 0} (number : A → ℕ) (greatest : ℕ) (w : List ℕ) (v : Option A) {o : Bool} (k : o ≡ eqb (length w) 0) where
  pub by_none : o ≡ true → Err Missing ≡ natural_by number greatest w v
  unfolding natural_by
  by_none e = go w (eqb-true (length w) 0 (sym k ∙ e))
    where
      go : (w : List ℕ) → length w ≡ 0 → Err Missing ≡ natural_by number greatest w v
      go [] e = refl
      go (b ∷ s) e = absurd (omega arith)

  module _ (f : o ≡ false) {p : Bool} (q : p ≡ leading_zero w) where
    by_first : natural_by number greatest w v ≡ cond p (Err Bad) (at_width number greatest v)
    unfolding natural_by
    by_first = rw q (go w (sym k ∙ f))
      where
        go : (w : List ℕ) → eqb (length w) 0 ≡ false → natural_by number greatest w v ≡ cond (leading_zero w) (Err Bad) (at_width number greatest v)
        go [] f = absurd cc
        go (b ∷ s) f = refl

    pub by_zero : p ≡ true → Err Bad ≡ natural_by number greatest w v
    by_zero e = sym (by_first ∙ rw e)

    pub by_width : p ≡ false → {r : Result A NotNumber} → r ≡ at_width number greatest v → r ≡ natural_by number greatest w v
    by_width e d = d ∙ sym (by_first ∙ rw e)

same_error : {A B : Type 0} {d e : NotNumber} → ◌≡◌ {A = Result A NotNumber} (Err d) (Err e) → ◌≡◌ {A = Result B NotNumber} (Err e) (Err d)
same_error {d = d} {e = e} h = let z : d ≡ e = cc in ap Err (sym z)

-- What was gathered in any type says what its number says.
module _ {A : Type 0} (number : A → ℕ) (greatest : ℕ) where
  -- r is what the number of v says, and a is what v says
  abbrev Told : (v : Option A) (r : Result ℕ NotNumber) (a : Result A NotNumber) → Type 0
  Told v r a = ((e : NotNumber) → r ≡ Err e → Err e ≡ a) × ((n : ℕ) → r ≡ Ok n → ok_or v Bad ≡ a)

  told_by : (w : List ℕ) (v : Option A) → Told v (natural_by (λ n. n) greatest w (option_map number v)) (natural_by number greatest w v)
  unfolding natural_by
  told_by [] v = ((λ e h. same_error h), (λ n h. absurd cc))
  told_by (b ∷ s) v = go (leading_zero (b ∷ s)) v
    where
      up_to : (x : A) (t : Bool) → Told (Some x) (cond t (Ok (number x)) (Err Bad)) (cond t (Ok x) (Err Bad))
      up_to x true = ((λ e h. absurd cc), (λ n h. refl))
      up_to x false = ((λ e h. same_error h), (λ n h. absurd cc))

      go : (t : Bool) (v : Option A) → Told v (cond t (Err Bad) (at_width (λ n. n) greatest (option_map number v))) (cond t (Err Bad) (at_width number greatest v))
      go true v = ((λ e h. same_error h), (λ n h. absurd cc))
      go false None = ((λ e h. same_error h), (λ n h. absurd cc))
      go false (Some x) = up_to x (leb (number x) greatest)

  module _ (w : List ℕ) (v : Option A) {o : Option ℕ} (k : o ≡ option_map number v) {r : Result ℕ NotNumber} (q : r ≡ natural_by (λ n. n) greatest w o) where
    by_its_number : natural_by (λ n. n) greatest w (option_map number v) ≡ r
    by_its_number = sym (q ∙ ap (natural_by (λ n. n) greatest w) k)

    pub by_wide_bad : (e : NotNumber) → r ≡ Err e → Err e ≡ natural_by number greatest w v
    by_wide_bad e h = (told_by w v).0 e (by_its_number ∙ h)

    pub by_wide_number : (n : ℕ) → r ≡ Ok n → ok_or v Bad ≡ natural_by number greatest w v
    by_wide_number n h = (told_by w v).1 n (by_its_number ∙ h)

-- a number that digits say is within its width
by_fits : (w : List ℕ) (v : Option ℕ) (greatest n : ℕ) → Ok n ≡ natural_by (λ m. m) greatest w v → n ≤ greatest
unfolding natural_by
by_fits [] v greatest n e = absurd cc
by_fits (b ∷ s) v greatest n e = go (leading_zero (b ∷ s)) v e
  where
    up_to : (m : ℕ) (b : Bool) → leb m greatest ≡ b → Ok n ≡ cond b (Ok m) (Err Bad) → n ≤ greatest
    up_to m true f e = let z : n ≡ m = cc in omega (arith, leb-true m greatest f)
    up_to m false f e = absurd cc

    go : (t : Bool) (v : Option ℕ) → Ok n ≡ cond t (Err Bad) (at_width (λ m. m) greatest v) → n ≤ greatest
    go true v e = absurd cc
    go false (Some m) e = up_to m (leb m greatest) refl e
    go false None e = absurd cc

-- -1 - m
below_zero : (m : ℕ) → negsuc 0 -ℤ pos m ≡ negsuc m
below_zero zero = refl
below_zero (suc m) = ap (λ (k : ℕ). negsuc (suc k)) (zero-add m)

-- Each way through `negative_by` and `positive_by`; r is what `natural_by_ordered` gave.
module _ (w : List ℕ) (v : Option ℕ) {r : Result ℕ NotNumber} where
  module _ (q : r ≡ natural_by (λ n. n) (2 ^ 63) w v) where
    pub minus_none : (e : NotNumber) → r ≡ Err e → Err Bad ≡ minus (natural_by (λ n. n) (2 ^ 63) w v)
    minus_none e h = rw (← q, h)

    pub minus_zero : (n : ℕ) → r ≡ Ok n → n ≡ 0 → Err Bad ≡ minus (natural_by (λ n. n) (2 ^ 63) w v)
    minus_zero n e z = rw (← q, e, z)

    module _ (n : ℕ) (e : r ≡ Ok n) (z : n ≡ 0 → ⊥) where
      pub minus_cast : SFits w64 (pos (n - 1))
      minus_cast = record { sfits = omega (arith, by_fits w v (2 ^ 63) n (sym e ∙ q)) }

      minus_value : negsuc 0 -ℤ to_z w64 (n - 1) ≡ negsuc (n - 1)
      minus_value = rw (to_z_pos w64 minus_cast.sfits) (below_zero (n - 1))

      pub minus_sub : SFits w64 (negsuc 0 -ℤ to_z w64 (n - 1))
      minus_sub = rw minus_value (record { sfits = minus_cast.sfits })

      pub minus_number : Ok (to_z w64 (of_z w64 (negsuc 0 -ℤ to_z w64 (n - 1)))) ≡ minus (natural_by (λ n. n) (2 ^ 63) w v)
      minus_number = rw (to_z-of_z minus_sub, minus_value, ← q, e) (go n z)
        where
          go : (n : ℕ) → (n ≡ 0 → ⊥) → Ok (negsuc (n - 1)) ≡ minus (Ok n)
          go zero z = absurd (z refl)
          go (suc n) z = rw sub-one

  module _ (q : r ≡ natural_by (λ n. n) (2 ^ 63 - 1) w v) where
    pub plus_none : (e : NotNumber) → r ≡ Err e → Err e ≡ plus (natural_by (λ n. n) (2 ^ 63 - 1) w v)
    plus_none e h = rw (← q, h)

    pub plus_cast : (n : ℕ) → r ≡ Ok n → SFits w64 (pos n)
    plus_cast n e = record { sfits = omega (arith, by_fits w v (2 ^ 63 - 1) n (sym e ∙ q)) }

    pub plus_number : (n : ℕ) → r ≡ Ok n → Ok (to_z w64 n) ≡ plus (natural_by (λ n. n) (2 ^ 63 - 1) w v)
    plus_number n e = rw (to_z_pos w64 (plus_cast n e).sfits, ← q, e)

-- Each way through `integer_by`; o is what `is_empty` gave.
module _ (w : List ℕ) (v : Option ℕ) {o : Bool} (k : o ≡ eqb (length w) 0) where
  pub integer_none : o ≡ true → Err Missing ≡ integer_by w v
  unfolding integer_by
  integer_none e = go w (eqb-true (length w) 0 (sym k ∙ e))
    where
      go : (w : List ℕ) → length w ≡ 0 → Err Missing ≡ integer_by w v
      go [] e = refl
      go (b ∷ s) e = absurd (omega arith)

  module _ (f : o ≡ false) {r : Result ℤ NotNumber} where
    pub integer_minus : get_or w 0 0 ≡ 45 → r ≡ minus (natural_by (λ n. n) (2 ^ 63) (take (length w - 1) (drop 1 w)) v) → r ≡ integer_by w v
    unfolding integer_by
    integer_minus m q = q ∙ go w (sym k ∙ f) m
      where
        go : (w : List ℕ) → eqb (length w) 0 ≡ false → get_or w 0 0 ≡ 45 → minus (natural_by (λ n. n) (2 ^ 63) (take (length w - 1) (drop 1 w)) v) ≡ integer_by w v
        go [] f m = absurd cc
        go (b ∷ t) f m = rw (eq-eqb b 45 m, take_all (suc (length t) - 1) t (omega arith))

    pub integer_plus : (get_or w 0 0 ≡ 45 → ⊥) → r ≡ plus (natural_by (λ n. n) (2 ^ 63 - 1) w v) → r ≡ integer_by w v
    unfolding integer_by
    integer_plus m q = q ∙ go w (sym k ∙ f) m
      where
        go : (w : List ℕ) → eqb (length w) 0 ≡ false → (get_or w 0 0 ≡ 45 → ⊥) → plus (natural_by (λ n. n) (2 ^ 63 - 1) w v) ≡ integer_by w v
        go [] f m = absurd cc
        go (b ∷ t) f m = rw (ne_eqb b 45 m)

-- what is no digits is no number
pub no_digits : (s : List ℕ) (greatest : ℕ) → digits s ≡ false → natural greatest s ≡ Err Bad
unfolding natural numeral digits
no_digits [] greatest e = absurd (true≢false e)
no_digits (b ∷ []) greatest e = rw (sym (and-true (digit b)) ∙ e)
no_digits (b ∷ c ∷ s) greatest e = rw (e, and-false)

-- Digits, and their number where it is at most g.
module _ {A : Type 0} (of : ℕ → A) (number : A → ℕ) (back : (n : ℕ) → number (of n) ≡ n) where
  -- what was gathered up to g, at a smaller width
  both_widths : (g n greatest : ℕ) → greatest ≤ g → at_width number greatest (held of g n) ≡ in_type of (cond (leb n greatest) (Ok n) (Err Bad))
  both_widths g n greatest l = go (leb n g) refl
    where
      up_to : (b : Bool) → cond b (Ok (of n)) (Err Bad) ≡ in_type of (cond b (Ok n) (Err Bad))
      up_to true = refl
      up_to false = refl

      go : (b : Bool) → leb n g ≡ b → at_width number greatest (cond b (Some (of n)) None) ≡ in_type of (cond (leb n greatest) (Ok n) (Err Bad))
      go true e = rw (back n) (up_to (leb n greatest))
      go false e = let h : g < n = leb-false n g e in rw (lt-leb n greatest (omega arith))

  -- LAW: they say what the text says, at every width that ends at g or before.
  pub natural_by_in : (g : ℕ) (w : List ℕ) (greatest : ℕ) → greatest ≤ g → digits w ≡ true → natural_by number greatest w (held of g (decimal 0 w)) ≡ in_type of (natural greatest w)
  unfolding natural_by natural numeral digits leading_zero
  natural_by_in g [] greatest l e = refl
  natural_by_in g (b ∷ []) greatest l e = rw (sym (and-true (digit b)) ∙ e) (both_widths g (decimal 0 (b ∷ [])) greatest l)
  natural_by_in g (b ∷ c ∷ s) greatest l e = rw e (go (eqb b 48))
    where
      go : (t : Bool) → cond t (Err Bad) (at_width number greatest (held of g (decimal 0 (b ∷ c ∷ s)))) ≡ in_type of (cond (not t && true && leb (decimal 0 (b ∷ c ∷ s)) greatest) (Ok (decimal 0 (b ∷ c ∷ s))) (Err Bad))
      go true = refl
      go false = both_widths g (decimal 0 (b ∷ c ∷ s)) greatest l

-- an answer whose numbers stay as they are
pub in_type_same : (r : Result ℕ NotNumber) → in_type (λ n. n) r ≡ r
in_type_same (Ok n) = refl
in_type_same (Err e) = refl

-- LAW: the same of numbers themselves.
pub natural_by_is : (g : ℕ) (w : List ℕ) (greatest : ℕ) → greatest ≤ g → digits w ≡ true → natural_by (λ n. n) greatest w (held (λ n. n) g (decimal 0 w)) ≡ natural greatest w
natural_by_is g w greatest l e = natural_by_in (λ n. n) (λ n. n) (λ n. refl) g w greatest l e ∙ in_type_same (natural greatest w)

-- the same of figures, whose digits are gathered in 64 bits
pub integer_by_is : (w : List ℕ) → digits (drop (sign_count w) w) ≡ true → integer_by w (held (λ n. n) (2 ^ 64 - 1) (decimal 0 (drop (sign_count w) w))) ≡ integer w
unfolding integer_by integer sign_count
integer_by_is [] e = refl
integer_by_is (b ∷ s) e = go (eqb b 45) e
  where
    go : (t : Bool) → digits (drop (cond t 1 0) (b ∷ s)) ≡ true → cond t (minus (natural_by (λ n. n) (2 ^ 63) s (held (λ n. n) (2 ^ 64 - 1) (decimal 0 (drop (cond t 1 0) (b ∷ s)))))) (plus (natural_by (λ n. n) (2 ^ 63 - 1) (b ∷ s) (held (λ n. n) (2 ^ 64 - 1) (decimal 0 (drop (cond t 1 0) (b ∷ s)))))) ≡ cond t (minus (natural (2 ^ 63) s)) (plus (natural (2 ^ 63 - 1) (b ∷ s)))
    go true e = ap minus (natural_by_is (2 ^ 64 - 1) s (2 ^ 63) (omega arith) e)
    go false e = ap plus (natural_by_is (2 ^ 64 - 1) (b ∷ s) (2 ^ 63 - 1) (omega arith) e)

-- what is neither digits nor a minus sign and digits is no number
pub no_integer : (w : List ℕ) → digits (drop (sign_count w) w) ≡ false → integer w ≡ Err Bad
unfolding integer sign_count digits
no_integer [] e = absurd (true≢false e)
no_integer (b ∷ s) e = go (eqb b 45) e
  where
    go : (t : Bool) → digits (drop (cond t 1 0) (b ∷ s)) ≡ false → cond t (minus (natural (2 ^ 63) s)) (plus (natural (2 ^ 63 - 1) (b ∷ s))) ≡ Err Bad
    go true e = rw (no_digits s (2 ^ 63) e)
    go false e = rw (no_digits (b ∷ s) (2 ^ 63 - 1) e)

-- The digits at p of a text, gathered at the width that ends at g: where they stop before its end, what stands there is not digits; otherwise it is, and
-- their number is its number.
module _ {A : Type 0} (of : ℕ → A) (g : ℕ) (s : List ℕ) (p : ℕ) {x : DigitRun A} (q : x ≡ run_at of g p (drop p s)) where
  run_short : x.end < length s → digits (drop p s) ≡ false
  run_short h = go (digits (drop p s)) refl
    where
      go : (b : Bool) → digits (drop p s) ≡ b → b ≡ false
      go true e = absurd (omega (arith, ap (λ (y : DigitRun A). y.end) q, count_all (drop p s) e, length-drop p s))
      go false e = refl

  module _ (h : length s ≤ x.end) (i : p ≤ length s) where
    all_count : length (drop p s) ≤ digit_count (drop p s)
    all_count = omega (arith, ap (λ (y : DigitRun A). y.end) q, length-drop p s)

    run_whole : digits (drop p s) ≡ true
    run_whole = ap digits (sym (take_all (digit_count (drop p s)) (drop p s) all_count)) ∙ count_digits (drop p s)

    run_value : x.value ≡ held of g (decimal 0 (drop p s))
    run_value = ap (λ (y : DigitRun A). y.value) q ∙ ap (λ (t : List ℕ). held of g (decimal 0 t)) (take_all (digit_count (drop p s)) (drop p s) all_count)

-- Each way through `natural_of_ordered` and `natural_of`.
module _ {A : Type 0} (of : ℕ → A) (g : ℕ) (s : List ℕ) {x : DigitRun A} (q : x ≡ run_at of g 0 s) (greatest : ℕ) where
  pub natural_other : x.end < length s → Err Bad ≡ in_type of (natural greatest s)
  natural_other h = rw (no_digits s greatest (run_short of g s 0 q h))

  pub natural_whole : (number : A → ℕ) → ((n : ℕ) → number (of n) ≡ n) → {r : Result A NotNumber} {m : ℕ} → m ≡ greatest → greatest ≤ g → length s ≤ x.end → r ≡ natural_by number m s x.value → r ≡ in_type of (natural greatest s)
  natural_whole number back z l h e = e ∙ rw (z, run_value of g s 0 q h (omega arith)) (natural_by_in of number back g s greatest l (run_whole of g s 0 q h (omega arith)))

-- Each way through `integer_of`.
module _ (s : List ℕ) {p : ℕ} (i : p ≡ 0 + sign_count s) {x : DigitRun ℕ} (q : x ≡ run_at (λ n. n) (2 ^ 64 - 1) p (drop p s)) where
  start_is : p ≡ sign_count s
  start_is = omega arith

  pub integer_other : x.end < length s → Err Bad ≡ integer s
  integer_other h = sym (no_integer s (rw (← start_is) (run_short (λ n. n) (2 ^ 64 - 1) s p q h)))

  pub integer_whole : {r : Result ℤ NotNumber} → length s ≤ x.end → r ≡ integer_by s x.value → r ≡ integer s
  integer_whole h e =
      let l : p ≤ length s = omega (arith, sign_within s) in
      e ∙ rw (run_value (λ n. n) (2 ^ 64 - 1) s p q h l, start_is) (integer_by_is s (rw (← start_is) (run_whole (λ n. n) (2 ^ 64 - 1) s p q h l)))

-- a number that is read is within its width
pub natural_fits : (s : List ℕ) (greatest n : ℕ) {r : Result ℕ NotNumber} → r ≡ natural greatest s → r ≡ Ok n → n ≤ greatest
unfolding natural
natural_fits [] greatest n q e = absurd cc
natural_fits (b ∷ s) greatest n {r} q e = go (numeral (b ∷ s)) (leb (decimal 0 (b ∷ s)) greatest) refl (sym e ∙ q)
  where
    go : (t u : Bool) → leb (decimal 0 (b ∷ s)) greatest ≡ u → Ok n ≡ cond (t && u) (Ok (decimal 0 (b ∷ s))) (Err Bad) → n ≤ greatest
    go true true f h = let z : n ≡ decimal 0 (b ∷ s) = cc in omega (arith, leb-true (decimal 0 (b ∷ s)) greatest f)
    go true false f h = absurd cc
    go false u f h = absurd cc

-- a signed number that is read fits an `i64`
plus_fits : (v : Result ℕ NotNumber) (z : ℤ) → ((n : ℕ) → v ≡ Ok n → n ≤ 2 ^ 63 - 1) → Ok z ≡ plus v → SFits w64 z
plus_fits (Ok n) z h e = let y : pos n ≡ z = cc in subst (SFits w64) y (record { sfits = omega (arith, h n refl) })
plus_fits (Err x) z h e = absurd cc

minus_fits : (v : Result ℕ NotNumber) (z : ℤ) → ((n : ℕ) → v ≡ Ok n → n ≤ 2 ^ 63) → Ok z ≡ minus v → SFits w64 z
minus_fits (Ok zero) z h e = absurd cc
minus_fits (Ok (suc n)) z h e = let y : negsuc n ≡ z = cc in subst (SFits w64) y (record { sfits = omega (arith, h (suc n) refl) })
minus_fits (Err x) z h e = absurd cc

pub integer_fits : (s : List ℕ) (z : ℤ) {r : Result ℤ NotNumber} → r ≡ integer s → r ≡ Ok z → SFits w64 z
unfolding integer
integer_fits [] z q e = absurd cc
integer_fits (b ∷ s) z {r} q e = go (eqb b 45) (sym e ∙ q)
  where
    go : (t : Bool) → Ok z ≡ cond t (minus (natural (2 ^ 63) s)) (plus (natural (2 ^ 63 - 1) (b ∷ s))) → SFits w64 z
    go true e = minus_fits (natural (2 ^ 63) s) z (λ n q. natural_fits s (2 ^ 63) n refl q) e
    go false e = plus_fits (natural (2 ^ 63 - 1) (b ∷ s)) z (λ n q. natural_fits (b ∷ s) (2 ^ 63 - 1) n refl q) e
