-- The short way: digits that a comma or a line end follows are the field that the grammar finds, and they say what it says.
-- Assumes nothing.
use Rattle.std.proofs.Common.{◌≡◌, refl, sym, ap, subst, ◌∙◌, Bool, true, false, cond, List, [], ◌∷◌, ℕ, suc, ◌+◌, ◌-◌, ◌^◌, ◌<◌, ◌≤◌, length, take, drop, leb, eqb, Result, Err, ℤ, arith, zero-add, add-zero, leb-true, ne_eqb, eqb-true, le-leb, length-drop, drop_of_length-le, drop-drop}
use mathlib.Core.Bool.{and-eq-true_iff}
use borrow.Author.Tests.{lt-leb}
use Rattle.limits.specs.Limits.{most_field_bytes}
use Rattle.digits.specs.Decimal.{digit, digits, decimal}
use Rattle.digits.specs.Run.{digit_count, held, run_at}
use Rattle.digits.specs.declared.NotNumber.{NotNumber}
use Rattle.digits.specs.declared.NotNumber.TheVariants.{Missing}
use Rattle.digits.specs.declared.DigitRun.{DigitRun}
use Rattle.digits.proofs.Runs.{count_within, count_digits}
use Rattle.numbers.specs.Number.{natural, integer}
use Rattle.numbers.specs.Steps.{sign_count, natural_by, integer_by}
use Rattle.numbers.proofs.Numbers.{sign_within, natural_by_is, integer_by_is}
use Rattle.csv_text.specs.Grammar.{is_text, width, size, comma, ends, following, limited, field, content}
use Rattle.csv_text.specs.Place.{found_at}
use Rattle.csv_text.specs.Write.{bare, all_text}
use Rattle.csv_text.specs.declared.Ending.{Ending}
use Rattle.csv_text.specs.declared.Ending.TheVariants.{EndOfText}
use Rattle.csv_text.specs.declared.Found.{Found}
use Rattle.csv_text.specs.declared.Found.TheVariants.{Comma, Ends, Broken}
use Rattle.csv_text.proofs.Fields.{found_from}
use Rattle.csv_text.proofs.Records.{Within, field_within}
use Rattle.csv_text.proofs.Splits.{comma_of, ends_of}
use Rattle.csv_text.proofs.Inverse.{content_written}
use Rattle.csv_text.proofs.Short.{short_field, Sized, short_sized}
use Rattle.cells.specs.Cell.{unsigned, signed, cell_at, signed_count, signed_cell_at}
use Rattle.cells.specs.declared.Cell.{Cell}

-- digits are text, and so is a minus sign in front of them
digit_text : (b : ℕ) → digit b ≡ true → is_text b ≡ true
digit_text b e =
    let l : 48 ≤ b = leb-true 48 b ((and-eq-true_iff (leb 48 b) (leb b 57)).0 e).0 in
    rw (ne_eqb b 34 (λ z. omega arith), ne_eqb b 44 (λ z. omega arith), ne_eqb b 13 (λ z. omega arith), ne_eqb b 10 (λ z. omega arith))

digits_text : (s : List ℕ) → digits s ≡ true → all_text s ≡ true
unfolding digits all_text
digits_text [] e = refl
digits_text (b ∷ s) e = let h = (and-eq-true_iff (digit b) (digits s)).0 e in rw (digit_text b h.0, digits_text s h.1)

count_text : (s : List ℕ) → all_text (take (digit_count s) s) ≡ true
count_text s = digits_text (take (digit_count s) s) (count_digits s)

-- w is a sign of k bytes, as s has it, and the digits after it
pub record SignedWord (k : ℕ) (s w : List ℕ) : Type 0 where
  pub sign : sign_count w ≡ k
  pub after : drop k w ≡ take (digit_count (drop k s)) (drop k s)
  pub text : all_text w ≡ true

signed_word : (s : List ℕ) → SignedWord (sign_count s) s (take (signed_count s) s)
unfolding sign_count digit_count all_text
signed_word [] = record { sign = refl; after = refl; text = refl }
signed_word (b ∷ s) = go (eqb b 45) refl
  where
    go : (t : Bool) → eqb b 45 ≡ t → SignedWord (cond t 1 0) (b ∷ s) (take (cond t 1 0 + digit_count (drop (cond t 1 0) (b ∷ s))) (b ∷ s))
    go true e =
        let z : 1 + digit_count s ≡ suc (digit_count s) = omega arith in
        let y : b ≡ 45 = eqb-true b 45 e in
        record { sign = rw (z, e); after = rw z; text = rw (z, y) (count_text s) }
    go false e = record { sign = rw zero-add (word (digit b)); after = rw zero-add; text = rw zero-add (count_text (b ∷ s)) }
      where
        word : (d : Bool) → sign_count (take (cond d (suc (digit_count s)) 0) (b ∷ s)) ≡ 0
        word true = rw e
        word false = refl

signed_within : (s : List ℕ) → signed_count s ≤ length s
signed_within s = omega (arith, sign_within s, count_within (drop (sign_count s) s), length-drop (sign_count s) s)

-- Each way through `found_after`.
module _ (s : List ℕ) (at e : ℕ) (l : at ≤ e) where
  pub found_long : most_field_bytes < e - at → Broken ≡ found_at at (limited (drop at s) (size (e - at)))
  found_long h = rw (lt-leb (e - at) most_field_bytes h)

  pub found_short : {r : Found} → e - at ≤ most_field_bytes → r ≡ found_at e (following 0 (drop e s)) → r ≡ found_at at (limited (drop at s) (size (e - at)))
  found_short h q = q ∙ found_from s at (e - at) e (omega arith) ∙ rw (le-leb (e - at) most_field_bytes h)

-- Nothing at all, at the end of the text or after it.
module _ (s : List ℕ) (at : ℕ) (h : length s ≤ at) where
  pub cell_over : (g : ℕ) → record { value = Err Missing; found = Ends EndOfText at } ≡ cell_at g at (drop at s)
  unfolding unsigned content natural digit_count following
  cell_over g = rw (drop_of_length-le s h, add-zero)

  pub signed_over : record { value = Err Missing; found = Ends EndOfText at } ≡ signed_cell_at at (drop at s)
  unfolding signed content integer sign_count digit_count following
  signed_over = rw (drop_of_length-le s h, add-zero)

-- What `number_cell` puts together: x is the run of digits at `at`, gathered in 32 bits.
module _ (s : List ℕ) (at : ℕ) {x : DigitRun ℕ} (q : x ≡ run_at (λ n. n) (2 ^ 32 - 1) at (drop at s)) where
  run_end : x.end ≡ at + digit_count (drop at s)
  run_end = ap (λ (y : DigitRun ℕ). y.end) q

  pub run_from : at ≤ x.end
  run_from = omega (arith, run_end)

  pub run_inside : at < length s → x.end ≤ length s
  run_inside h = omega (arith, run_end, count_within (drop at s), length-drop at s)

  pub cell_is : {w : List ℕ} {v : Result ℕ NotNumber} {f : Found} {g m : ℕ} → g ≤ 2 ^ 32 - 1 → m ≡ g → w ≡ take (x.end - at) (drop at s) → v ≡ natural_by (λ n. n) m w x.value → f ≡ found_at at (limited (drop at s) (size (x.end - at))) → record { value = v; found = f } ≡ cell_at g at (drop at s)
  unfolding unsigned
  cell_is {w} {v} {f} {g} {m} l o a b c =
      let d : List ℕ = drop at s in
      let n : x.end - at ≡ digit_count d = omega (arith, run_end) in
      let t : w ≡ take (digit_count d) d = a ∙ ap (λ (k : ℕ). take k d) n in
      let u : v ≡ natural_by (λ n. n) g (take (digit_count d) d) (held (λ n. n) (2 ^ 32 - 1) (decimal 0 (take (digit_count d) d))) = b ∙ rw (o, t, ap (λ (y : DigitRun ℕ). y.value) q) in
      let y : v ≡ natural g (content (take (digit_count d) d)) = u ∙ natural_by_is (2 ^ 32 - 1) (take (digit_count d) d) g l (count_digits d) ∙ ap (natural g) (sym (content_written (bare (take (digit_count d) d)) (count_text d))) in
      let z : f ≡ found_at at (limited d (size (digit_count d))) = c ∙ ap (λ (k : ℕ). found_at at (limited d (size k))) n in
      λ i. record { value = y i; found = z i }

-- The same of `integer_cell`, whose digits start at p and are gathered in 64 bits.
module _ (s : List ℕ) (at p : ℕ) (h : p ≡ at + sign_count (drop at s)) {x : DigitRun ℕ} (q : x ≡ run_at (λ n. n) (2 ^ 64 - 1) p (drop p s)) where
  digits_at_lem : drop p s ≡ drop (sign_count (drop at s)) (drop at s)
  digits_at_lem = ap (λ (k : ℕ). drop k s) h ∙ sym (drop-drop (sign_count (drop at s)) at s)

  signed_end : x.end ≡ at + signed_count (drop at s)
  signed_end = ap (λ (y : DigitRun ℕ). y.end) q ∙ rw digits_at_lem (omega arith)

  pub signed_from : at ≤ x.end
  signed_from = omega (arith, signed_end)

  pub signed_inside : at < length s → x.end ≤ length s
  signed_inside i = omega (arith, signed_end, signed_within (drop at s), length-drop at s)

  pub signed_is : {w : List ℕ} {v : Result ℤ NotNumber} {f : Found} → w ≡ take (x.end - at) (drop at s) → v ≡ integer_by w x.value → f ≡ found_at at (limited (drop at s) (size (x.end - at))) → record { value = v; found = f } ≡ signed_cell_at at (drop at s)
  unfolding signed
  signed_is {w} {v} {f} a b c =
      let d : List ℕ = drop at s in
      let m : List ℕ = take (signed_count d) d in
      let k : SignedWord (sign_count d) d m = signed_word d in
      let o : drop (sign_count m) m ≡ take (digit_count (drop (sign_count d) d)) (drop (sign_count d) d) = ap (λ (j : ℕ). drop j m) k.sign ∙ k.after in
      let n : x.end - at ≡ signed_count d = omega (arith, signed_end) in
      let t : w ≡ m = a ∙ ap (λ (j : ℕ). take j d) n in
      let r : x.value ≡ held (λ n. n) (2 ^ 64 - 1) (decimal 0 (drop (sign_count m) m)) = ap (λ (y : DigitRun ℕ). y.value) q ∙ rw (o, digits_at_lem) in
      let g : digits (drop (sign_count m) m) ≡ true = ap digits o ∙ count_digits (drop (sign_count d) d) in
      let u : v ≡ integer_by m (held (λ n. n) (2 ^ 64 - 1) (decimal 0 (drop (sign_count m) m))) = b ∙ rw (t, r) in
      let y : v ≡ integer (content m) = u ∙ integer_by_is m g ∙ ap integer (sym (content_written (bare m) k.text)) in
      let z : f ≡ found_at at (limited d (size (signed_count d))) = c ∙ ap (λ (j : ℕ). found_at at (limited d (size j))) n in
      λ i. record { value = y i; found = z i }

-- a field from `at` to e that a comma follows, and what it says by the meaning f
pub record CellField (s : List ℕ) (at e : ℕ) {A : Type 0} (f : List ℕ → A) (v : A) : Type 0 where
  pub from : at ≤ e
  pub inside : e < length s
  pub field : field (drop at s) ≡ comma (e - at)
  pub value : v ≡ f (take (e - at) (drop at s))

-- the same of the last field of a record, which ends in x
pub record LastField (s : List ℕ) (at : ℕ) (x : Ending) (e : ℕ) {A : Type 0} (f : List ℕ → A) (v : A) : Type 0 where
  pub from : at ≤ e
  pub inside : e + width x ≤ length s
  pub field : field (drop at s) ≡ ends x (e - at)
  pub value : v ≡ f (take (e - at) (drop at s))

-- n text bytes at `at`, which say v by the meaning f; r is what follows them
module _ (s : List ℕ) (at n : ℕ) (l : n ≤ length (drop at s)) (u : all_text (take n (drop at s)) ≡ true) {A : Type 0} (f : List ℕ → A) {v : A} (w : v ≡ f (take n (drop at s))) {r : Found} (q : r ≡ found_at at (limited (drop at s) (size n))) where
  comma_field : (e : ℕ) → r ≡ Comma e → CellField s at e f v
  comma_field e p =
      let k = comma_of at e (limited (drop at s) (size n)) (sym p ∙ q) in
      let m : n ≡ k.0 = subst (Sized n) k.1 (short_sized (drop at s) n) in
      let o : n ≡ e - at = omega (arith, k.2) in
      let g : field (drop at s) ≡ comma k.0 = short_field (drop at s) n l u (λ z. (cc)) ∙ k.1 in
      let h : k.0 < length (drop at s) = subst (Within (length (drop at s))) g (field_within (drop at s)) in
      record { from = omega (arith, k.2); inside = omega (arith, k.2, rw length-drop at h); field = g ∙ ap comma (sym m ∙ o); value = w ∙ ap (λ (j : ℕ). f (take j (drop at s))) o }

  last_field : (x : Ending) (e : ℕ) → at ≤ length s → r ≡ Ends x e → LastField s at x e f v
  last_field x e i p =
      let k = ends_of at e x (limited (drop at s) (size n)) (sym p ∙ q) in
      let m : n ≡ k.0 = subst (Sized n) k.1 (short_sized (drop at s) n) in
      let o : n ≡ e - at = omega (arith, k.2) in
      let g : field (drop at s) ≡ ends x k.0 = short_field (drop at s) n l u (λ z. (cc)) ∙ k.1 in
      let h : (k.0 + width x ≤ length (drop at s)) × (width x ≡ 0 → k.0 ≡ length (drop at s)) = subst (Within (length (drop at s))) g (field_within (drop at s)) in
      record { from = omega (arith, k.2); inside = omega (arith, k.2, rw length-drop at h.0); field = g ∙ ap (ends x) (sym m ∙ o); value = w ∙ ap (λ (j : ℕ). f (take j (drop at s))) o }

-- LAW: digits that a comma follows are a field, and say what it says.
pub cell_comma : (s : List ℕ) (at g : ℕ) {r : Cell ℕ} → r ≡ cell_at g at (drop at s) → (e : ℕ) → r.found ≡ Comma e → CellField s at e (unsigned g) r.value
cell_comma s at g {r} q e p = comma_field s at (digit_count (drop at s)) (count_within (drop at s)) (count_text (drop at s)) (unsigned g) (ap (λ (y : Cell ℕ). y.value) q) (ap (λ (y : Cell ℕ). y.found) q) e p

-- LAW: digits, with a minus sign or without, at the end of a record are a field, and say what it says.
pub signed_ends : (s : List ℕ) (at : ℕ) {r : Cell ℤ} → r ≡ signed_cell_at at (drop at s) → at ≤ length s → (x : Ending) (e : ℕ) → r.found ≡ Ends x e → LastField s at x e signed r.value
signed_ends s at {r} q i x e p = last_field s at (signed_count (drop at s)) (signed_within (drop at s)) (signed_word (drop at s)).text signed (ap (λ (y : Cell ℤ). y.value) q) (ap (λ (y : Cell ℤ). y.found) q) x e i p
