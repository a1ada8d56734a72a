-- A field lies within its text, and a record is its first field and the record after the comma, however much is counted.
-- Assumes nothing.
use mathlib.Core.Path.{◌≡◌, refl, sym, ap}
use mathlib.Core.Bool.{Bool, true, false, cond, false≢true}
use mathlib.Core.List.{List, [], ◌∷◌}
use Prim.Native.Nat.{ℕ, zero, suc, ◌+◌, ◌<◌, ◌≤◌}
use native.Mathlib.Omega.{arith}
use lib.ListN.{length, take, drop, length-drop}
use lib.Dec.{leb}
use Rattle.limits.specs.Limits.{most_field_bytes}
use Rattle.csv_text.specs.declared.Ending.TheVariants.{CrLf, Lf, EndOfText}
use Rattle.csv_text.specs.Grammar.{Extent, size, unclosed, longer, plain, inside_quotes, after_quote, extent, is_quote, is_comma, is_cr, is_lf, is_text, Field, comma, ends, width, broken, following, line_feed, limited, field, Record, record_with, record_in, record_of, joined, records_after, records_in, records, first_ending}

-- at most l bytes
abbrev Bounded : ℕ → Extent → Type 0
Bounded l (size n) = n ≤ l
Bounded l unclosed = Unit {0}

bounded_longer : (l : ℕ) (x : Extent) → Bounded l x → Bounded (suc l) (longer x)
bounded_longer l (size n) h = omega arith
bounded_longer l unclosed h = tt

either : (P : Extent → Type 0) (b : Bool) (x y : Extent) → P x → P y → P (cond b x y)
either P true x y p q = p
either P false x y p q = q

plain_bounded : (s : List ℕ) → plain s ≤ length s
unfolding plain
plain_bounded [] = omega arith
plain_bounded (b ∷ s) = go (is_text b) (plain_bounded s)
  where
    go : (t : Bool) → plain s ≤ length s → cond t (suc (plain s)) 0 ≤ suc (length s)
    go true h = omega arith
    go false h = omega arith

mutual
  unfolding inside_quotes

  inside_bounded : (s : List ℕ) → Bounded (length s) (inside_quotes s)
  inside_bounded [] = tt
  inside_bounded (b ∷ s) = bounded_longer (length s) (cond (is_quote b) (after_quote s) (inside_quotes s)) (either (Bounded (length s)) (is_quote b) (after_quote s) (inside_quotes s) (after_bounded s) (inside_bounded s))

  after_bounded : (s : List ℕ) → Bounded (length s) (after_quote s)
  after_bounded [] = omega arith
  after_bounded (b ∷ s) = either (Bounded (suc (length s))) (is_quote b) (longer (inside_quotes s)) (size 0) (bounded_longer (length s) (inside_quotes s) (inside_bounded s)) (omega arith)

extent_bounded : (s : List ℕ) → Bounded (length s) (extent s)
unfolding extent
extent_bounded [] = omega arith
extent_bounded (b ∷ s) = either (Bounded (suc (length s))) (is_quote b) (longer (inside_quotes s)) (size (plain (b ∷ s))) (bounded_longer (length s) (inside_quotes s) (inside_bounded s)) (plain_bounded (b ∷ s))

-- a field and what follows it lie within l bytes
abbrev pub Within : ℕ → Field → Type 0
Within l (comma n) = n < l
Within l (ends e n) = (n + width e ≤ l) × (width e ≡ 0 → n ≡ l)
Within l broken = Unit {0}

line_within : (l n : ℕ) (t : List ℕ) → n + suc (length t) ≡ l → Within l (line_feed n t)
line_within l n [] e = tt
line_within l n (b ∷ t) e = go (is_lf b)
  where
    go : (f : Bool) → Within l (cond f (ends CrLf n) broken)
    go true = (omega arith, λ z. absurd (omega arith))
    go false = tt

following_within : (l n : ℕ) (t : List ℕ) → n + length t ≡ l → Within l (following n t)
unfolding following
following_within l n [] e = (omega arith, λ z. omega arith)
following_within l n (b ∷ t) e = go (is_comma b) (is_cr b) (is_lf b)
  where
    go : (f g h : Bool) → Within l (cond f (comma n) (cond g (line_feed n t) (cond h (ends Lf n) broken)))
    go true g h = omega arith
    go false true h = line_within l n t e
    go false false true = (omega arith, λ z. absurd (omega arith))
    go false false false = tt

pub field_within : (s : List ℕ) → Within (length s) (field s)
unfolding field
field_within s = go (extent s) (extent_bounded s)
  where
    go : (x : Extent) → Bounded (length s) x → Within (length s) (limited s x)
    go unclosed h = tt
    go (size n) h = at (leb n most_field_bytes)
      where
        at : (f : Bool) → Within (length s) (cond f (following n (drop n s)) broken)
        at true = following_within (length s) n (drop n s) (rw length-drop (omega arith))
        at false = tt

-- more is counted than there are bytes: how much more plays no part
enough : (j k : ℕ) (s : List ℕ) → length s < j → length s < k → record_in j s ≡ record_in k s
unfolding record_in
enough zero k s p q = absurd (omega arith)
enough (suc j) zero s p q = absurd (omega arith)
enough (suc j) (suc k) s p q = go (λ t. enough j k t) (field s) (field_within s)
  where
    go : ((t : List ℕ) → length t < j → length t < k → record_in j t ≡ record_in k t) → (f : Field) → Within (length s) f → record_with (record_in j) s f ≡ record_with (record_in k) s f
    go ih (comma n) h = ap (joined (take n s) (n + 1)) (ih (drop (n + 1) s) (rw length-drop (omega arith)) (rw length-drop (omega arith)))
    go ih (ends x n) h = refl
    go ih broken h = refl

pub record_step : (s : List ℕ) → record_of s ≡ record_with record_of s (field s)
unfolding record_of record_in
record_step s = go (field s) (field_within s)
  where
    go : (f : Field) → Within (length s) f → record_with (record_in (length s)) s f ≡ record_with record_of s f
    go (comma n) h = ap (joined (take n s) (n + 1)) (enough (length s) (suc (length (drop (n + 1) s))) (drop (n + 1) s) (rw length-drop (omega arith)) (omega arith))
    go (ends x n) h = refl
    go broken h = refl

-- a sound record lies within its text, and takes a byte of it where there is one
pub record Spans (r : Record) (l : ℕ) : Type 0 where
  pub within : r.bytes ≤ l
  pub some : 0 < l → 0 < r.bytes

spans_in : (k : ℕ) (s : List ℕ) → length s < k → (record_in k s).sound ≡ true → Spans (record_in k s) (length s)
unfolding record_in
spans_in zero s h e = absurd (omega arith)
spans_in (suc k) s h e = go (λ t. spans_in k t) (field s) (field_within s) e
  where
    go : ((t : List ℕ) → length t < k → (record_in k t).sound ≡ true → Spans (record_in k t) (length t)) → (f : Field) → Within (length s) f → (record_with (record_in k) s f).sound ≡ true → Spans (record_with (record_in k) s f) (length s)
    go ih (comma n) w e =
        let t : Spans (record_in k (drop (n + 1) s)) (length (drop (n + 1) s)) = ih (drop (n + 1) s) (rw length-drop (omega arith)) e in
        record { within = omega (arith, rw length-drop at t.within); some = λ z. omega arith }
    go ih (ends CrLf n) w e = record { within = omega arith; some = λ z. omega arith }
    go ih (ends Lf n) w e = record { within = omega arith; some = λ z. omega arith }
    go ih (ends EndOfText n) w e = record { within = omega arith; some = λ z. omega (arith, w.1 refl) }
    go ih broken w e = absurd (false≢true e)

pub record_spans : (s : List ℕ) → (record_of s).sound ≡ true → Spans (record_of s) (length s)
unfolding record_of
record_spans s e = spans_in (suc (length s)) s (omega arith) e

-- more is counted than there are records: how much more plays no part
records_enough : (j k : ℕ) (s : List ℕ) → length s ≤ j → length s ≤ k → records_in j s ≡ records_in k s
unfolding records_in
records_enough zero zero s p q = refl
records_enough zero (suc k) [] p q = refl
records_enough zero (suc k) (b ∷ s) p q = absurd (omega arith)
records_enough (suc j) zero [] p q = refl
records_enough (suc j) zero (b ∷ s) p q = absurd (omega arith)
records_enough (suc j) (suc k) [] p q = refl
records_enough (suc j) (suc k) (b ∷ s) p q = ap (λ (l : List Record). record_of (b ∷ s) ∷ l) (go (λ t. records_enough j k t) (record_of (b ∷ s)) (record_spans (b ∷ s)))
  where
    go : ((t : List ℕ) → length t ≤ j → length t ≤ k → records_in j t ≡ records_in k t) → (r : Record) → (r.sound ≡ true → Spans r (suc (length s))) → records_after (records_in j) (b ∷ s) r ≡ records_after (records_in k) (b ∷ s) r
    go ih r h = at r.sound refl
      where
        at : (t : Bool) → r.sound ≡ t → cond t (records_in j (drop r.bytes (b ∷ s))) [] ≡ cond t (records_in k (drop r.bytes (b ∷ s))) []
        at true e = let m : 0 < r.bytes = (h e).some (omega arith) in ih (drop r.bytes (b ∷ s)) (rw length-drop (omega arith)) (rw length-drop (omega arith))
        at false e = refl

pub records_none : (s : List ℕ) → length s ≡ 0 → records s ≡ []
unfolding records records_in
records_none [] e = refl
records_none (b ∷ s) e = absurd (omega arith)

pub records_step : (s : List ℕ) → 0 < length s → records s ≡ record_of s ∷ records_after records s (record_of s)
unfolding records records_in
records_step [] h = absurd (omega arith)
records_step (b ∷ s) h = ap (λ (l : List Record). record_of (b ∷ s) ∷ l) (go (record_of (b ∷ s)) (record_spans (b ∷ s)))
  where
    go : (r : Record) → (r.sound ≡ true → Spans r (suc (length s))) → records_after (records_in (length s)) (b ∷ s) r ≡ records_after records (b ∷ s) r
    go r h = at r.sound refl
      where
        at : (t : Bool) → r.sound ≡ t → cond t (records_in (length s) (drop r.bytes (b ∷ s))) [] ≡ cond t (records (drop r.bytes (b ∷ s))) []
        at true e = let m : 0 < r.bytes = (h e).some (omega arith) in records_enough (length s) (length (drop r.bytes (b ∷ s))) (drop r.bytes (b ∷ s)) (rw length-drop (omega arith)) (omega arith)
        at false e = refl

-- a record with a broken field has no ending of its own
unsound_in : (k : ℕ) (s : List ℕ) → (record_in k s).sound ≡ false → (record_in k s).ending ≡ EndOfText
unfolding record_in
unsound_in zero s e = refl
unsound_in (suc k) s e = go (λ t. unsound_in k t) (field s) e
  where
    go : ((t : List ℕ) → (record_in k t).sound ≡ false → (record_in k t).ending ≡ EndOfText) → (f : Field) → (record_with (record_in k) s f).sound ≡ false → (record_with (record_in k) s f).ending ≡ EndOfText
    go ih (comma n) e = ih (drop (n + 1) s) e
    go ih (ends x n) e = absurd (false≢true (sym e))
    go ih broken e = refl

pub unsound_open : (s : List ℕ) → (record_of s).sound ≡ false → (record_of s).ending ≡ EndOfText
unfolding record_of
unsound_open s e = unsound_in (suc (length s)) s e

-- how the first record ends; a text without a byte has none, and nothing is read there up to the end of the text
pub first_ends : (s : List ℕ) → (record_of s).ending ≡ first_ending (records s)
unfolding field extent following
first_ends [] = rw (record_step [], records_none [] refl)
first_ends (b ∷ s) = rw (records_step (b ∷ s) (omega arith))
