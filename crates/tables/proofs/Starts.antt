-- Each way through `start_of`, and what it says of the table's reading.
-- Assumes nothing.
use Rattle.std.proofs.Common.{◌≡◌, ℕ, zero, suc, ◌<◌, ◌≤◌, Bool, true, false, cond, List, [], ◌∷◌, Some, None, Result, Ok, Err, length, drop, refl, sym, ap, ◌∙◌, zero-add, arith}
use borrow.Author.Tests.{eq-eqb, ne_eqb, le-leb, lt-leb}
use lib.Dec.{leb, eqb}
use Rattle.limits.specs.Limits.{most_text_bytes}
use Rattle.csv_text.specs.Grammar as grammar
use Rattle.csv_text.specs.Grammar.{Record, record_of, records, first_ending}
use Rattle.csv_text.specs.declared.Ending.{Ending}
use Rattle.csv_text.specs.Place.{split_of, no_places}
use Rattle.csv_text.specs.declared.Split.{Split}
use Rattle.csv_text.proofs.Records.{record_spans, records_none, records_step}
use Rattle.rows.specs.declared.Fault.TheVariants.{BrokenField, FieldCount}
use Rattle.rows.specs.Row.{Verdict}
use Rattle.tables.specs.Table.{Reading, stopped, reading, after_header_row, table_of}
use Rattle.tables.specs.Place.{start_after, start_of, stores, Gathered, gathered, leaving}
use Rattle.tables.specs.declared.ReadFault.{ReadFault}
use Rattle.tables.specs.declared.ReadFault.TheVariants.{TextLength, Record as AtRecord}
use Rattle.tables.specs.declared.Start.{Start}

pub nonempty : (n : ℕ) → false ≡ eqb n 0 → n ≡ 0 → ⊥
nonempty zero e z = cc
nonempty (suc n) e z = omega arith

-- Each way through `header_start`.
module _ (s : List ℕ) (count : ℕ) where
  pub header_none : length s ≡ 0 → Err (AtRecord FieldCount 1) ≡ start_after count (records s)
  header_none z = rw (records_none s z)

  module _ (z : length s ≡ 0 → ⊥) {r : Split} (y : r ≡ split_of no_places no_places 0 0 (record_of (drop 0 s))) where
    stepped : records s ≡ record_of s ∷ grammar.records_after records s (record_of s)
    stepped = records_step s (omega arith)

    ending_is : r.ending ≡ cond (record_of s).sound (Some (record_of s).ending) None
    ending_is = ap (λ (x : Split). x.ending) y

    count_is : r.count ≡ length (record_of s).fields
    count_is = ap (λ (x : Split). x.count) y ∙ zero-add (length (record_of s).fields)

    sound_of : (b : Bool) (own : Ending) {x : Ending} → cond b (Some own) None ≡ Some x → (b ≡ true) × (x ≡ own)
    sound_of true own e = (refl, cc)
    sound_of false own e = absurd (cc)

    broken_of : (b : Bool) (own : Ending) → cond b (Some own) None ≡ None → b ≡ false
    broken_of true own e = absurd (cc)
    broken_of false own e = refl

    pub header_broken : r.ending ≡ None → Err (AtRecord BrokenField 1) ≡ start_after count (records s)
    header_broken f = let b = broken_of (record_of s).sound (record_of s).ending (sym ending_is ∙ f) in rw (stepped, b)

    module _ (ending : Ending) (f : r.ending ≡ Some ending) where
      known : ((record_of s).sound ≡ true) × (ending ≡ (record_of s).ending)
      known = sound_of (record_of s).sound (record_of s).ending (sym ending_is ∙ f)

      pub header_count : (r.count ≡ count → ⊥) → Err (AtRecord FieldCount 1) ≡ start_after count (records s)
      header_count g = rw (stepped, known.0, ne_eqb (length (record_of s).fields) count (λ i. g (count_is ∙ i)))

      pub header_passed : r.count ≡ count → Ok (record { at = r.next; place = 2; ending = ending }) ≡ start_after count (records s)
      header_passed g =
          let n : r.next ≡ (record_of s).bytes = ap (λ (x : Split). x.next) y ∙ zero-add (record_of s).bytes in
          rw (stepped, known.0, eq-eqb (length (record_of s).fields) count (sym count_is ∙ g), n, known.1)

-- Each way through `start_of`.
module _ (s : List ℕ) (count : ℕ) (headerRow : Bool) where
  pub start_long : most_text_bytes < length s → Err TextLength ≡ start_of count headerRow s
  unfolding start_of
  start_long h = rw (lt-leb (length s) most_text_bytes h)

  module _ (h : length s ≤ most_text_bytes) where
    pub start_header : {x : Result Start ReadFault} → headerRow ≡ true → x ≡ start_after count (records s) → x ≡ start_of count headerRow s
    unfolding start_of
    start_header e q = q ∙ rw (le-leb (length s) most_text_bytes h, e)

    pub start_plain : {x : Ending} → headerRow ≡ false → x ≡ first_ending (records s) → Ok (record { at = 0; place = 1; ending = x }) ≡ start_of count headerRow s
    unfolding start_of
    start_plain e q = rw (le-leb (length s) most_text_bytes h, e, q)

-- the start of the rows lies in the text, and row 0 stands in record 1 or 2
pub record Inside (s : List ℕ) (start : Start) : Type 0 where
  pub at : start.at ≤ length s
  pub place : start.place ≤ 2

-- what a start says of the reading
abbrev pub Says : {A : Type 0} → (Ending → ℕ → Record → Verdict A) → List ℕ → Reading A → Result Start ReadFault → Type 0
Says judge s x (Ok start) = Inside s start × (x ≡ reading judge start.ending start.place 0 (records (drop start.at s)))
Says judge s x (Err fault) = x ≡ stopped fault

starts : {A : Type 0} (judge : Ending → ℕ → Record → Verdict A) (s : List ℕ) (count : ℕ) (headerRow : Bool) → Says judge s (table_of count judge headerRow s) (start_of count headerRow s)
unfolding table_of start_of
starts judge s count headerRow = long (leb (length s) most_text_bytes)
  where
    none : Says judge s (after_header_row count judge []) (start_after count [])
    none = refl

    some : 0 < length s → Says judge s (after_header_row count judge (record_of s ∷ grammar.records_after records s (record_of s))) (start_after count (record_of s ∷ grammar.records_after records s (record_of s)))
    some h = go (record_of s).sound (eqb (length (record_of s).fields) count) refl
      where
        go : (a b : Bool) → (record_of s).sound ≡ a → Says judge s (cond a (cond b (reading judge (record_of s).ending 2 0 (cond (record_of s).sound (records (drop (record_of s).bytes s)) [])) (stopped (AtRecord FieldCount 1))) (stopped (AtRecord BrokenField 1))) (cond a (cond b (Ok (record { at = (record_of s).bytes; place = 2; ending = (record_of s).ending })) (Err (AtRecord FieldCount 1))) (Err (AtRecord BrokenField 1)))
        go true true f = (record { at = (record_spans s f).within; place = omega arith }, rw f)
        go true false f = refl
        go false b f = refl

    head : (n : ℕ) → length s ≡ n → Says judge s (after_header_row count judge (records s)) (start_after count (records s))
    head zero e = rw (records_none s e) none
    head (suc n) e = let h : 0 < length s = omega arith in rw (records_step s h) (some h)

    told : (b : Bool) → Says judge s (cond b (after_header_row count judge (records s)) (reading judge (first_ending (records s)) 1 0 (records s))) (cond b (start_after count (records s)) (Ok (record { at = 0; place = 1; ending = first_ending (records s) })))
    told true = head (length s) refl
    told false = (record { at = omega arith; place = omega arith }, refl)

    long : (b : Bool) → Says judge s (cond b (cond headerRow (after_header_row count judge (records s)) (reading judge (first_ending (records s)) 1 0 (records s))) (stopped TextLength)) (cond b (cond headerRow (start_after count (records s)) (Ok (record { at = 0; place = 1; ending = first_ending (records s) }))) (Err TextLength))
    long true = told headerRow
    long false = refl

-- Each way through `gather_table`.
module _ {A : Type 0} (judge : Ending → ℕ → Record → Verdict A) (s : List ℕ) (count : ℕ) (headerRow : Bool) {x : Result Start ReadFault} (q : x ≡ start_of count headerRow s) where
  pub start_says : (start : Start) → x ≡ Ok start → Inside s start × (table_of count judge headerRow s ≡ reading judge start.ending start.place 0 (records (drop start.at s)))
  start_says start e = rw (sym q ∙ e) at (starts judge s count headerRow)

  module _ {C : Type 0} (store : C → ℕ → A → C) (columns : C) where
    pub table_started : (start : Start) → x ≡ Ok start → {g : Gathered C} → g ≡ gathered store columns 0 (reading judge start.ending start.place 0 (records (drop start.at s))) → g ≡ gathered store columns 0 (table_of count judge headerRow s)
    table_started start e p = p ∙ ap (gathered store columns 0) (sym (start_says start e).1)

    pub table_stopped : (fault : ReadFault) → x ≡ Err fault → leaving (Err fault) columns ≡ gathered store columns 0 (table_of count judge headerRow s)
    unfolding stores
    table_stopped fault e = let stop : table_of count judge headerRow s ≡ stopped fault = rw (sym q ∙ e) at (starts judge s count headerRow) in sym (ap (gathered store columns 0) stop)
