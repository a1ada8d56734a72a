-- Reading what RFC 4180 writes, with CR LF or with LF, gives what was written, and every text whose records are all sound and end alike is
-- written so.
-- Assumes nothing.
use mathlib.Core.Path.{◌≡◌, refl, sym, ap, ◌∙◌}
use mathlib.Core.Bool.{Bool, true, false, cond, not, ◌||◌, and-eq-true_iff, false≢true}
use mathlib.Core.List.{List, [], ◌∷◌, ◌++◌, map, append_assoc}
use Prim.Native.Nat.{ℕ, zero, suc, ◌+◌, ◌-◌, ◌<◌, ◌≤◌}
use native.Mathlib.Numerals.{add-one}
use native.Mathlib.Omega.{arith}
use borrow.Author.Tests.{eqb-true, leb-true, le-leb}
use lib.ListN.{length, take, drop, length-append, length-drop, take-append-drop}
use lib.Seq.{length-take-le, take-append_seam, drop-append_seam, drop-append-add, drop-drop}
use lib.Dec.{leb}
use Rattle.csv_text.specs.Grammar.{is_quote, is_comma, is_cr, is_lf, is_text, Extent, size, unclosed, longer, plain, inside_quotes, after_quote, extent, undoubled, content, width, Field, comma, ends, broken, line_feed, following, limited, field, Record, record_with, record_in, record_of, records_in, records, first_ending, alike}
use Rattle.limits.specs.Limits.{most_field_bytes}
use Rattle.csv_text.specs.Write.{Entry, bare, quoted, entry_text, doubled, written, all_text, Unmarked, Writable, Line, write_fields, write_line, LineEnd, cr_lf, lf, end_bytes, ending_of, write, AllWritable, LastLine, Allowed, record_as, records_as, SoundAlike, Written}
use Rattle.csv_text.specs.declared.Ending.{Ending}
use Rattle.csv_text.specs.declared.Ending.TheVariants.{CrLf, Lf, EndOfText}
use Rattle.csv_text.proofs.Records.{record_step, records_none, records_step, Spans, record_spans}

-- what may follow a field: nothing, or a byte that is neither text nor a quote mark
abbrev pub Stops : List ℕ → Type 0
Stops [] = Unit {0}
Stops (b ∷ t) = (is_text b ≡ false) × (is_quote b ≡ false)

text_no_quote : (b : ℕ) → is_text b ≡ true → is_quote b ≡ false
text_no_quote b e = go (is_quote b) e
  where
    go : (q : Bool) → not (q || is_comma b || is_cr b || is_lf b) ≡ true → q ≡ false
    go true e = absurd (false≢true e)
    go false e = refl

plain_run : (s t : List ℕ) → all_text s ≡ true → Stops t → plain (s ++ t) ≡ length s
unfolding plain all_text
plain_run [] [] e h = refl
plain_run [] (b ∷ t) e h = rw h.0
plain_run (b ∷ s) t e h = rw ((and-eq-true_iff (is_text b) (all_text s)).0 e).0 (ap suc (plain_run s t ((and-eq-true_iff (is_text b) (all_text s)).0 e).1 h))

after_stops : (t : List ℕ) → Stops t → after_quote t ≡ size 0
unfolding inside_quotes
after_stops [] h = refl
after_stops (b ∷ t) h = rw h.1

inside_doubled : (u t : List ℕ) → Stops t → inside_quotes (doubled u ++ 34 ∷ t) ≡ size (suc (length (doubled u)))
unfolding inside_quotes doubled
inside_doubled [] t h = ap longer (after_stops t h)
inside_doubled (b ∷ u) t h = go (is_quote b) refl (inside_doubled u t h)
  where
    go : (q : Bool) → is_quote b ≡ q → inside_quotes (doubled u ++ 34 ∷ t) ≡ size (suc (length (doubled u))) → inside_quotes (cond q (b ∷ b ∷ doubled u) (b ∷ doubled u) ++ 34 ∷ t) ≡ size (suc (length (cond q (b ∷ b ∷ doubled u) (b ∷ doubled u))))
    go true e ih = rw e (ap (λ (x : Extent). longer (longer x)) ih)
    go false e ih = rw e (ap longer ih)

extent_bare : (b : ℕ) (s : List ℕ) → is_quote b ≡ false → extent (b ∷ s) ≡ size (plain (b ∷ s))
unfolding extent
extent_bare b s e = rw e

pub extent_written : (f : Entry) (t : List ℕ) → Unmarked f → Stops t → extent (written f ++ t) ≡ size (length (written f))
unfolding extent all_text plain
extent_written (bare []) [] e h = refl
extent_written (bare []) (b ∷ t) e h = rw (h.0, h.1)
extent_written (bare (b ∷ s)) t e h = extent_bare b (s ++ t) (text_no_quote b ((and-eq-true_iff (is_text b) (all_text s)).0 e).0) ∙ ap size (plain_run (b ∷ s) t e h)
extent_written (quoted u) t e h =
    let l : length (doubled u ++ (34 ∷ [])) ≡ suc (length (doubled u)) = length-append (doubled u) (34 ∷ []) ∙ add-one (length (doubled u)) in
    rw (append_assoc (doubled u) (34 ∷ []) t, l) (ap longer (inside_doubled u t h))

pub field_written : (f : Entry) (t : List ℕ) → Writable f → Stops t → field (written f ++ t) ≡ following (length (written f)) t
unfolding field
field_written f t w h = rw (extent_written f t w.unmarked h, le-leb (length (written f)) most_field_bytes w.size, drop-append_seam (written f) t)

-- what follows the last field of a record
abbrev pub ending : Ending → List ℕ → List ℕ
ending CrLf t = 13 ∷ 10 ∷ t
ending Lf t = 10 ∷ t
ending EndOfText t = []

ending_stops : (e : Ending) (t : List ℕ) → Stops (ending e t)
ending_stops CrLf t = (refl, refl)
ending_stops Lf t = (refl, refl)
ending_stops EndOfText t = tt

pub following_ending : (e : Ending) (n : ℕ) (t : List ℕ) → following n (ending e t) ≡ ends e n
unfolding following
following_ending CrLf n t = refl
following_ending Lf n t = refl
following_ending EndOfText n t = refl

pub following_comma : (n : ℕ) (t : List ℕ) → following n (44 ∷ t) ≡ comma n
unfolding following
following_comma n t = refl

line_record : (f : Entry) (gs : List Entry) (e : Ending) (t : List ℕ) → AllWritable (f ∷ gs) → record_of (write_fields f gs ++ ending e t) ≡ record_as (record { first = f; more = gs }) e
unfolding write_fields
line_record f [] e t w =
    record_step (written f ++ ending e t) ∙ rw (field_written f (ending e t) w.0 (ending_stops e t), following_ending e (length (written f)) t, take-append_seam (written f) (ending e t))
line_record f (g ∷ gs) e t w =
    let n : ℕ = length (written f) in
    let y : List ℕ = write_fields g gs ++ ending e t in
    let d : drop (n + 1) (written f ++ 44 ∷ y) ≡ y = drop-append-add (written f) (44 ∷ y) 1 in
    let l : n + 1 + (length (write_fields g gs) + width e) ≡ length (written f ++ 44 ∷ write_fields g gs) + width e = rw length-append (omega arith) in
    rw (append_assoc (written f) (44 ∷ write_fields g gs) (ending e t))
    (record_step (written f ++ 44 ∷ y) ∙ rw (field_written f (44 ∷ y) w.0 (refl, refl), following_comma n y, take-append_seam (written f) (44 ∷ y), d, line_record g gs e t w.1, l))

-- THEOREM: reading what is written gives the records that were written, whichever fields stand between quote marks, whichever line end the
-- file has, and whether or not the last one is there.
pub read_back : (e : LineEnd) (ls : List Line) (ended : Bool) → Allowed ls ended → records (write e ls ended) ≡ records_as e ls ended
unfolding write records_as
read_back e [] ended a = records_none [] refl
read_back e (l ∷ []) ended a = last e ended a.1
  where
    step : (e : Ending) → 0 < length (write_line l ++ ending e []) → records (write_line l ++ ending e []) ≡ record_as l e ∷ []
    step e h =
        let r : record_of (write_line l ++ ending e []) ≡ record_as l e = line_record l.first l.more e [] a.0 in
        records_step (write_line l ++ ending e []) h ∙ rw (r, drop-append-add (write_line l) (ending e []) (width e), rest e)
      where
        rest : (e : Ending) → records (drop (width e) (ending e [])) ≡ []
        rest CrLf = records_none [] refl
        rest Lf = records_none [] refl
        rest EndOfText = records_none [] refl

    last : (e : LineEnd) (ended : Bool) → LastLine l ended → records (write_line l ++ cond ended (end_bytes e []) []) ≡ record_as l (cond ended (ending_of e) EndOfText) ∷ []
    last cr_lf true h = step CrLf (rw length-append (omega arith))
    last lf true h = step Lf (rw length-append (omega arith))
    last e false h = step EndOfText (rw length-append (omega arith))
read_back e (l ∷ m ∷ ls) ended a = next e (write e (m ∷ ls) ended) (read_back e (m ∷ ls) ended a.1)
  where
    next : (e : LineEnd) (t : List ℕ) {rs : List Record} → records t ≡ rs → records (write_line l ++ end_bytes e t) ≡ record_as l (ending_of e) ∷ rs
    next cr_lf t h = records_step (write_line l ++ 13 ∷ 10 ∷ t) (rw length-append (omega arith)) ∙ rw (line_record l.first l.more CrLf t a.0, drop-append-add (write_line l) (13 ∷ 10 ∷ t) 2, h)
    next lf t h = records_step (write_line l ++ 10 ∷ t) (rw length-append (omega arith)) ∙ rw (line_record l.first l.more Lf t a.0, drop-append-add (write_line l) (10 ∷ t) 1, h)

-- The text of a field that was written is the text that was to be written.
undoubled_doubled : (u : List ℕ) → undoubled (doubled u) ≡ u
unfolding undoubled doubled
undoubled_doubled [] = refl
undoubled_doubled (b ∷ u) = go (is_quote b) refl (undoubled_doubled u)
  where
    one : (x : List ℕ) → is_quote b ≡ false → undoubled (b ∷ x) ≡ b ∷ undoubled x
    one [] e = refl
    one (c ∷ x) e = rw e

    go : (q : Bool) → is_quote b ≡ q → undoubled (doubled u) ≡ u → undoubled (cond q (b ∷ b ∷ doubled u) (b ∷ doubled u)) ≡ b ∷ u
    go true e ih = rw e (ap (λ (x : List ℕ). b ∷ x) ih)
    go false e ih = one (doubled u) e ∙ ap (λ (x : List ℕ). b ∷ x) ih

pub content_written : (f : Entry) → Unmarked f → content (written f) ≡ entry_text f
unfolding content all_text
content_written (bare []) e = refl
content_written (bare (b ∷ s)) e = rw (text_no_quote b ((and-eq-true_iff (is_text b) (all_text s)).0 e).0)
content_written (quoted u) e =
    let l : length (doubled u ++ (34 ∷ [])) - 1 ≡ length (doubled u) = rw length-append (omega arith) in
    rw (l, take-append_seam (doubled u) (34 ∷ [])) (undoubled_doubled u)

contents : (fs : List Entry) → AllWritable fs → map content (map written fs) ≡ map entry_text fs
contents [] w = refl
contents (f ∷ fs) w = rw (content_written f w.0.unmarked, contents fs w.1)

-- THEOREM: the same of the texts of the fields, without quote marks.
pub read_texts : (e : LineEnd) (ls : List Line) (ended : Bool) → Allowed ls ended → map (λ (r : Record). map content r.fields) (records (write e ls ended)) ≡ map (λ (l : Line). map entry_text (l.first ∷ l.more)) ls
unfolding records_as
read_texts e ls ended a = rw (read_back e ls ended a) (go ls ended a)
  where
    go : (ls : List Line) (ended : Bool) → Allowed ls ended → map (λ (r : Record). map content r.fields) (records_as e ls ended) ≡ map (λ (l : Line). map entry_text (l.first ∷ l.more)) ls
    go [] ended a = refl
    go (l ∷ []) ended a = rw (contents (l.first ∷ l.more) a.0)
    go (l ∷ m ∷ ls) ended a = rw (contents (l.first ∷ l.more) a.0, go (m ∷ ls) ended a.1)

-- A field that was read, as an entry: what it takes to write it again.
pub record Again (n : ℕ) (s : List ℕ) : Type 0 where
  pub entry : Entry
  pub unmarked : Unmarked entry
  pub same : written entry ≡ take n s
  pub within : n ≤ length s

all_plain : (s : List ℕ) → (all_text (take (plain s) s) ≡ true) × (plain s ≤ length s)
unfolding plain all_text
all_plain [] = (refl, omega arith)
all_plain (b ∷ s) = go (is_text b) refl (all_plain s)
  where
    go : (t : Bool) → is_text b ≡ t → (all_text (take (plain s) s) ≡ true) × (plain s ≤ length s) → (all_text (take (cond t (suc (plain s)) 0) (b ∷ s)) ≡ true) × (cond t (suc (plain s)) 0 ≤ suc (length s))
    go true e ih = (rw e ih.0, omega arith)
    go false e ih = (refl, omega arith)

-- the bytes of a quoted field after its opening mark, and after a further mark
abbrev Inside : List ℕ → Extent → Type 0
Inside s (size n) = (u : List ℕ) × (doubled u ++ (34 ∷ []) ≡ take n s) × (n ≤ length s)
Inside s unclosed = Unit {0}

abbrev After : List ℕ → Extent → Type 0
After s (size n) = (u : List ℕ) × (doubled u ++ (34 ∷ []) ≡ 34 ∷ take n s) × (n ≤ length s)
After s unclosed = Unit {0}

doubled_quote : (b : ℕ) (u : List ℕ) → is_quote b ≡ true → doubled (b ∷ u) ≡ b ∷ b ∷ doubled u
unfolding doubled
doubled_quote b u e = rw e

doubled_other : (b : ℕ) (u : List ℕ) → is_quote b ≡ false → doubled (b ∷ u) ≡ b ∷ doubled u
unfolding doubled
doubled_other b u e = rw e

inside_mark : (b : ℕ) (s : List ℕ) (x : Extent) → is_quote b ≡ true → After s x → Inside (b ∷ s) (longer x)
inside_mark b s (size n) e h = (h.0, h.1 ∙ rw (eqb-true b 34 e), omega (arith, h.2))
inside_mark b s unclosed e h = tt

inside_other : (b : ℕ) (s : List ℕ) (x : Extent) → is_quote b ≡ false → Inside s x → Inside (b ∷ s) (longer x)
inside_other b s (size n) e h = (b ∷ h.0, rw (doubled_other b h.0 e) (ap (λ (x : List ℕ). b ∷ x) h.1), omega (arith, h.2))
inside_other b s unclosed e h = tt

after_mark : (b : ℕ) (s : List ℕ) (x : Extent) → is_quote b ≡ true → Inside s x → After (b ∷ s) (longer x)
after_mark b s (size n) e h = let z : b ≡ 34 = eqb-true b 34 e in (b ∷ h.0, rw (doubled_quote b h.0 e) (rw z (ap (λ (x : List ℕ). 34 ∷ 34 ∷ x) h.1)), omega (arith, h.2))
after_mark b s unclosed e h = tt

closing : doubled [] ++ (34 ∷ []) ≡ 34 ∷ []
unfolding doubled
closing = refl

mutual
  unfolding inside_quotes

  inside_again : (s : List ℕ) → Inside s (inside_quotes s)
  inside_again [] = tt
  inside_again (b ∷ s) = go (is_quote b) refl (after_again s) (inside_again s)
    where
      go : (q : Bool) → is_quote b ≡ q → After s (after_quote s) → Inside s (inside_quotes s) → Inside (b ∷ s) (longer (cond q (after_quote s) (inside_quotes s)))
      go true e g h = inside_mark b s (after_quote s) e g
      go false e g h = inside_other b s (inside_quotes s) e h

  after_again : (s : List ℕ) → After s (after_quote s)
  after_again [] = ([], closing, omega arith)
  after_again (b ∷ s) = go (is_quote b) refl (inside_again s)
    where
      go : (q : Bool) → is_quote b ≡ q → Inside s (inside_quotes s) → After (b ∷ s) (cond q (longer (inside_quotes s)) (size 0))
      go true e h = after_mark b s (inside_quotes s) e h
      go false e h = ([], closing, omega arith)

abbrev ExtentAgain : List ℕ → Extent → Type 0
ExtentAgain s (size n) = Again n s
ExtentAgain s unclosed = Unit {0}

quoted_again : (b : ℕ) (s : List ℕ) (x : Extent) → is_quote b ≡ true → Inside s x → ExtentAgain (b ∷ s) (longer x)
quoted_again b s (size n) e h = record { entry = quoted h.0; unmarked = tt; same = rw (eqb-true b 34 e) (ap (λ (x : List ℕ). 34 ∷ x) h.1); within = omega (arith, h.2) }
quoted_again b s unclosed e h = tt

extent_again : (s : List ℕ) → ExtentAgain s (extent s)
unfolding extent all_text
extent_again [] = record { entry = bare []; unmarked = refl; same = refl; within = omega arith }
extent_again (b ∷ s) = go (is_quote b) refl
  where
    go : (q : Bool) → is_quote b ≡ q → ExtentAgain (b ∷ s) (cond q (longer (inside_quotes s)) (size (plain (b ∷ s))))
    go true e = quoted_again b s (inside_quotes s) e (inside_again s)
    go false e = record { entry = bare (take (plain (b ∷ s)) (b ∷ s)); unmarked = (all_plain (b ∷ s)).0; same = refl; within = (all_plain (b ∷ s)).1 }

-- a text begins with an entry that may be written, and with what follows it
pub record Begins (n : ℕ) (s t : List ℕ) : Type 0 where
  pub entry : Entry
  pub writable : Writable entry
  pub text : s ≡ written entry ++ t

abbrev FieldAgain : List ℕ → Field → Type 0
FieldAgain s (comma n) = Begins n s (44 ∷ drop (n + 1) s)
FieldAgain s (ends e n) = Begins n s (ending e (drop (n + width e) s))
FieldAgain s broken = Unit {0}

module _ (s : List ℕ) (n : ℕ) (a : Again n s) (l : n ≤ most_field_bytes) where
  begins : (t : List ℕ) → drop n s ≡ t → Begins n s t
  begins t e =
      let m : length (written a.entry) ≤ most_field_bytes = rw (a.same, length-take-le n s a.within) l in
      record { entry = a.entry; writable = record { unmarked = a.unmarked; size = m }; text = sym (take-append-drop n s) ∙ rw (← a.same, e) }

  line_again : (b : ℕ) (t : List ℕ) → is_cr b ≡ true → drop n s ≡ b ∷ t → FieldAgain s (line_feed n t)
  line_again b [] e d = tt
  line_again b (c ∷ t) e d = feed (is_lf c) refl
    where
      feed : (f : Bool) → is_lf c ≡ f → FieldAgain s (cond f (ends CrLf n) broken)
      feed true g = begins (13 ∷ 10 ∷ drop (n + 2) s) (d ∙ rw (eqb-true b 13 e, eqb-true c 10 g, ← drop-drop 2 n s, d))
      feed false g = tt

  following_again : (t : List ℕ) → drop n s ≡ t → FieldAgain s (following n t)
  unfolding following
  following_again [] d = begins [] d
  following_again (b ∷ t) d = next (is_comma b) (is_cr b) (is_lf b) refl refl refl
    where
      next : (f g k : Bool) → is_comma b ≡ f → is_cr b ≡ g → is_lf b ≡ k → FieldAgain s (cond f (comma n) (cond g (line_feed n t) (cond k (ends Lf n) broken)))
      next true g k e h i = begins (44 ∷ drop (n + 1) s) (d ∙ rw (eqb-true b 44 e, ← drop-drop 1 n s, d))
      next false true k e h i = line_again b t h d
      next false false true e h i = begins (10 ∷ drop (n + 1) s) (d ∙ rw (eqb-true b 10 i, ← drop-drop 1 n s, d))
      next false false false e h i = tt

field_again : (s : List ℕ) → FieldAgain s (field s)
unfolding field
field_again s = go (extent s) (extent_again s)
  where
    go : (x : Extent) → ExtentAgain s x → FieldAgain s (limited s x)
    go unclosed a = tt
    go (size n) a = short (leb n most_field_bytes) refl
      where
        short : (f : Bool) → leb n most_field_bytes ≡ f → FieldAgain s (cond f (following n (drop n s)) broken)
        short true e = following_again s n a (leb-true n most_field_bytes e) (drop n s) refl
        short false e = tt

-- a sound record, as a line
pub record LineAgain (s : List ℕ) (r : Record) : Type 0 where
  pub line : Line
  pub writable : AllWritable (line.first ∷ line.more)
  pub text : s ≡ write_line line ++ ending r.ending (drop r.bytes s)

record_again : (k : ℕ) (s : List ℕ) → (record_in k s).sound ≡ true → LineAgain s (record_in k s)
unfolding record_in write_fields
record_again zero s e = absurd (false≢true e)
record_again (suc k) s e = go (λ t. record_again k t) (field s) (field_again s) e
  where
    go : ((t : List ℕ) → (record_in k t).sound ≡ true → LineAgain t (record_in k t)) → (f : Field) → FieldAgain s f → (record_with (record_in k) s f).sound ≡ true → LineAgain s (record_with (record_in k) s f)
    go ih (comma n) b e =
        let t : List ℕ = drop (n + 1) s in
        let a : LineAgain t (record_in k t) = ih t e in
        let m : Line = a.line in
        let w : s ≡ written b.entry ++ 44 ∷ t = b.text in
        let v : t ≡ write_line m ++ ending (record_in k t).ending (drop (n + 1 + (record_in k t).bytes) s) = a.text ∙ rw drop-drop in
        record { line = record { first = b.entry; more = m.first ∷ m.more }; writable = (b.writable, a.writable); text = w ∙ ap (λ (x : List ℕ). written b.entry ++ 44 ∷ x) v ∙ sym (append_assoc (written b.entry) (44 ∷ write_line m) (ending (record_in k t).ending (drop (n + 1 + (record_in k t).bytes) s))) }
    go ih (ends x n) b e = record { line = record { first = b.entry; more = [] }; writable = (b.writable, tt); text = b.text }
    go ih broken b e = absurd (false≢true e)

line_of : (s : List ℕ) → (record_of s).sound ≡ true → LineAgain s (record_of s)
unfolding record_of
line_of s e = record_again (suc (length s)) s e

nothing_written : (e : LineEnd) → Written e []
unfolding write
nothing_written e = record { lines = []; ended = true; allowed = tt; text = refl }

-- one line in front of a text that is written: it ends with the text, or it has the line end
module _ (l : Line) (w : AllWritable (l.first ∷ l.more)) (s : List ℕ) where
  last_line : (e : LineEnd) → 0 < length s → s ≡ write_line l ++ [] → Written e s
  unfolding write
  last_line e h q = record { lines = l ∷ []; ended = false; allowed = (w, omega (arith, simp length-append at (ap length q))); text = sym q }

  joined_lines : (e : LineEnd) (t : List ℕ) → s ≡ write_line l ++ end_bytes e t → Written e t → Written e s
  unfolding write
  joined_lines e t q rest = go rest.lines rest.allowed rest.text
    where
      go : (ls : List Line) → Allowed ls rest.ended → write e ls rest.ended ≡ t → Written e s
      go [] a p = record { lines = l ∷ []; ended = true; allowed = (w, tt); text = rw (← p) at (sym q) }
      go (m ∷ ls) a p = record { lines = l ∷ m ∷ ls; ended = rest.ended; allowed = (w, a); text = ap (λ (x : List ℕ). write_line l ++ end_bytes e x) p ∙ sym q }

  -- the ending x of the line may stand in a file with the line end e
  more_lines : (e : LineEnd) (x : Ending) (t : List ℕ) → alike (ending_of e) x ≡ true → 0 < length s → s ≡ write_line l ++ ending x t → Written e t → Written e s
  more_lines e EndOfText t f h q rest = last_line e h q
  more_lines cr_lf CrLf t f h q rest = joined_lines cr_lf t q rest
  more_lines cr_lf Lf t f h q rest = absurd (false≢true f)
  more_lines lf CrLf t f h q rest = absurd (false≢true f)
  more_lines lf Lf t f h q rest = joined_lines lf t q rest

records_again : (e : LineEnd) (k : ℕ) (s : List ℕ) → length s ≤ k → SoundAlike (ending_of e) (records_in k s) → Written e s
unfolding records_in
records_again e zero [] l h = nothing_written e
records_again e zero (b ∷ s) l h = absurd (omega arith)
records_again e (suc k) [] l h = nothing_written e
records_again e (suc k) (b ∷ s) l h = go (λ t. records_again e k t)
  where
    sound : (record_of (b ∷ s)).sound ≡ true
    sound = h.0

    go : ((t : List ℕ) → length t ≤ k → SoundAlike (ending_of e) (records_in k t) → Written e t) → Written e (b ∷ s)
    go ih =
        let r : Record = record_of (b ∷ s) in
        let a : LineAgain (b ∷ s) r = line_of (b ∷ s) sound in
        let p : Spans r (suc (length s)) = record_spans (b ∷ s) sound in
        let m : 0 < r.bytes = p.some (omega arith) in
        let rest : SoundAlike (ending_of e) (records_in k (drop r.bytes (b ∷ s))) = rw sound at h.2 in
        more_lines a.line a.writable (b ∷ s) e r.ending (drop r.bytes (b ∷ s)) h.1 (omega arith) a.text (ih (drop r.bytes (b ∷ s)) (rw length-drop (omega arith)) rest)

pub alike_same : (x : Ending) → alike x x ≡ true
alike_same CrLf = refl
alike_same Lf = refl
alike_same EndOfText = refl

-- a text whose first record ends with it has a line end of either kind
alike_open : (x : Ending) → alike EndOfText x ≡ true → alike CrLf x ≡ true
alike_open CrLf e = absurd (false≢true e)
alike_open Lf e = absurd (false≢true e)
alike_open EndOfText e = refl

all_open : (rs : List Record) → SoundAlike EndOfText rs → SoundAlike CrLf rs
all_open [] h = tt
all_open (r ∷ rs) h = (h.0, alike_open r.ending h.1, all_open rs h.2)

-- THEOREM: every text whose records are all sound and end alike is written so.
pub write_again : (s : List ℕ) → SoundAlike (first_ending (records s)) (records s) → (e : LineEnd) × Written e s
unfolding records
write_again s h = go (first_ending (records s)) h
  where
    go : (x : Ending) → SoundAlike x (records s) → (e : LineEnd) × Written e s
    go CrLf h = (cr_lf, records_again cr_lf (length s) s (omega arith) h)
    go Lf h = (lf, records_again lf (length s) s (omega arith) h)
    go EndOfText h = (cr_lf, records_again cr_lf (length s) s (omega arith) (all_open (records s) h))
