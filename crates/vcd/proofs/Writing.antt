-- A text that is written as Writing.antt says reads as the values that were written (`reads`, `reads_back`). Assumes nothing.
use mathlib.Core.Path.{◌≡◌, refl, ap, ◌∙◌}
use mathlib.Core.Logic.{◌≢◌, ◌⊎◌, inl, inr, ⊎_elim}
use mathlib.Core.Bool.{Bool, true, false, not, ◌||◌, false≢true}
use mathlib.Core.List.Memᴰ
use mathlib.Core.List.{List, [], ◌∷◌, ◌++◌, map, append_assoc, Memᴰ}
use mathlib.Core.Option.{Option, none, some}
use Prim.Native.Nat.{ℕ, suc, ◌+◌, ◌-◌, ◌*◌, ◌≤◌}
use Prim.Native.String.{String}
use native.Mathlib.Nat.{add-zero}
use native.Mathlib.Omega.{arith}
use borrow.Author.Tests.{eqb-true, ne_eqb, le-leb, le-ltb, not-true}
use lib.Dec.{eqb}
use lib.ListN.{length, length-map, drop_of_length-le}
use lib.Seq.{take-append_seam}
use Rattle.limits.specs.Limits.{most_text_bytes}
use Rattle.lists.specs.Bytes.{bytes, same}
use Rattle.lists.proofs.Bytes.{same_refl, same_true, differs}
use Rattle.lists.proofs.Tests.{and-true, both, by_test, or_left, or_right}
use Rattle.wcet.specs.Rules.{accepted, structure_rules}
use Rattle.wcet.specs.Claim.{AllHold}
use Rattle.wcet.proofs.Replies.{all_append, append_all, all_pass}
use Rattle.vcd.specs.Words.{parting, size, Word, words, is}
use Rattle.vcd.specs.Syntax.{all, one_or_more, is_code, is_bit, is_state, binary, value_of, Due, declaration, variable, text, remark, command, code, on, says, is_declaration, declaration_step, variable_step, passing, code_step, scalar_step, vector_step, time_step, is_dump, keyword_step, command_by, step_of, Value, after, reading, reading_of}
use Rattle.vcd.specs.Recording.{changed, changes, values_in, recorded, self_edge_rule, text_rule, recording_reply}
use Rattle.vcd.specs.Writing.{IsWord, Parted, Spaced, NoEnd, Declarations, Binary, Change, Changes, Commands, Recording, recording}
use Rattle.vcd.specs.Claim.{NoRepeatAfter, NoRepeat, ReadAs, Reads, ReadsBack}

-- ---- the words of a text are those that were written

abbrev pub in_word : ℕ → Bool
in_word b = not (parting b)

size_word : (w s : List ℕ) → all in_word w ≡ true → Parted s → size (w ++ s) ≡ length w
unfolding size all
size_word [] [] h p = refl
size_word [] (b ∷ s) h p = rw p
size_word (c ∷ w) s h p =
    let q : (in_word c ≡ true) × (all in_word w ≡ true) = and-true (in_word c) (all in_word w) h in
    rw (not-true (parting c) q.0) (ap suc (size_word w s q.1 p))

-- after the bytes of a word the next one may begin
after_word_lem : (w s : List ℕ) (at : ℕ) → all in_word w ≡ true → Parted s → words false at (w ++ s) ≡ words true (at + length w) s
unfolding words all
after_word_lem [] [] at h p = refl
after_word_lem [] (b ∷ s) at h p = rw (p, add-zero)
after_word_lem (c ∷ w) s at h p =
    let q : (in_word c ≡ true) × (all in_word w ≡ true) = and-true (in_word c) (all in_word w) h in
    let z : suc at + length w ≡ at + suc (length w) = omega arith in
    rw (not-true (parting c) q.0) (after_word_lem w s (suc at) q.1 p ∙ ap (λ (n : ℕ). words true n s) z)

first_word : (w s : List ℕ) (at : ℕ) → IsWord w → Parted s → words true at (w ++ s) ≡ record { at = at; bytes = w } ∷ words true (at + length w) s
unfolding words one_or_more all
first_word [] s at h p = absurd (false≢true h)
first_word (c ∷ w) s at h p =
    let q : (in_word c ≡ true) × (all in_word w ≡ true) = and-true (in_word c) (all in_word w) h in
    let z : suc at + length w ≡ at + suc (length w) = omega arith in
    rw (not-true (parting c) q.0, size_word (c ∷ w) s h p, take-append_seam w s, after_word_lem w s (suc at) q.1 p, z)

written_words : {ws : List (List ℕ)} {s : List ℕ} (at : ℕ) → Spaced ws s → map (λ (x : Word). x.bytes) (words true at s) ≡ ws
unfolding words
written_words at Spaced.empty = refl
written_words at (Spaced.gap b p r) = rw p (written_words (suc at) r)
written_words at (Spaced.word {s = s} w h p r) = rw (first_word w s at h p) (ap (λ (xs : List (List ℕ)). w ∷ xs) (written_words (at + length w) r))

-- ---- one word

-- from what is due, and wherever they stand, these words read as these values
record From (named : List ℕ) (due : Due) (ws : List (List ℕ)) (vs : List ℕ) : Type 0 where
  wherever : (n : ℕ) (xs : List Word) → map (λ (x : Word). x.bytes) xs ≡ ws → ReadAs (reading named n due xs) vs

module _ (named : List ℕ) where
  -- no word is left
  ended : From named (command false) [] []
  unfolding reading
  ended = record { wherever = λ n xs e. go n xs e }
    where
      go : (n : ℕ) (xs : List Word) → map (λ (x : Word). x.bytes) xs ≡ [] → ReadAs (reading named n (command false) xs) []
      go n [] e = record { values = refl; whole = refl }
      go n (x ∷ xs) e = absurd (let z : ◌≡◌ {A = ℕ} 0 1 = cc in omega arith)

  -- the word w, at this place, and the words after it, read as these values: it goes on to what is due next, or gives a value first
  data Does (due : Due) (w : List ℕ) (ws : List (List ℕ)) (at : ℕ) : List ℕ → Type 0 where
    goes : {vs : List ℕ} (d : Due) → step_of named due at w ≡ on d → From named d ws vs → Does due w ws at vs
    gives : {vs : List ℕ} (v place : ℕ) (d : Due) → step_of named due at w ≡ says v place d → From named d ws vs → Does due w ws at (v ∷ vs)

  one_word : (due : Due) (w : List ℕ) (ws : List (List ℕ)) (vs : List ℕ) → ((at : ℕ) → Does due w ws at vs) → From named due (w ∷ ws) vs
  unfolding reading
  one_word due w ws vs h = record { wherever = go }
    where
      does : (n at : ℕ) (us : List ℕ) (xs : List Word) → map (λ (x : Word). x.bytes) xs ≡ ws → Does due w ws at us
          → ReadAs (after (step_of named due at w) (λ d. reading named n d xs)) us
      does n at us xs e (goes d q f) = rw q (f.wherever n xs e)
      does n at us xs e (gives v place d q f) =
          rw q (let r = f.wherever n xs e in record { values = ap (λ (l : List ℕ). v ∷ l) r.values; whole = r.whole })

      go : (n : ℕ) (xs : List Word) → map (λ (x : Word). x.bytes) xs ≡ w ∷ ws → ReadAs (reading named n due xs) vs
      go n [] e = absurd (let z : ◌≡◌ {A = ℕ} 0 1 = cc in omega arith)
      go n (x ∷ xs) e =
          let p : x.bytes ≡ w = cc in
          rw p (does n x.at vs xs (cc) (h x.at))

-- ---- tests of words and bytes

pub by_byte : (P : ℕ → Type 0) (b c : ℕ) → P c → eqb b c ≡ true → P b
by_byte P b c p e = rw (eqb-true b c e) p

by_word : (P : List ℕ → Type 0) (w : List ℕ) (k : String) → P (bytes k) → is w k ≡ true → P w
by_word P w k p e = rw (same_true w (bytes k) e) p

by_state : (P : ℕ → Type 0) (b : ℕ) → P 48 → P 49 → P 120 → P 88 → P 122 → P 90 → is_state b ≡ true → P b
by_state P b p q x X z Z =
    by_test _ _ (by_byte P b 48 p) (by_test _ _ (by_byte P b 49 q) (by_test _ _ (by_byte P b 120 x)
    (by_test _ _ (by_byte P b 88 X) (by_test _ _ (by_byte P b 122 z) (by_byte P b 90 Z)))))

-- ---- the digits of a value

module _ (p : ℕ → Bool) where
  all_more : (s : List ℕ) (b : ℕ) → all p s ≡ true → p b ≡ true → all p (s ++ b ∷ []) ≡ true
  unfolding all
  all_more [] b h e = both e refl
  all_more (c ∷ s) b h e = let q = and-true (p c) (all p s) h in both q.0 (all_more s b q.1 e)

  pub some_all : (s : List ℕ) → one_or_more p s ≡ true → all p s ≡ true
  unfolding one_or_more
  some_all [] h = absurd (false≢true h)
  some_all (c ∷ s) h = h

  some_more : (s : List ℕ) (b : ℕ) → one_or_more p s ≡ true → p b ≡ true → one_or_more p (s ++ b ∷ []) ≡ true
  unfolding one_or_more
  some_more [] b h e = absurd (false≢true h)
  some_more (c ∷ s) b h e = all_more (c ∷ s) b h e

  bit_passes : (bit : ℕ) → p 48 ≡ true → p 49 ≡ true → bit ≤ 1 → p (48 + bit) ≡ true
  bit_passes ℕ.zero o i h = o
  bit_passes (suc ℕ.zero) o i h = i
  bit_passes (suc (suc n)) o i h = absurd (omega arith)

  -- digits that write a number pass each test that 0 and 1 pass
  pub digits_pass : {v : ℕ} {s : List ℕ} → p 48 ≡ true → p 49 ≡ true → Binary v s → one_or_more p s ≡ true
  unfolding one_or_more all
  digits_pass o i (Binary.first bit h) = both (bit_passes bit o i h) refl
  digits_pass o i (Binary.next {s = s} bit h r) = some_more s (48 + bit) (digits_pass o i r) (bit_passes bit o i h)

binary_more : (n : ℕ) (s : List ℕ) (b : ℕ) → binary n (s ++ b ∷ []) ≡ binary n s * 2 + (b - 48)
unfolding binary
binary_more n [] b = refl
binary_more n (c ∷ s) b = binary_more (n * 2 + (c - 48)) s b

digits_write : {v : ℕ} {s : List ℕ} → Binary v s → binary 0 s ≡ v
unfolding binary
digits_write (Binary.first bit h) = omega arith
digits_write (Binary.next {n = n} {s = s} bit h r) = let e : binary 0 s ≡ n = digits_write r in binary_more 0 s (48 + bit) ∙ omega arith

-- digits that write a value up to 65,534 say that value
value_written : {v : ℕ} {s : List ℕ} → Binary v s → v ≤ 65534 → value_of s ≡ some v
unfolding value_of
value_written {v} {s} r h = rw (some_all is_bit s (digits_pass is_bit refl refl r), digits_write r, le-leb v 65534 h)

-- ---- the pieces of a text

module _ (named : List ℕ) where
  -- a word that says nothing, and then what is due
  passed : {due d : Due} {w : List ℕ} {ws : List (List ℕ)} {vs : List ℕ} → ((at : ℕ) → step_of named due at w ≡ on d) → From named d ws vs → From named due (w ∷ ws) vs
  passed {due} {d} {w} {ws} {vs} e f = one_word named due w ws vs (λ at. goes d (e at) f)

  -- words up to $end
  to_end : (here next : Due) → ((at : ℕ) (w : List ℕ) → step_of named here at w ≡ passing here next w) → (ts : List (List ℕ)) {ws : List (List ℕ)} {vs : List ℕ}
      → NoEnd ts → From named next ws vs → From named here (ts ++ bytes "$end" ∷ ws) vs
  unfolding passing same
  to_end here next e [] h f = passed (λ at. e at (bytes "$end")) f
  to_end here next e (t ∷ ts) h f = passed (λ at. e at t ∙ rw (differs t (bytes "$end") h.0)) (to_end here next e ts h.1 f)

  -- ---- declarations

  other_step : (declared : Bool) (at : ℕ) (w : List ℕ) → is_declaration w ≡ true → declaration_step declared at w ≡ on (text declared)
  unfolding is_declaration declaration_step same
  other_step declared at w =
      let here : List ℕ → Type 0 = λ w. declaration_step declared at w ≡ on (text declared) in
      by_test _ _ (by_word here w "$comment" refl) (by_test _ _ (by_word here w "$date" refl) (by_test _ _ (by_word here w "$scope" refl)
      (by_test _ _ (by_word here w "$timescale" refl) (by_test _ _ (by_word here w "$upscope" refl) (by_word here w "$version" refl)))))

  -- the vector is declared before these declarations or by one of them
  declarations : {codes ws rest : List (List ℕ)} {vs : List ℕ} (declared : Bool) → (declared ≡ true) ⊎ Memᴰ named codes → Declarations codes ws → From named (declaration true) rest vs
      → From named (declaration declared) (ws ++ rest) vs
  unfolding variable_step declaration_step same
  declarations declared m Declarations.none f = ⊎_elim (λ e. rw e f) (λ n. absurd (Memᴰ.not-nil n)) m
  declarations {rest = rest} declared m (Declarations.other {ws = ws} keyword ts k h r) f =
      rw (append_assoc ts (bytes "$end" ∷ ws) rest)
      (passed (λ at. other_step declared at keyword k) (to_end (text declared) (declaration declared) (λ at w. refl) ts h (declarations declared m r f)))
  declarations {rest = rest} declared m (Declarations.variable {codes = codes} {ws = ws} kind size c ts k h r) f =
      let now : ((declared || same c named) ≡ true) ⊎ Memᴰ named codes
      = ⊎_elim (λ e. inl (or_left (same c named) e)) (λ n. ⊎_elim (λ e. inl (or_right declared (rw e (same_refl c)))) (λ n. inr n) (Memᴰ.cases_cons n)) m in
      rw (append_assoc ts (bytes "$end" ∷ ws) rest)
      (passed {d = variable 2 declared} (λ at. refl)
      (passed {d = variable 1 declared} (λ at. rw (differs kind (bytes "$end") h.0))
      (passed {d = variable 0 declared} (λ at. rw (differs size (bytes "$end") h.1.0))
      (passed (λ at. rw k)
      (to_end (text (declared || same c named)) (declaration (declared || same c named)) (λ at w. refl) ts h.1.1 (declarations (declared || same c named) now r f))))))

  -- the code of a declared vector is a code
  declared_code : {codes ws : List (List ℕ)} → Declarations codes ws → Memᴰ named codes → is_code named ≡ true
  declared_code Declarations.none m = absurd (Memᴰ.not-nil m)
  declared_code (Declarations.other keyword ts k h r) m = declared_code r m
  declared_code (Declarations.variable kind size c ts k h r) m = ⊎_elim (λ e. rw e k) (λ n. declared_code r n) (Memᴰ.cases_cons m)

  -- ---- changes

  module _ (dump : Bool) where
    -- a word that holds a vector's value
    vector_step_lem : (at b : ℕ) (s : List ℕ) → (b ≡ 98) ⊎ (b ≡ 66) → one_or_more is_state s ≡ true → step_of named (command dump) at (b ∷ s) ≡ on (code (value_of s) at dump)
    unfolding command_by vector_step
    vector_step_lem at b s (inl e) h = rw (e, h)
    vector_step_lem at b s (inr e) h = rw (e, h)

    real_step : (at r : ℕ) (s : List ℕ) → (r ≡ 114) ⊎ (r ≡ 82) → step_of named (command dump) at (r ∷ s) ≡ on (code none at dump)
    unfolding command_by
    real_step at r s (inl e) = rw e
    real_step at r s (inr e) = rw e

    scalar_step_lem : (at digit : ℕ) (c : List ℕ) → is_state digit ≡ true → is_code c ≡ true → c ≢ named → step_of named (command dump) at (digit ∷ c) ≡ on (command dump)
    unfolding command_by scalar_step
    scalar_step_lem at digit c h k ne =
        let leaf : scalar_step named dump at c ≡ on (command dump) = rw (k, differs c named ne) in
        by_state (λ b. step_of named (command dump) at (b ∷ c) ≡ on (command dump)) digit leaf leaf leaf leaf leaf leaf h

    -- a change of another code, whose value came in the word before
    other_code : (value : Option ℕ) (w c : List ℕ) {xs : List (List ℕ)} {vs : List ℕ} → is_code c ≡ true → c ≢ named
        → ((at : ℕ) → step_of named (command dump) at w ≡ on (code value at dump)) → From named (command dump) xs vs → From named (command dump) (w ∷ c ∷ xs) vs
    unfolding code_step
    other_code value w c {xs} {vs} k ne e f =
        one_word named (command dump) w (c ∷ xs) vs (λ at. goes (code value at dump) (e at) (passed (λ _. rw (k, differs c named ne)) f))

    module _ (k : is_code named ≡ true) where
      one_change : {us vs : List ℕ} {ws xs : List (List ℕ)} → Change named us ws → From named (command dump) xs vs → From named (command dump) (ws ++ xs) (us ++ vs)
      unfolding code_step
      one_change {vs = vs} {xs = xs} (Change.value v b s l r h) f =
          one_word named (command dump) (b ∷ s) (named ∷ xs) (v ∷ vs) (λ at.
          goes (code (value_of s) at dump) (vector_step_lem at b s l (digits_pass is_state refl refl r))
          (one_word named (code (value_of s) at dump) named xs (v ∷ vs) (λ _. gives v at (command dump) (rw (k, same_refl named, value_written r h)) f)))
      one_change (Change.scalar digit c h i ne) f = passed (λ at. scalar_step_lem at digit c h i ne) f
      one_change (Change.vector b s c l h i ne) f = other_code (value_of s) (b ∷ s) c i ne (λ at. vector_step_lem at b s l h) f
      one_change (Change.real r s c l i ne) f = other_code none (r ∷ s) c i ne (λ at. real_step at r s l) f

      in_turn_lem : {us vs : List ℕ} {ws xs : List (List ℕ)} → Changes named us ws → From named (command dump) xs vs → From named (command dump) (ws ++ xs) (us ++ vs)
      in_turn_lem Changes.none f = f
      in_turn_lem {vs = rest} {xs = later} (Changes.change {us} {vs} {ws} {xs} c r) f = rw (append_assoc us vs rest, append_assoc ws xs later) (one_change c (in_turn_lem r f))

  -- ---- the commands and the whole text

  dump_step : (at : ℕ) (w : List ℕ) → is_dump w ≡ true → step_of named (command false) at w ≡ on (command true)
  unfolding is_dump keyword_step command_by same
  dump_step at w =
      let here : List ℕ → Type 0 = λ w. step_of named (command false) at w ≡ on (command true) in
      by_test _ _ (by_word here w "$dumpvars" refl) (by_test _ _ (by_word here w "$dumpall" refl) (by_test _ _ (by_word here w "$dumpoff" refl) (by_word here w "$dumpon" refl)))

  commands : {vs : List ℕ} {ws : List (List ℕ)} → is_code named ≡ true → Commands named vs ws → From named (command false) ws vs
  unfolding command_by time_step keyword_step is_dump same
  commands k Commands.none = ended named
  commands k (Commands.change c r) = one_change false k c (commands k r)
  commands k (Commands.time digits h r) = passed (λ at. rw h) (commands k r)
  commands k (Commands.comment ts h r) = passed {d = remark} (λ at. refl) (to_end remark (command false) (λ at w. refl) ts h (commands k r))
  commands k (Commands.dump keyword d c r) = passed (λ at. dump_step at keyword d) (in_turn_lem true k c (passed (λ at. refl) (commands k r)))

  whole_text_lem : {vs : List ℕ} {ws : List (List ℕ)} → Recording named vs ws → From named (declaration false) ws vs
  unfolding declaration_step same
  whole_text_lem (recording ts ds m h cs) =
      declarations false (inr m) ds
      (passed {d = remark} (λ at. refl) (to_end remark (command false) (λ at w. refl) ts h (commands (declared_code ds m) cs)))

pub reads : Reads
unfolding reading_of
reads named vs s w = (whole_text_lem named w.says).wherever (length s) (words true 0 s) (written_words 0 w.spaced)

-- ---- no value twice in a row

changed_all : (last : ℕ) (vs : List Value) → NoRepeatAfter last (values_in vs) → changed last vs ≡ vs
unfolding changed
changed_all last [] h = refl
changed_all last (v ∷ vs) h = rw (ne_eqb v.value last h.0) (ap (λ (l : List Value). v ∷ l) (changed_all v.value vs h.1))

changes_all : (vs : List Value) → NoRepeat (values_in vs) → changes vs ≡ vs
unfolding changes
changes_all [] h = refl
changes_all (v ∷ vs) h = ap (λ (l : List Value). v ∷ l) (changed_all v.value vs h)

-- a reading of values that differ from the one before, with room for them
recorded_all : (named s vs : List ℕ) (room : ℕ) → ReadAs (reading_of named s) vs → NoRepeat vs → length vs ≤ room → recorded named room s ≡ accepted vs
unfolding recorded
recorded_all named s vs room r h l =
    let read : List Value = (reading_of named s).values in
    let few : length read ≤ room = rw (← length-map read (λ v. v.value), r.values) l in
    rw (changes_all read (rw r.values h), r.whole, drop_of_length-le read {i = room} few) (ap accepted r.values)

pub reads_back : ReadsBack
unfolding recording_reply
reads_back t named vs s room given w h short l =
    let q : AllHold (structure_rules t) × AllHold (self_edge_rule t ∷ []) = all_append (structure_rules t) (self_edge_rule t ∷ []) given in
    all_pass (structure_rules t ++ self_edge_rule t ∷ text_rule s ∷ []) (recorded named room s)
    (append_all (structure_rules t) (self_edge_rule t ∷ text_rule s ∷ []) q.0 (q.1.0, (λ p b. le-ltb most_text_bytes (length s) short, tt)))
    ∙ recorded_all named s vs room (reads named vs s w) h l
