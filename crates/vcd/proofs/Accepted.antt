-- A text that is read without a 432 is one that Writing.antt writes, with the values that are read (`reads_only_written`). Assumes nothing.
use mathlib.Core.Path.{◌≡◌, refl, sym}
use mathlib.Core.Logic.{◌≢◌, ◌⊎◌, inl, inr, ⊎_elim}
use mathlib.Core.Bool.{Bool, true, false, not, cond, ◌&&◌, ◌||◌, false≢true}
use mathlib.Core.List.{List, [], ◌∷◌, ◌++◌, map, append_assoc, append-nil, Memᴰ}
use mathlib.Core.Option.{Option, none, some, none-ne-some, some-ne-none}
use Prim.Native.Nat.{ℕ, zero, suc, ◌+◌, ◌-◌, ◌*◌, ◌≤◌}
use native.Mathlib.Omega.{arith}
use borrow.Author.Tests.{eqb-true, ne_eqb, leb-true, not-true}
use lib.Dec.{eqb, leb}
use lib.ListN.{length}
use Rattle.lists.specs.Bytes.{bytes, same}
use Rattle.lists.proofs.Bytes.{same_true, apart}
use Rattle.lists.proofs.Tests.{and-true, both, either, by_test}
use Rattle.vcd.specs.Words.{parting, size, word_of, Word, words, is}
use Rattle.vcd.specs.Syntax.{all, one_or_more, is_code, is_bit, is_state, is_decimal, binary, value_of, Due, declaration, variable, text, remark, command, code, Step, on, bad, is_declaration, declaration_step, variable_step, passing, taken, code_step, scalar_step, vector_step, time_step, is_dump, keyword_step, command_by, command_step, step_of, Reading, after, reading, reading_of}
use Rattle.vcd.specs.Recording.{values_in}
use Rattle.vcd.specs.Writing.{Parted, Spaced, NoEnd, Declarations, Binary, Change, Changes, Commands, Recording, recording}
use Rattle.vcd.specs.Claim.{ReadsOnlyWritten}
use Rattle.vcd.proofs.Writing.{in_word, by_byte}

-- ---- every text is its words, parted

abbrev bytes_of : List Word → List (List ℕ)
bytes_of xs = map (λ x. x.bytes) xs

-- a text that begins with the rest of a word, w
data Within : (w : List ℕ) → List (List ℕ) → List ℕ → Type 0 where
  within : {ws : List (List ℕ)} {s : List ℕ} (w : List ℕ) → all in_word w ≡ true → Parted s → Spaced ws s → Within w ws (w ++ s)

-- a text whose first byte b is a word's, before the rest of the word
begins : {w : List ℕ} {ws : List (List ℕ)} {s : List ℕ} (b : ℕ) → in_word b ≡ true → Within w ws s → Spaced ((b ∷ w) ∷ ws) (b ∷ s)
unfolding one_or_more all
begins b q (within w h p r) = Spaced.word (b ∷ w) (both q h) p r

longer : {w : List ℕ} {ws : List (List ℕ)} {s : List ℕ} (b : ℕ) → in_word b ≡ true → Within w ws s → Within (b ∷ w) ws (b ∷ s)
unfolding all
longer b q (within w h p r) = within (b ∷ w) (both q h) p r

-- the words of s, where a word may begin at its first byte and where it may not
both_spaced : (at : ℕ) (s : List ℕ) → Spaced (bytes_of (words true at s)) s × Within (word_of s) (bytes_of (words false at s)) s
unfolding words size all
both_spaced at [] = (Spaced.empty, within [] refl tt Spaced.empty)
both_spaced at (b ∷ s) = go (parting b) refl (both_spaced (suc at) s)
  where
    go : (t : Bool) → parting b ≡ t → Spaced (bytes_of (words true (suc at) s)) s × Within (word_of s) (bytes_of (words false (suc at) s)) s
        → Spaced (bytes_of (words true at (b ∷ s))) (b ∷ s) × Within (word_of (b ∷ s)) (bytes_of (words false at (b ∷ s))) (b ∷ s)
    go true q ih = rw q (Spaced.gap b q ih.0, within [] refl q (Spaced.gap b q ih.0))
    go false q ih = let i : in_word b ≡ true = rw q in rw q (begins b i ih.1, longer b i ih.1)

-- ---- the digits of a value

by_bit : (P : ℕ → Type 0) (b : ℕ) → P 48 → P 49 → is_bit b ≡ true → P b
by_bit P b p q = by_test _ _ (by_byte P b 48 p) (by_byte P b 49 q)

-- bits after the digits of n
more_digits : (n : ℕ) (t s : List ℕ) → Binary n t → all is_bit s ≡ true → Binary (binary n s) (t ++ s)
unfolding binary all
more_digits n t [] r h = rw append-nil r
more_digits n t (b ∷ s) r h =
    let q : (is_bit b ≡ true) × (all is_bit s ≡ true) = and-true (is_bit b) (all is_bit s) h in
    by_bit (λ c. Binary (binary n (c ∷ s)) (t ++ c ∷ s)) b
    (rw append_assoc at (more_digits (n * 2 + 0) (t ++ 48 ∷ []) s (Binary.next 0 (omega arith) r) q.1))
    (rw append_assoc at (more_digits (n * 2 + 1) (t ++ 49 ∷ []) s (Binary.next 1 (omega arith) r) q.1)) q.0

bits_write : (s : List ℕ) → one_or_more is_state s ≡ true → all is_bit s ≡ true → Binary (binary 0 s) s
unfolding one_or_more binary all
bits_write [] k h = absurd (false≢true k)
bits_write (b ∷ s) k h =
    let q : (is_bit b ≡ true) × (all is_bit s ≡ true) = and-true (is_bit b) (all is_bit s) h in
    by_bit (λ c. Binary (binary 0 (c ∷ s)) (c ∷ s)) b
    (more_digits 0 (48 ∷ []) s (Binary.first 0 (omega arith)) q.1)
    (more_digits 1 (49 ∷ []) s (Binary.first 1 (omega arith)) q.1) q.0

-- digits that say a value write it
value_said : (s : List ℕ) (v : ℕ) → one_or_more is_state s ≡ true → value_of s ≡ some v → Binary v s × (v ≤ 65534)
unfolding value_of
value_said s v k e = go (all is_bit s) refl (leb (binary 0 s) 65534) refl e
  where
    go : (t : Bool) → all is_bit s ≡ t → (u : Bool) → leb (binary 0 s) 65534 ≡ u → cond (t && u) (some (binary 0 s)) none ≡ some v → Binary v s × (v ≤ 65534)
    go true h true l e = let z : binary 0 s ≡ v = cc in rw (← z) (bits_write s k h, leb-true (binary 0 s) 65534 l)
    go true h false l e = absurd (none-ne-some v e)
    go false h u l e = absurd (none-ne-some v e)

-- one of two bytes
one_of : (b c d : ℕ) → (eqb b c || eqb b d) ≡ true → (b ≡ c) ⊎ (b ≡ d)
one_of b c d = by_test _ _ (λ e. inl (eqb-true b c e)) (λ e. inr (eqb-true b d e))

-- ---- what the grammar says of the words that are left, by what is due

-- words up to $end, and then what P says
data Ends (P : List (List ℕ) → Type 0) : List (List ℕ) → Type 0 where
  ends : {ws : List (List ℕ)} (ts : List (List ℕ)) → NoEnd ts → P ws → Ends P (ts ++ bytes "$end" ∷ ws)

-- a word and those after it, of which P holds
data First (P : List ℕ → List (List ℕ) → Type 0) : List (List ℕ) → Type 0 where
  first : {w : List ℕ} {ws : List (List ℕ)} → P w ws → First P (w ∷ ws)

module _ (named : List ℕ) where
  -- declarations and what comes after them; the vector is declared before or by one of them
  data Opened (declared : Bool) (vs : List ℕ) : List (List ℕ) → Type 0 where
    opened : {codes ws xs : List (List ℕ)} → Declarations codes ws → (declared ≡ true) ⊎ Memᴰ named codes → Ends (Commands named vs) xs
        → Opened declared vs (ws ++ bytes "$enddefinitions" ∷ xs)

  -- the rest of a declaration of a vector: so many words, the code and the text
  abbrev Variable : (before : ℕ) (declared : Bool) → List ℕ → List (List ℕ) → Type 0
  Variable zero declared vs = First (λ c ws. (is_code c ≡ true) × Ends (Opened (declared || same c named) vs) ws)
  Variable (suc n) declared vs = First (λ w ws. (w ≢ bytes "$end") × Variable n declared vs ws)

  -- the rest of a dump, and the commands after it
  data Dumped : List ℕ → List (List ℕ) → Type 0 where
    dumped : {us vs : List ℕ} {ws xs : List (List ℕ)} → Changes named us ws → Commands named vs xs → Dumped (us ++ vs) (ws ++ bytes "$end" ∷ xs)

  -- commands, within a dump or not
  abbrev Commanded : (dump : Bool) → List ℕ → List (List ℕ) → Type 0
  Commanded true = Dumped
  Commanded false = Commands named

  -- the code of a change, whose value came in the word before, and the commands after it
  data Coded (value : Option ℕ) (dump : Bool) : List ℕ → List (List ℕ) → Type 0 where
    own : {vs : List ℕ} {ws : List (List ℕ)} (v : ℕ) → value ≡ some v → Commanded dump vs ws → Coded value dump (v ∷ vs) (named ∷ ws)
    other : {vs : List ℕ} {ws : List (List ℕ)} (c : List ℕ) → is_code c ≡ true → c ≢ named → Commanded dump vs ws → Coded value dump vs (c ∷ ws)

  -- the words that are left, and the values that they give the named vector
  abbrev Rest : Due → List ℕ → List (List ℕ) → Type 0
  Rest (declaration declared) vs = Opened declared vs
  Rest (variable n declared) vs = Variable n declared vs
  Rest (text declared) vs = Ends (Opened declared vs)
  Rest remark vs = Ends (Commands named vs)
  Rest (command dump) vs = Commanded dump vs
  Rest (code value place dump) vs = Coded value dump vs

  -- ---- a word more, in front

  one_more : {P : List (List ℕ) → Type 0} {ws : List (List ℕ)} (w : List ℕ) → w ≢ bytes "$end" → Ends P ws → Ends P (w ∷ ws)
  one_more w ne (ends ts h p) = ends (w ∷ ts) (ne, h) p

  a_declaration : {declared : Bool} {vs : List ℕ} {ws : List (List ℕ)} (w : List ℕ) → is_declaration w ≡ true → Ends (Opened declared vs) ws → Opened declared vs (w ∷ ws)
  a_declaration w k (ends ts h (opened {ws = ws} {xs = xs} ds m cs)) =
      rw (← append_assoc ts (bytes "$end" ∷ ws) (bytes "$enddefinitions" ∷ xs)) (opened (Declarations.other w ts k h ds) m cs)

  a_variable : {declared : Bool} {vs : List ℕ} {ws : List (List ℕ)} → Variable 2 declared vs ws → Opened declared vs (bytes "$var" ∷ ws)
  a_variable {declared} (first {w = kind} (i, first {w = size} (j, first {w = c} (k, ends ts h (opened {codes = codes} {ws = ws} {xs = xs} ds m cs))))) =
      let now : (declared ≡ true) ⊎ Memᴰ named (c ∷ codes)
      = ⊎_elim (λ e. ⊎_elim (λ d. inl d) (λ e. inr (Memᴰ.head (sym (same_true c named e)))) (either declared (same c named) e)) (λ n. inr (Memᴰ.tail n)) m in
      rw (← append_assoc ts (bytes "$end" ∷ ws) (bytes "$enddefinitions" ∷ xs)) (opened (Declarations.variable kind size c ts k (i, (j, h)) ds) now cs)

  -- a change in front of commands, within a dump or not
  a_change : (dump : Bool) (vs : List ℕ) (xs : List (List ℕ)) {us : List ℕ} {ws : List (List ℕ)} → Change named us ws → Commanded dump vs xs → Commanded dump (us ++ vs) (ws ++ xs)
  a_change true vs xs {us} {ws} c (dumped {us = us'} {vs = vs'} {ws = ws'} {xs = xs'} cs r) =
      rw (← append_assoc us us' vs', ← append_assoc ws ws' (bytes "$end" ∷ xs')) (dumped (Changes.change c cs) r)
  a_change false vs xs c r = Commands.change c r

  a_vector : (dump : Bool) {vs : List ℕ} {ws : List (List ℕ)} (b : ℕ) (s : List ℕ) → (b ≡ 98) ⊎ (b ≡ 66) → one_or_more is_state s ≡ true
      → Coded (value_of s) dump vs ws → Commanded dump vs ((b ∷ s) ∷ ws)
  a_vector dump b s l h (own {vs = us} {ws = xs} v e r) = let q = value_said s v h e in a_change dump us xs (Change.value v b s l q.0 q.1) r
  a_vector dump b s l h (other {vs = us} {ws = xs} c k ne r) = a_change dump us xs (Change.vector b s c l h k ne) r

  a_real : (dump : Bool) {vs : List ℕ} {ws : List (List ℕ)} (b : ℕ) (s : List ℕ) → (b ≡ 114) ⊎ (b ≡ 82) → Coded none dump vs ws → Commanded dump vs ((b ∷ s) ∷ ws)
  a_real dump b s l (own v e r) = absurd (none-ne-some v e)
  a_real dump b s l (other {vs = us} {ws = xs} c k ne r) = a_change dump us xs (Change.real b s c l k ne) r

  a_dump : {vs : List ℕ} {ws : List (List ℕ)} (w : List ℕ) → is_dump w ≡ true → Dumped vs ws → Commands named vs (w ∷ ws)
  a_dump w k (dumped cs r) = Commands.dump w k cs r

  a_comment : {vs : List ℕ} {ws : List (List ℕ)} → Ends (Commands named vs) ws → Commands named vs (bytes "$comment" ∷ ws)
  a_comment (ends ts h r) = Commands.comment ts h r

  -- ---- one word

  -- f reads the words ws from what is due, and they are what the grammar says if there is no 432
  module _ (ws : List (List ℕ)) (f : Due → Reading) (later : (d : Due) → (f d).refusal ≡ none → Rest d (values_in (f d).values) ws) where
    -- if the word before them does x and there is no 432, P holds of the values
    record Fits (P : List ℕ → Type 0) (x : Step) : Type 0 where
      fits : (after x f).refusal ≡ none → P (values_in (after x f).values)

    by_choice : {P : List ℕ → Type 0} (t : Bool) {x y : Step} → (t ≡ true → Fits P x) → (t ≡ false → Fits P y) → Fits P (cond t x y)
    by_choice true p q = p refl
    by_choice false p q = q refl

    refuses : {P : List ℕ → Type 0} (place : ℕ) → Fits P (bad place)
    refuses place = record { fits = λ e. absurd (some-ne-none place e) }

    goes : {P : List ℕ → Type 0} (d : Due) → ((vs : List ℕ) → Rest d vs ws → P vs) → Fits P (on d)
    goes d g = record { fits = λ e. g _ (later d e) }

    declaration_fits : (declared : Bool) (at : ℕ) (w : List ℕ) → Fits (λ vs. Opened declared vs (w ∷ ws)) (declaration_step declared at w)
    unfolding declaration_step
    declaration_fits declared at w =
        by_choice (is w "$var") (λ e. goes (variable 2 declared) (λ _ r. rw (same_true w (bytes "$var") e) (a_variable r))) (λ _.
        by_choice (is w "$enddefinitions")
        (λ e. by_choice declared (λ d. goes remark (λ _ r. rw (same_true w (bytes "$enddefinitions") e) (opened Declarations.none (inl d) r))) (λ _. refuses at)) (λ _.
        by_choice (is_declaration w) (λ e. goes (text declared) (λ _ r. a_declaration w e r)) (λ _. refuses at)))

    variable_fits : (n : ℕ) (declared : Bool) (at : ℕ) (w : List ℕ) → Fits (λ vs. Variable n declared vs (w ∷ ws)) (variable_step named n declared at w)
    unfolding variable_step
    variable_fits zero declared at w = by_choice (is_code w) (λ k. goes (text (declared || same w named)) (λ _ r. first (k, r))) (λ _. refuses at)
    variable_fits (suc n) declared at w =
        let z : suc n - 1 ≡ n = omega arith in
        rw (ne_eqb (suc n) 0 (λ e. omega arith), z)
        (by_choice (is w "$end") (λ _. refuses at) (λ e. goes (variable n declared) (λ _ r. first (apart w (bytes "$end") e, r))))

    passing_fits : (here next : Due) (w : List ℕ) → ((vs : List ℕ) → Rest here vs ws → Ends (Rest next vs) ws) → Fits (λ vs. Ends (Rest next vs) (w ∷ ws)) (passing here next w)
    unfolding passing
    passing_fits here next w h =
        by_choice (is w "$end") (λ e. goes next (λ _ r. rw (same_true w (bytes "$end") e) (ends [] tt r))) (λ e. goes here (λ vs r. one_more w (apart w (bytes "$end") e) (h vs r)))

    code_fits : (value : Option ℕ) (place : ℕ) (dump : Bool) (at : ℕ) (w : List ℕ) → Fits (λ vs. Coded value dump vs (w ∷ ws)) (code_step named value place dump at w)
    unfolding code_step
    code_fits value place dump at w =
        by_choice (is_code w) (λ k. by_choice (same w named) (λ e. rw (same_true w named e) (takes value)) (λ e. goes (command dump) (λ _ r. other w k (apart w named e) r))) (λ _. refuses at)
      where
        takes : (value : Option ℕ) → Fits (λ vs. Coded value dump vs (named ∷ ws)) (taken value place dump)
        takes (some v) = record { fits = λ e. own v refl (later (command dump) e) }
        takes none = refuses place

    keyword_fits : (dump : Bool) (at : ℕ) (w : List ℕ) → Fits (λ vs. Commanded dump vs (w ∷ ws)) (keyword_step dump at w)
    unfolding keyword_step
    keyword_fits true at w = by_choice (is w "$end") (λ e. goes (command false) (λ _ r. rw (same_true w (bytes "$end") e) (dumped Changes.none r))) (λ _. refuses at)
    keyword_fits false at w =
        by_choice (is_dump w) (λ e. goes (command true) (λ _ r. a_dump w e r)) (λ _.
        by_choice (is w "$comment") (λ e. goes remark (λ _ r. rw (same_true w (bytes "$comment") e) (a_comment r))) (λ _. refuses at))

    time_fits : (dump : Bool) (at : ℕ) (s : List ℕ) → Fits (λ vs. Commanded dump vs ((35 ∷ s) ∷ ws)) (time_step dump at s)
    unfolding time_step
    time_fits true at s = refuses at
    time_fits false at s = by_choice (one_or_more is_decimal s) (λ h. goes (command false) (λ _ r. Commands.time s h r)) (λ _. refuses at)

    scalar_fits : (dump : Bool) (at b : ℕ) (s : List ℕ) → is_state b ≡ true → Fits (λ vs. Commanded dump vs ((b ∷ s) ∷ ws)) (scalar_step named dump at s)
    unfolding scalar_step
    scalar_fits dump at b s h =
        by_choice (is_code s && not (same s named))
        (λ e. let q = and-true (is_code s) (not (same s named)) e in
        goes (command dump) (λ vs r. a_change dump vs ws (Change.scalar b s h q.0 (apart s named (not-true (same s named) q.1))) r)) (λ _. refuses at)

    command_fits : (dump : Bool) (at : ℕ) (w : List ℕ) → Fits (λ vs. Commanded dump vs (w ∷ ws)) (command_step named dump at w)
    unfolding command_by vector_step
    command_fits dump at [] = refuses at
    command_fits dump at (b ∷ s) =
        by_choice (eqb b 98 || eqb b 66)
        (λ l. by_choice (one_or_more is_state s) (λ h. goes (code (value_of s) at dump) (λ _ r. a_vector dump b s (one_of b 98 66 l) h r)) (λ _. refuses at)) (λ _.
        by_choice (eqb b 35) (λ e. rw (eqb-true b 35 e) (time_fits dump at s)) (λ _.
        by_choice (is_state b) (scalar_fits dump at b s) (λ _.
        by_choice (eqb b 36) (λ _. keyword_fits dump at (b ∷ s)) (λ _.
        by_choice (eqb b 114 || eqb b 82) (λ l. goes (code none at dump) (λ _ r. a_real dump b s (one_of b 114 82 l) r)) (λ _. refuses at)))))

    step_fits : (due : Due) (at : ℕ) (w : List ℕ) → Fits (λ vs. Rest due vs (w ∷ ws)) (step_of named due at w)
    step_fits (declaration declared) at w = declaration_fits declared at w
    step_fits (variable n declared) at w = variable_fits n declared at w
    step_fits (text declared) at w = passing_fits (text declared) (declaration declared) w (λ _ r. r)
    step_fits remark at w = passing_fits remark (command false) w (λ _ r. r)
    step_fits (command dump) at w = command_fits dump at w
    step_fits (code value place dump) at w = code_fits value place dump at w

  -- ---- the whole text

  accepted : (n : ℕ) (due : Due) (xs : List Word) → (reading named n due xs).refusal ≡ none → Rest due (values_in (reading named n due xs).values) (bytes_of xs)
  unfolding reading
  accepted n (declaration declared) [] e = absurd (some-ne-none n e)
  accepted n (variable before declared) [] e = absurd (some-ne-none n e)
  accepted n (text declared) [] e = absurd (some-ne-none n e)
  accepted n remark [] e = absurd (some-ne-none n e)
  accepted n (command true) [] e = absurd (some-ne-none n e)
  accepted n (command false) [] e = Commands.none
  accepted n (code value place dump) [] e = absurd (some-ne-none n e)
  accepted n due (x ∷ xs) e = (step_fits (bytes_of xs) (λ d. reading named n d xs) (λ d h. accepted n d xs h) due x.at x.bytes).fits e

  whole : {vs : List ℕ} {ws : List (List ℕ)} → Opened false vs ws → Recording named vs ws
  whole (opened ds (inl e) cs) = absurd (false≢true e)
  whole (opened ds (inr m) (ends ts h cs)) = recording ts ds m h cs

pub reads_only_written : ReadsOnlyWritten
unfolding reading_of
reads_only_written named s e =
    record { words = bytes_of (words true 0 s); says = whole named (accepted named (length s) (declaration false) (words true 0 s) e); spaced = (both_spaced 0 s).0 }
