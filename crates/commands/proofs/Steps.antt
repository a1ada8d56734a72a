-- Each kind of command, by what was found at its places. Assumes nothing.
use Rattle.std.proofs.Common.{◌≡◌, refl, sym, ap, ◌∙◌, Bool, true, false, cond, List, ◌∷◌, ℕ, suc, ◌+◌, ◌-◌, ◌<◌, ◌≤◌, ◌⊎◌, ⊎_elim, Option, Some, None, Ok, Err, length, take, drop, get_or, arith, ne_eqb, length-drop}
use Rattle.std.proofs.Math.Option.{none}
use Rattle.std.proofs.lemmas.Option.{none-some}
use Rattle.lists.specs.Bytes.{bytes, same}
use Rattle.vcd.specs.Words.{size, word_of}
use Rattle.vcd.specs.Syntax.{one_or_more, is_state, value_of, is_dump, remark, command, code, Step, on, bad, code_step, scalar_step, vector_step, time_step, keyword_step, command_by, is_decimal, step_of, reading}
use Rattle.vcd.proofs.Words.{word_byte, size_byte, size_within}
use Rattle.words.specs.Places.{next_start, word_in, TextEnds}
use Rattle.words.specs.declared.Word.{Word}
use Rattle.words.proofs.Runs.{next_byte, decimal_plain, in_none, in_some}
use Rattle.words.proofs.Starts.{Begins, no_more, word_starts}
use Rattle.words.proofs.Skips.{skipped_at, end_within}
use Rattle.commands.specs.Reads.{offered, kept, after_word, digits_at, code_at, reading_from, reading_by, Answer, Moves, Follows, ChangeRead, VectorRead, RealRead, ScalarRead, TimeRead, CommentRead, KeywordRead, end_by, CommandRead}
use Rattle.commands.specs.declared.Digits.{Digits}
use Rattle.commands.specs.declared.Code.{Code}
use Rattle.commands.specs.declared.Command.TheVariants.{Passed, Value, Ended}
use Rattle.commands.proofs.Values.{offered_value, Coded, not_coded, coded}

-- a refusal at a place
abbrev pub bad_at : ℕ → Answer
bad_at place = Err (record { 0 = place })

word_within : (s : List ℕ) (at : ℕ) → at ≤ length s → after_word s at ≤ length s
word_within s at h = let z : size (drop at s) ≤ length s - at = rw length-drop at (size_within (drop at s)) in omega arith

-- ---- changes

module _ (named s : List ℕ) (at : ℕ) (dump : Bool) (value : Option ℕ) (place : ℕ) {r : Option Word} (q : r ≡ next_start s at) where
  pub change_missing : r ≡ None → ChangeRead named s at dump value place (bad_at (length s))
  unfolding reading
  change_missing e = record { reads = rw (no_more s at q e); moves = tt }

  module _ (w : Word) (e : r ≡ Some w) {o : Option Code} (p : o ≡ code_at named s w.from) where
    begins : Begins s at w.from w.first
    begins = word_starts s at q w e

    next : reading_from named s (code (offered value) place dump) at ≡ reading_by named s (after_word s w.from) (code_step named (offered value) place dump w.from (word_of (drop w.from s)))
    unfolding reading
    next = rw begins.is

    pub change_bad : o ≡ None → ChangeRead named s at dump value place (bad_at w.from)
    unfolding code_step
    change_bad n = record { reads = next ∙ rw (not_coded named s w.from p n); moves = tt }

    module _ (c : Code) (n : o ≡ Some c) where
      found : Coded named s w.from c
      found = coded named s w.from p c n

      pub change_other : c.named ≡ false → ChangeRead named s at dump value place (Ok (Passed c.to dump))
      unfolding code_step
      change_other f =
          let k = found in
          record { reads = next ∙ rw (k.is_code_lem, k.is_named ∙ f, k.after); moves = (omega (arith, begins.low, begins.some, k.after), omega (arith, begins.within, k.after)) }

      pub change_refused : c.named ≡ true → value ≡ None → ChangeRead named s at dump value place (bad_at place)
      unfolding code_step
      change_refused f v = record { reads = next ∙ rw (found.is_code_lem, found.is_named ∙ f, v); moves = tt }

      pub change_named : c.named ≡ true → (x : ℕ) → value ≡ Some x → ChangeRead named s at dump value place (Ok (Value x place c.to))
      unfolding code_step
      change_named f x v =
          let k = found in
          record { reads = next ∙ rw (k.is_code_lem, k.is_named ∙ f, v, ← k.after); moves = (omega (arith, begins.low, begins.some, k.after), omega (arith, begins.within, k.after)) }

-- a command that begins earlier
moves_sooner : (s : List ℕ) (low high : ℕ) (r : Answer) → low ≤ high → Moves s high r → Moves s low r
moves_sooner s low high (Ok (Passed to d)) h m = (omega (arith, m.0), m.1)
moves_sooner s low high (Ok (Value v place to)) h m = (omega (arith, m.0), m.1)
moves_sooner s low high (Ok Ended) h m = tt
moves_sooner s low high (Err e) h m = tt

-- what the digits' answer tells of their word
record DigitsAt (s : List ℕ) (at : ℕ) (d : Digits) : Type 0 where
  passes : one_or_more is_state (word_of (drop at s)) ≡ true
  value : d.value ≡ kept (value_of (word_of (drop at s)))
  after : d.to ≡ after_word s at

digits_found : (s : List ℕ) (at : ℕ) {r : Option Digits} (d : Digits) → r ≡ digits_at s at → r ≡ Some d → DigitsAt s at d
unfolding digits_at
digits_found s at d q e = go (one_or_more is_state (word_of (drop at s))) refl (sym e ∙ q)
  where
    go : (t : Bool) → one_or_more is_state (word_of (drop at s)) ≡ t → Some d ≡ cond t (Some (record { value = kept (value_of (word_of (drop at s))); to = after_word s at })) None → DigitsAt s at d
    go true h f = let z : d ≡ record { value = kept (value_of (word_of (drop at s))); to = after_word s at } = cc in rw z (record { passes = h; value = refl; after = refl })
    go false h f = absurd (none-some _ (sym f))

digits_missing : (s : List ℕ) (at : ℕ) {r : Option Digits} → r ≡ digits_at s at → r ≡ None → one_or_more is_state (word_of (drop at s)) ≡ false
unfolding digits_at
digits_missing s at q e = go (one_or_more is_state (word_of (drop at s))) (sym e ∙ q)
  where
    go : (t : Bool) → ◌≡◌ {A = Option Digits} None (cond t (Some (record { value = kept (value_of (word_of (drop at s))); to = after_word s at })) None) → t ≡ false
    go true f = absurd (none-some _ f)
    go false f = refl

module _ (named s : List ℕ) (from : ℕ) (dump : Bool) where
  pub vector_bad : {r : Option Digits} → r ≡ digits_at s (from + 1) → r ≡ None → VectorRead named s from dump (bad_at from)
  unfolding vector_step
  vector_bad q e = record { reads = rw (digits_missing s (from + 1) q e); moves = tt }

  pub vector_value : {r : Option Digits} (d : Digits) {x : Answer} → r ≡ digits_at s (from + 1) → r ≡ Some d → ChangeRead named s d.to dump d.value from x → VectorRead named s from dump x
  unfolding vector_step
  vector_value d {x} q e c =
      let h : DigitsAt s (from + 1) d = digits_found s (from + 1) d q e in
      let o : offered d.value ≡ value_of (word_of (drop (from + 1) s)) = ap offered h.value ∙ offered_value (word_of (drop (from + 1) s)) in
      record { reads = rw (h.passes, ← o, ← h.after) c.reads; moves = moves_sooner s from d.to x (omega (arith, h.after)) c.moves }

  pub real_then : (to : ℕ) {x : Answer} → to ≡ after_word s from → ChangeRead named s to dump None from x → RealRead named s from dump x
  real_then to {x} e c = record { reads = rw (← e) c.reads; moves = moves_sooner s from to x (omega arith) c.moves }

  module _ {o : Option Code} (p : o ≡ code_at named s (from + 1)) where
    pub scalar_bad : o ≡ None → ScalarRead named s from dump (bad_at from)
    unfolding scalar_step
    scalar_bad n = record { reads = rw (not_coded named s (from + 1) p n); moves = tt }

    pub scalar_named : (c : Code) → o ≡ Some c → c.named ≡ true → ScalarRead named s from dump (bad_at from)
    unfolding scalar_step
    scalar_named c n f = let k = coded named s (from + 1) p c n in record { reads = rw (k.is_code_lem, k.is_named ∙ f); moves = tt }

    pub scalar_other : (c : Code) → from < length s → o ≡ Some c → c.named ≡ false → ScalarRead named s from dump (Ok (Passed c.to dump))
    unfolding scalar_step
    scalar_other c h n f =
        let k = coded named s (from + 1) p c n in
        record { reads = rw (k.is_code_lem, k.is_named ∙ f, k.after); moves = (omega (arith, k.after), rw k.after (word_within s (from + 1) (omega arith))) }

-- ---- times, keywords and comments

module _ (s : List ℕ) (from : ℕ) (dump : Bool) where
  pub time_dumped : dump ≡ true → TimeRead s from dump (bad_at from)
  unfolding time_step
  time_dumped e named = record { reads = rw e; moves = tt }

  module _ (e : dump ≡ false) {r : Option ℕ} (q : r ≡ word_in is_decimal s (from + 1)) where
    pub time_bad : r ≡ None → TimeRead s from dump (bad_at from)
    unfolding time_step
    time_bad n named = record { reads = rw (e, in_none is_decimal decimal_plain s (from + 1) q n); moves = tt }

    pub time_good : (to : ℕ) → r ≡ Some to → TimeRead s from dump (Ok (Passed to false))
    unfolding time_step
    time_good to n named = let h = in_some is_decimal decimal_plain s (from + 1) to q n in record { reads = rw (e, h.passes, h.ends); moves = (omega (arith, h.moves), h.within) }

module _ (s : List ℕ) (at : ℕ) {r : Option ℕ} (t : TextEnds s at r) where
  pub comment_ends : (to : ℕ) → r ≡ Some to → CommentRead s at (Ok (Passed to false))
  comment_ends to e named = record { reads = skipped_at named s at remark (command false) (λ a w. refl) refl t ∙ rw e; moves = end_within s at to (rw e at t) }

  pub comment_missing : r ≡ None → CommentRead s at (bad_at (length s))
  comment_missing e named = record { reads = skipped_at named s at remark (command false) (λ a w. refl) refl t ∙ rw e; moves = tt }

-- a keyword from its first byte to its end
module _ (s : List ℕ) (from : ℕ) (dump : Bool) (h : from < length s) (n : 0 < size (drop from s)) (to : ℕ) (t : to ≡ after_word s from) where
  pub keyword_starts : from ≤ to
  keyword_starts = omega arith

  pub keyword_ends : to ≤ length s
  keyword_ends = rw t (word_within s from (omega arith))

  part : take (to - from) (drop from s) ≡ word_of (drop from s)
  part = let z : to - from ≡ size (drop from s) = omega arith in rw z

  -- the word is this one, or not
  told : (k : List ℕ) (of : Bool) {f : Bool} → f ≡ same (take (to - from) (drop from s)) k → f ≡ of → same (word_of (drop from s)) k ≡ of
  told k of q e = ap (λ (w : List ℕ). same w k) (sym part) ∙ sym q ∙ e

  module _ (d : dump ≡ true) {f : Bool} (q : f ≡ same (take (to - from) (drop from s)) (bytes "$end")) where
    pub keyword_closes : f ≡ true → KeywordRead s from dump (Ok (Passed to false))
    unfolding keyword_step
    keyword_closes e named = record { reads = rw (d, told (bytes "$end") true q e, t); moves = (omega arith, keyword_ends) }

    pub keyword_dumped : f ≡ false → KeywordRead s from dump (bad_at from)
    unfolding keyword_step
    keyword_dumped e named = record { reads = rw (d, told (bytes "$end") false q e); moves = tt }

  module _ (d : dump ≡ false) {f : Bool} (q : f ≡ is_dump (take (to - from) (drop from s))) where
    dumps : (of : Bool) → f ≡ of → is_dump (word_of (drop from s)) ≡ of
    dumps of e = ap is_dump (sym part) ∙ sym q ∙ e

    pub keyword_opens : f ≡ true → KeywordRead s from dump (Ok (Passed to true))
    unfolding keyword_step
    keyword_opens e named = record { reads = rw (d, dumps true e, t); moves = (omega arith, keyword_ends) }

    module _ (e : f ≡ false) {g : Bool} (o : g ≡ same (take (to - from) (drop from s)) (bytes "$comment")) where
      pub keyword_comment : {r : Answer} → g ≡ true → CommentRead s to r → KeywordRead s from dump r
      unfolding keyword_step
      keyword_comment {r} y c named = record { reads = rw (d, dumps false e, told (bytes "$comment") true o y, ← t) (c named).reads; moves = moves_sooner s from to r (omega arith) (c named).moves }

      pub keyword_bad : g ≡ false → KeywordRead s from dump (bad_at from)
      unfolding keyword_step
      keyword_bad y named = record { reads = rw (d, dumps false e, told (bytes "$comment") false o y); moves = tt }

-- ---- the command at a place

module _ (named s : List ℕ) (at : ℕ) (dump : Bool) {r : Option Word} (q : r ≡ next_start s at) where
  pub command_missing : {x : Answer} → r ≡ None → x ≡ end_by dump (length s) → CommandRead named s at dump x
  unfolding reading
  command_missing {x} e f = rw f (go dump)
    where
      go : (d : Bool) → CommandRead named s at d (end_by d (length s))
      go true = record { reads = rw (no_more s at q e); moves = tt }
      go false = record { reads = rw (no_more s at q e); moves = tt }

  module _ (w : Word) (e : r ≡ Some w) where
    start : Begins s at w.from w.first
    start = word_starts s at q w e

    pub command_within : w.from < length s
    command_within = omega (arith, start.some, start.within)

    pub command_some : 0 < size (drop w.from s)
    command_some = start.some

    word : word_of (drop w.from s) ≡ w.first ∷ word_of (drop (w.from + 1) s)
    word = ap word_of (next_byte s w.from command_within) ∙ word_byte (get_or s w.from 0) (drop (w.from + 1) s) start.plain ∙ rw start.byte

    same_end : after_word s w.from ≡ after_word s (w.from + 1)
    same_end = let z : size (drop w.from s) ≡ suc (size (drop (w.from + 1) s)) = ap size (next_byte s w.from command_within) ∙ size_byte (get_or s w.from 0) (drop (w.from + 1) s) start.plain in omega arith

    -- the step that the first byte chooses, and the rest of the text
    chosen : (t : Step) → command_by named dump w.from (word_of (drop w.from s)) w.first (word_of (drop (w.from + 1) s)) ≡ t → reading_from named s (command dump) at ≡ reading_by named s (after_word s w.from) t
    unfolding reading
    chosen t f = rw start.is (ap (λ (v : List ℕ). reading_by named s (after_word s w.from) (step_of named (command dump) w.from v)) word ∙ ap (λ (v : List ℕ). reading_by named s (after_word s w.from) (command_by named dump w.from v w.first (word_of (drop (w.from + 1) s)))) (sym word) ∙ ap (reading_by named s (after_word s w.from)) f)

    along : (t : Step) (to : ℕ) {x : Answer} → to ≡ after_word s w.from → command_by named dump w.from (word_of (drop w.from s)) w.first (word_of (drop (w.from + 1) s)) ≡ t → Follows named s dump w.from (reading_by named s to t) x → CommandRead named s at dump x
    along t to {x} o f c = record { reads = chosen t f ∙ rw (← o) c.reads; moves = moves_sooner s at w.from x start.low c.moves }

    -- by the first byte
    pub command_vector : {x : Answer} → (w.first ≡ 66) ⊎ (w.first ≡ 98) → VectorRead named s w.from dump x → CommandRead named s at dump x
    unfolding command_by
    command_vector h c = along (vector_step dump w.from (word_of (drop (w.from + 1) s))) (after_word s (w.from + 1)) (sym same_end) (⊎_elim (λ z. rw z) (λ z. rw z) h) c

    pub command_time : {x : Answer} → w.first ≡ 35 → TimeRead s w.from dump x → CommandRead named s at dump x
    unfolding command_by
    command_time z c = along (time_step dump w.from (word_of (drop (w.from + 1) s))) (after_word s (w.from + 1)) (sym same_end) (rw z) (c named)

    pub command_keyword : {x : Answer} → w.first ≡ 36 → KeywordRead s w.from dump x → CommandRead named s at dump x
    unfolding command_by
    command_keyword z c = along (keyword_step dump w.from (word_of (drop w.from s))) (after_word s w.from) refl (rw z) (c named)

    pub command_real : {x : Answer} → (w.first ≡ 82) ⊎ (w.first ≡ 114) → RealRead named s w.from dump x → CommandRead named s at dump x
    unfolding command_by
    command_real h c = along (on (code none w.from dump)) (after_word s w.from) refl (⊎_elim (λ z. rw z) (λ z. rw z) h) c

    module _ (a : (w.first ≡ 98 → ⊥) × (w.first ≡ 66 → ⊥) × (w.first ≡ 35 → ⊥) × (w.first ≡ 36 → ⊥) × (w.first ≡ 114 → ⊥) × (w.first ≡ 82 → ⊥)) {f : Bool} (p : f ≡ is_state w.first) where
      pub command_scalar : {x : Answer} → f ≡ true → ScalarRead named s w.from dump x → CommandRead named s at dump x
      unfolding command_by
      command_scalar y c =
          along (scalar_step named dump w.from (word_of (drop (w.from + 1) s))) (after_word s (w.from + 1)) (sym same_end) (rw (ne_eqb w.first 98 a.0, ne_eqb w.first 66 a.1, ne_eqb w.first 35 a.2, sym p ∙ y)) c

      pub command_bad : f ≡ false → CommandRead named s at dump (bad_at w.from)
      unfolding command_by
      command_bad y = record {
        reads = chosen (bad w.from) (rw (ne_eqb w.first 98 a.0, ne_eqb w.first 66 a.1, ne_eqb w.first 35 a.2, sym p ∙ y, ne_eqb w.first 36 a.3, ne_eqb w.first 114 a.4, ne_eqb w.first 82 a.5));
        moves = tt;
      }
