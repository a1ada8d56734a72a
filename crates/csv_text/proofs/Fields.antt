-- The end of a field, at a position of a text: what one byte more says, and each way through the functions up to `field_end`.
-- Assumes nothing.
use mathlib.Core.Path.{◌≡◌, refl, sym, ap, ◌∙◌}
use mathlib.Core.Bool.{Bool, true, false, cond}
use mathlib.Core.List.{List, [], ◌∷◌}
use Prim.Native.Nat.{ℕ, suc, ◌+◌, ◌-◌, ◌<◌, ◌≤◌}
use native.Mathlib.Nat.{add-zero}
use native.Mathlib.Numerals.{add-one}
use native.Mathlib.Omega.{arith}
use borrow.Author.Tests.{eq-eqb, ne_eqb, lt-ltb, le-ltb}
use lib.ListN.{length, drop, get_or, drop_of_length-le}
use lib.Seq.{drop-cons, drop-drop}
use Rattle.std.proofs.Common.{Option, Some, None}
use Rattle.std.specs.Bool.{then_some}
use native.Mathlib.Decide.{dec_lt}
use lib.Dec.{leb, ltb, eqb, leb-zero, leb-suc-suc, leb-suc-zero}
use Rattle.limits.specs.Limits.{most_field_bytes}
use Rattle.csv_text.specs.Grammar.{Extent, size, unclosed, longer, plain, inside_quotes, after_quote, extent, is_quote, is_comma, is_cr, is_lf, is_text, comma, ends, broken, following, line_feed, limited, field}
use Rattle.csv_text.specs.Place.{close_at, found_at}
use Rattle.csv_text.specs.declared.Found.{Found}
use Rattle.csv_text.specs.declared.Found.TheVariants.{Comma, Ends, Broken}
use Rattle.csv_text.specs.declared.Ending.TheVariants.{CrLf, Lf, EndOfText}

-- the bytes from a place within the text: the byte there, and those from the next place on
pub next_byte : (s : List ℕ) (i : ℕ) → i < length s → drop i s ≡ get_or s i 0 ∷ drop (i + 1) s
next_byte s i h = rw (add-one, drop-cons s i 0)

-- one byte more: one place on, and one byte less of room
pub close_at_longer : (at room less : ℕ) (e : Extent) → less + 1 ≡ room → close_at at room (longer e) ≡ close_at (at + 1) less e
close_at_longer at room less (size n) m =
    let e : at + 1 + n ≡ at + suc n = omega arith in
    rw (← m, e, add-one, leb-suc-suc)
close_at_longer at room less unclosed m = refl

-- no room, and a byte more
pub close_at_full : (at : ℕ) (e : Extent) → close_at at 0 (longer e) ≡ None
close_at_full at (size n) = rw leb-suc-zero
close_at_full at unclosed = refl

-- Inside quotes, and after a quote mark: at the end of the text, at a quote mark, at another byte.
module _ (s : List ℕ) (at : ℕ) where
  inside_end : length s ≤ at → inside_quotes (drop at s) ≡ unclosed
  unfolding inside_quotes
  inside_end h = rw drop_of_length-le

  inside_mark : at < length s → get_or s at 0 ≡ 34 → inside_quotes (drop at s) ≡ longer (after_quote (drop (at + 1) s))
  unfolding inside_quotes
  inside_mark h e = rw (next_byte s at h, eq-eqb _ _ e)

  inside_text : at < length s → (get_or s at 0 ≡ 34 → ⊥) → inside_quotes (drop at s) ≡ longer (inside_quotes (drop (at + 1) s))
  unfolding inside_quotes
  inside_text h e = rw (next_byte s at h, ne_eqb _ _ e)

  after_end_lem : length s ≤ at → after_quote (drop at s) ≡ size 0
  unfolding inside_quotes
  after_end_lem h = rw drop_of_length-le

  after_mark : at < length s → get_or s at 0 ≡ 34 → after_quote (drop at s) ≡ longer (inside_quotes (drop (at + 1) s))
  unfolding inside_quotes
  after_mark h e = rw (next_byte s at h, eq-eqb _ _ e)

  after_other : at < length s → (get_or s at 0 ≡ 34 → ⊥) → after_quote (drop at s) ≡ size 0
  unfolding inside_quotes
  after_other h e = rw (next_byte s at h, ne_eqb _ _ e)

  -- a byte more than there is room for
  pub inside_full : {room : ℕ} → at < length s → room ≡ 0 → None ≡ close_at at room (inside_quotes (drop at s))
  unfolding inside_quotes
  inside_full h e = rw (e, next_byte s at h) (sym (close_at_full at (cond (is_quote (get_or s at 0)) (after_quote (drop (at + 1) s)) (inside_quotes (drop (at + 1) s)))))

  pub after_full : {room : ℕ} → at < length s → get_or s at 0 ≡ 34 → room ≡ 0 → None ≡ close_at at room (after_quote (drop at s))
  after_full h e f = rw (f, after_mark h e) (sym (close_at_full at (inside_quotes (drop (at + 1) s))))

-- Each way through `inside_quotes` and `after_quote`. The conclusions have the form of their `ensures`.
module _ (s : List ℕ) (at room : ℕ) where
  pub inside_stops : length s ≤ at → None ≡ close_at at room (inside_quotes (drop at s))
  inside_stops h = rw (inside_end s at h)

  pub after_stops : length s ≤ at → Some at ≡ close_at at room (after_quote (drop at s))
  after_stops h = rw (after_end_lem s at h, leb-zero, add-zero)

  pub after_closes : at < length s → (get_or s at 0 ≡ 34 → ⊥) → Some at ≡ close_at at room (after_quote (drop at s))
  after_closes h e = rw (after_other s at h e, leb-zero, add-zero)

  module _ {r : Option ℕ} (h : at < length s) (f : room ≡ 0 → ⊥) where
    pub inside_to_after : get_or s at 0 ≡ 34 → r ≡ close_at (at + 1) (room - 1) (after_quote (drop (at + 1) s)) → r ≡ close_at at room (inside_quotes (drop at s))
    inside_to_after e q = rw (inside_mark s at h e) (q ∙ sym (close_at_longer at room (room - 1) (after_quote (drop (at + 1) s)) (omega arith)))

    pub inside_on : (get_or s at 0 ≡ 34 → ⊥) → r ≡ close_at (at + 1) (room - 1) (inside_quotes (drop (at + 1) s)) → r ≡ close_at at room (inside_quotes (drop at s))
    inside_on e q = rw (inside_text s at h e) (q ∙ sym (close_at_longer at room (room - 1) (inside_quotes (drop (at + 1) s)) (omega arith)))

    pub after_to_inside : get_or s at 0 ≡ 34 → r ≡ close_at (at + 1) (room - 1) (inside_quotes (drop (at + 1) s)) → r ≡ close_at at room (after_quote (drop at s))
    after_to_inside e q = rw (after_mark s at h e) (q ∙ sym (close_at_longer at room (room - 1) (inside_quotes (drop (at + 1) s)) (omega arith)))

-- A run of text bytes that starts at i: at the end of the text, at another byte, at a text byte. t is where the run ends.
module _ (s : List ℕ) (i t : ℕ) where
  pub run_over : length s ≤ i → t ≡ i + plain (drop i s) → i ≡ t
  unfolding plain
  run_over h e = sym (e ∙ rw (drop_of_length-le s h, add-zero))

  pub run_stops : {f : Bool} → i < length s → f ≡ is_text (get_or s i 0) → f ≡ false → t ≡ i + plain (drop i s) → i ≡ t
  unfolding plain
  run_stops h p q e = sym (e ∙ rw (next_byte s i h, sym p ∙ q, add-zero))

  pub run_on : {f : Bool} → i < length s → f ≡ is_text (get_or s i 0) → f ≡ true → t ≡ i + plain (drop i s) → t ≡ i + 1 + plain (drop (i + 1) s)
  unfolding plain
  run_on h p q e = e ∙ rw (next_byte s i h, sym p ∙ q) (omega arith)

-- Each way through `field_close`.
module _ (s : List ℕ) (at : ℕ) where
  pub close_quoted : {r : Option ℕ} → at < length s → get_or s at 0 ≡ 34 → r ≡ close_at (at + 1) (most_field_bytes - 1) (inside_quotes (drop (at + 1) s)) → r ≡ close_at at most_field_bytes (extent (drop at s))
  unfolding extent
  close_quoted h e q = rw (next_byte s at h, eq-eqb _ _ e) (q ∙ sym (close_at_longer at most_field_bytes (most_field_bytes - 1) (inside_quotes (drop (at + 1) s)) refl))

  extent_plain : (at < length s → get_or s at 0 ≡ 34 → ⊥) → extent (drop at s) ≡ size (plain (drop at s))
  unfolding extent plain
  extent_plain f = go (dec_lt at (length s))
    where
      go : Dec (at < length s) → extent (drop at s) ≡ size (plain (drop at s))
      go (yes h) = rw (next_byte s at h, ne_eqb (get_or s at 0) 34 (f h))
      go (no h) = let l : length s ≤ at = omega arith in rw (drop_of_length-le s l)

  pub close_plain : {e : ℕ} → (at < length s → get_or s at 0 ≡ 34 → ⊥) → e ≡ at + plain (drop at s) → then_some (leb (e - at) most_field_bytes) e ≡ close_at at most_field_bytes (extent (drop at s))
  close_plain {e} f q =
      let n : e - at ≡ plain (drop at s) = omega arith in
      rw (extent_plain f, n, ← q) (some_if (leb (plain (drop at s)) most_field_bytes))
    where
      some_if : (b : Bool) → then_some b e ≡ cond b (Some e) None
      some_if true = refl
      some_if false = refl

-- what follows a field does not depend on where its bytes are counted from
found_after : (at n : ℕ) (t : List ℕ) → found_at (at + n) (following 0 t) ≡ found_at at (following n t)
unfolding following
found_after at n [] = rw add-zero
found_after at n (b ∷ t) = go (is_comma b) (is_cr b) (is_lf b)
  where
    line : (t : List ℕ) → found_at (at + n) (line_feed 0 t) ≡ found_at at (line_feed n t)
    line [] = refl
    line (c ∷ t) = feed (is_lf c)
      where
        feed : (f : Bool) → found_at (at + n) (cond f (ends CrLf 0) broken) ≡ found_at at (cond f (ends CrLf n) broken)
        feed true = rw add-zero
        feed false = refl

    go : (f g h : Bool) → found_at (at + n) (cond f (comma 0) (cond g (line_feed 0 t) (cond h (ends Lf 0) broken))) ≡ found_at at (cond f (comma n) (cond g (line_feed n t) (cond h (ends Lf n) broken)))
    go true g h = rw add-zero
    go false true h = line t
    go false false true = rw add-zero
    go false false false = refl

pub found_from : (s : List ℕ) (at n e : ℕ) → e ≡ at + n → found_at e (following 0 (drop e s)) ≡ found_at at (following n (drop n (drop at s)))
found_from s at n e i = rw (i, drop-drop n at s) (found_after at n (drop (at + n) s))

-- What follows a field that ends at e, by the bytes there.
pub found_following : (s : List ℕ) (e : ℕ) → found_at e (following 0 (drop e s)) ≡ cond (ltb e (length s)) (cond (eqb (get_or s e 0) 44) (Comma e) (cond (eqb (get_or s e 0) 13) (cond (ltb (e + 1) (length s)) (cond (eqb (get_or s (e + 1) 0) 10) (Ends CrLf e) Broken) Broken) (cond (eqb (get_or s e 0) 10) (Ends Lf e) Broken))) (Ends EndOfText e)
unfolding following
found_following s e = at (dec_lt e (length s)) (dec_lt (e + 1) (length s))
  where
    byte : (feed : Bool) → found_at e (cond (is_comma (get_or s e 0)) (comma 0) (cond (is_cr (get_or s e 0)) (cond feed (ends CrLf 0) broken) (cond (is_lf (get_or s e 0)) (ends Lf 0) broken))) ≡ cond (eqb (get_or s e 0) 44) (Comma e) (cond (eqb (get_or s e 0) 13) (cond feed (Ends CrLf e) Broken) (cond (eqb (get_or s e 0) 10) (Ends Lf e) Broken))
    byte feed = go (is_comma (get_or s e 0)) (is_cr (get_or s e 0)) (is_lf (get_or s e 0)) feed
      where
        go : (c r l f : Bool) → found_at e (cond c (comma 0) (cond r (cond f (ends CrLf 0) broken) (cond l (ends Lf 0) broken))) ≡ cond c (Comma e) (cond r (cond f (Ends CrLf e) Broken) (cond l (Ends Lf e) Broken))
        go true r l f = rw add-zero
        go false true l true = rw add-zero
        go false true l false = refl
        go false false true f = rw add-zero
        go false false false f = refl

    at : Dec (e < length s) → Dec (e + 1 < length s) → found_at e (following 0 (drop e s)) ≡ cond (ltb e (length s)) (cond (eqb (get_or s e 0) 44) (Comma e) (cond (eqb (get_or s e 0) 13) (cond (ltb (e + 1) (length s)) (cond (eqb (get_or s (e + 1) 0) 10) (Ends CrLf e) Broken) Broken) (cond (eqb (get_or s e 0) 10) (Ends Lf e) Broken))) (Ends EndOfText e)
    at (no h) k = let l : length s ≤ e = omega arith in rw (le-ltb e (length s) l, drop_of_length-le s l, add-zero)
    at (yes h) (no k) = let l : length s ≤ e + 1 = omega arith in rw (lt-ltb e (length s) h, le-ltb (e + 1) (length s) l, next_byte s e h, drop_of_length-le s l) (byte false)
    at (yes h) (yes k) = rw (lt-ltb e (length s) h, lt-ltb (e + 1) (length s) k, next_byte s e h, next_byte s (e + 1) k) (byte (eqb (get_or s (e + 1) 0) 10))

-- A field that ends at e: how many bytes it has, and that what stands at e decides.
closed : (x : Extent) (t : List ℕ) (at e : ℕ) → Some e ≡ close_at at most_field_bytes x → (n : ℕ) × (e ≡ at + n) × (limited t x ≡ following n (drop n t))
closed (size n) t at e q = go (leb n most_field_bytes) refl q
  where
    go : (b : Bool) → leb n most_field_bytes ≡ b → Some e ≡ cond b (Some (at + n)) None → (k : ℕ) × (e ≡ at + k) × (limited t (size n) ≡ following k (drop k t))
    go true p q = (n, (cc), rw p)
    go false p q = absurd (let z : ◌≡◌ {A = ℕ} 0 1 = cc in omega arith)
closed unclosed t at e q = absurd (let z : ◌≡◌ {A = ℕ} 0 1 = cc in omega arith)

never : (x : Extent) (t : List ℕ) (at : ℕ) → None ≡ close_at at most_field_bytes x → limited t x ≡ broken
never (size n) t at q = go (leb n most_field_bytes) refl q
  where
    go : (b : Bool) → leb n most_field_bytes ≡ b → None ≡ cond b (Some (at + n)) None → limited t (size n) ≡ broken
    go true p q = absurd (let z : ◌≡◌ {A = ℕ} 0 1 = cc in omega arith)
    go false p q = rw p
never unclosed t at q = refl

-- Each way through `field_end`; r is what `field_close` gave.
module _ (s : List ℕ) (at : ℕ) {r : Option ℕ} (q : r ≡ close_at at most_field_bytes (extent (drop at s))) where
  pub find_never : r ≡ None → Broken ≡ found_at at (field (drop at s))
  unfolding field
  find_never p = rw (never (extent (drop at s)) (drop at s) at (sym p ∙ q))

  pub find_at : {x : Found} (e : ℕ) → r ≡ Some e → x ≡ found_at e (following 0 (drop e s)) → x ≡ found_at at (field (drop at s))
  unfolding field
  find_at e p w =
      let k = closed (extent (drop at s)) (drop at s) at e (sym p ∙ q) in
      w ∙ found_from s at k.0 e k.1 ∙ ap (found_at at) (sym k.2)
