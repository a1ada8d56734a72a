-- The digits of a vector's change, and codes. Assumes nothing.
use Rattle.std.proofs.Common.{◌≡◌, refl, sym, ap, ◌∙◌, Bool, true, false, cond, ◌&&◌, ◌||◌, true≢false, List, [], ◌∷◌, ℕ, suc, ◌+◌, ◌-◌, ◌*◌, ◌<◌, ◌≤◌, min, max, Option, Some, None, length, take, drop, get_or, eqb, leb, ltb, arith, eq-eqb, ne_eqb, leb-true, leb-false, lt-ltb, ltb-true, ltb-false}
use Rattle.std.proofs.Math.Option.{none, some}
use Rattle.std.proofs.Math.Bool.{and-false}
use Rattle.std.proofs.lemmas.Option.{none-some}
use borrow.Author.Tests.{eqb-false, lt-leb}
use Rattle.lists.specs.Bytes.{bytes, same}
use Rattle.vcd.specs.Words.{parting, size, word_of, is}
use Rattle.vcd.specs.Syntax.{all, one_or_more, is_graphic, is_state, is_bit, is_code, binary, value_of}
use Rattle.vcd.proofs.Words.{word_byte, word_length}
use Rattle.words.specs.Places.{Along, word_in}
use Rattle.words.proofs.Runs.{next_byte, dark, along_here, along_on, none_over, none_parting, graphic_plain, state_plain, WordPasses, in_none, in_some}
use Rattle.commands.specs.Reads.{offered, kept, fitted, value_from, BitsRead, after_word, states_at, bits_by, digits_at, code_at}
use Rattle.commands.specs.declared.Bits.{Bits}
use Rattle.commands.specs.declared.Digits.{Digits}
use Rattle.commands.specs.declared.Code.{Code}

-- ---- bits

is_bit_lem : (b : ℕ) → 48 ≤ b → b ≤ 49 → is_bit b ≡ true
is_bit_lem b l h = go (eqb b 48) refl
  where
    go : (t : Bool) → eqb b 48 ≡ t → is_bit b ≡ true
    go true e = rw e
    go false e = let n : b ≡ 48 → ⊥ = eqb-false b 48 e in rw (e, eq-eqb b 49 (other n))
      where
        other : (b ≡ 48 → ⊥) → b ≡ 49
        other n = omega arith

no_bit : (b : ℕ) → (b ≡ 48 → ⊥) → (b ≡ 49 → ⊥) → is_bit b ≡ false
no_bit b p q = rw (ne_eqb b 48 p, ne_eqb b 49 q)

bit_dark : (b : ℕ) → is_bit b ≡ true → parting b ≡ false
bit_dark b e = go (leb 33 b) refl
  where
    go : (t : Bool) → leb 33 b ≡ t → parting b ≡ false
    go true q = dark b (leb-true 33 b q)
    go false q = let h : b < 33 = leb-false 33 b q in absurd (true≢false (sym e ∙ no_bit b (λ z. omega arith) (λ z. omega arith)))

grows : (n : ℕ) (w : List ℕ) → n ≤ binary n w
unfolding binary
grows n [] = omega arith
grows n (b ∷ w) = let h = grows (n * 2 + (b - 48)) w in omega (arith, h)

beyond : (n : ℕ) (w : List ℕ) → 65534 < n → value_from n w ≡ 65535
beyond n w h = rw (lt-leb (binary n w) 65534 (omega (arith, grows n w)), and-false (all is_bit w))

value_cap : (m : ℕ) (w : List ℕ) → value_from (min m 65535) w ≡ value_from m w
value_cap m w = go (ltb 65535 m) refl
  where
    go : (t : Bool) → ltb 65535 m ≡ t → value_from (min m 65535) w ≡ value_from m w
    go true e = let h = ltb-true 65535 m e in let z : min m 65535 ≡ 65535 = omega arith in rw z (beyond 65535 w (omega arith) ∙ sym (beyond m w (omega (arith, h))))
    go false e = let h = ltb-false 65535 m e in let z : min m 65535 ≡ m = omega arith in rw z

-- the bits of a word, at the turn i, whose number so far is n
pub record BitsSoFar (s : List ℕ) (at i n : ℕ) : Type 0 where
  pub along : Along is_bit s at i
  pub within : i ≤ max (length s) at
  pub small : n ≤ 65535
  pub value : value_from 0 (word_of (drop at s)) ≡ value_from n (word_of (drop i s))

module _ (s : List ℕ) (at : ℕ) where
  pub bits_start : BitsSoFar s at at 0
  bits_start = record { along = along_here is_bit bit_dark s at; within = omega arith; small = omega arith; value = refl }

  module _ (i n : ℕ) (b : BitsSoFar s at i n) where
    ended : (i < length s → is_bit (get_or s i 0) ≡ false) → BitsRead s at (record { value = n; to = i })
    ended h = record { along = b.along; ends = h; small = b.small; value = b.value }

    pub bits_low : get_or s i 0 < 48 → BitsRead s at (record { value = n; to = i })
    bits_low h = ended (λ l. no_bit (get_or s i 0) (λ z. omega arith) (λ z. omega arith))

    pub bits_high : 49 < get_or s i 0 → BitsRead s at (record { value = n; to = i })
    bits_high h = ended (λ l. no_bit (get_or s i 0) (λ z. omega arith) (λ z. omega arith))

    pub bits_over : {to : ℕ} → length s ≤ i → to ≡ max (length s) at → BitsRead s at (record { value = n; to = to })
    bits_over {to} h e = let z : to ≡ i = omega (arith, e, b.within, b.along.low) in rw z (ended (λ l. absurd (omega arith)))

    pub bits_on : {x y m : ℕ} → i < length s → 48 ≤ get_or s i 0 → get_or s i 0 ≤ 49 → x ≡ n → y ≡ get_or s i 0 - 48 → m ≡ min (x * 2 + y) 65535 → BitsSoFar s at (i + 1) m
    unfolding all binary
    bits_on {x} {y} {m} h p q f g e =
        let t : is_bit (get_or s i 0) ≡ true = is_bit_lem (get_or s i 0) p q in
        let w : word_of (drop i s) ≡ get_or s i 0 ∷ word_of (drop (i + 1) s) = ap word_of (next_byte s i h) ∙ word_byte (get_or s i 0) (drop (i + 1) s) (bit_dark (get_or s i 0) t) in
        let z : m ≡ min (n * 2 + (get_or s i 0 - 48)) 65535 = e ∙ rw (f, g) in
        record {
          along = along_on is_bit bit_dark s at b.along h t;
          within = omega arith;
          small = omega (arith, z);
          value = b.value ∙ rw (w, t) (sym (rw z (value_cap (n * 2 + (get_or s i 0 - 48)) (word_of (drop (i + 1) s)))));
        }

-- ---- digits

module _ (s : List ℕ) (at : ℕ) {r : Option ℕ} (q : r ≡ word_in is_state s at) where
  pub states_bad : r ≡ None → None ≡ states_at s at
  unfolding states_at
  states_bad e = rw (in_none is_state state_plain s at q e)

  pub states_good : (to : ℕ) → r ≡ Some to → Some (record { value = None; to = to }) ≡ states_at s at
  unfolding states_at
  states_good to e = let h = in_some is_state state_plain s at to q e in rw (h.passes, h.ends)

bits_states : (w : List ℕ) → all is_bit w ≡ true → all is_state w ≡ true
unfolding all
bits_states [] e = refl
bits_states (b ∷ w) e = go (eqb b 48) (eqb b 49) refl refl (bits_states w) e
  where
    go : (x y : Bool) → eqb b 48 ≡ x → eqb b 49 ≡ y → (all is_bit w ≡ true → all is_state w ≡ true) → ((x || y) && all is_bit w) ≡ true → all is_state (b ∷ w) ≡ true
    go true y p q ih e = rw p (ih e)
    go false true p q ih e = rw (p, q) (ih e)
    go false false p q ih e = absurd (true≢false (sym e))

fitted_value : (w : List ℕ) → fitted (value_from 0 w) ≡ kept (value_of w)
unfolding value_of
fitted_value w = go (leb (binary 0 w) 65534) refl (all is_bit w)
  where
    go : (t : Bool) → leb (binary 0 w) 65534 ≡ t → (u : Bool) → fitted (cond (u && t) (binary 0 w) 65535) ≡ kept (cond (u && t) (some (binary 0 w)) none)
    go true e true = rw (lt-ltb (binary 0 w) 65535 (omega (arith, leb-true (binary 0 w) 65534 e)))
    go true e false = refl
    go false e true = refl
    go false e false = refl

pub offered_value : (w : List ℕ) → offered (kept (value_of w)) ≡ value_of w
unfolding value_of
offered_value w = go (all is_bit w && leb (binary 0 w) 65534)
  where
    go : (t : Bool) → offered (kept (cond t (some (binary 0 w)) none)) ≡ cond t (some (binary 0 w)) none
    go true = refl
    go false = refl

all_none : (s : List ℕ) (p : ℕ → Bool) → size s ≡ 0 → all p (word_of s) ≡ true
unfolding all
all_none s p e = rw e

value_none : (n : ℕ) (s : List ℕ) → n ≤ 65535 → size s ≡ 0 → value_from n (word_of s) ≡ n
unfolding all binary
value_none n s l e = rw e (go (leb n 65534) refl)
  where
    go : (t : Bool) → leb n 65534 ≡ t → cond t n 65535 ≡ n
    go true q = refl
    go false q = omega (arith, leb-false n 65534 q)

module _ (s : List ℕ) (at : ℕ) {r : Bits} (b : BitsRead s at r) where
  -- the word is all bits
  whole : size (drop r.to s) ≡ 0 → {x : Option Digits} → x ≡ bits_by at r → x ≡ digits_at s at
  unfolding digits_at one_or_more
  whole z {x} e = go (word_of (drop at s)) refl
    where
      l : length (word_of (drop at s)) ≡ size (drop at s)
      l = word_length (drop at s)

      sizes : at + size (drop at s) ≡ r.to
      sizes = b.along.sizes ∙ omega arith

      go : (w : List ℕ) → word_of (drop at s) ≡ w → x ≡ digits_at s at
      go [] f = let n : length (word_of (drop at s)) ≡ 0 = ap length f in e ∙ rw (eq-eqb r.to at (omega (arith, n, l, sizes)), f)
      go (c ∷ w) f =
          let n : length (word_of (drop at s)) ≡ suc (length w) = ap length f in
          let t : all is_state (c ∷ w) ≡ true = bits_states (c ∷ w) (ap (all is_bit) (sym f) ∙ b.along.alike ∙ all_none (drop r.to s) is_bit z) in
          let v : fitted r.value ≡ kept (value_of (c ∷ w)) = ap fitted (sym (b.value ∙ value_none r.value (drop r.to s) b.small z)) ∙ ap (λ (u : List ℕ). fitted (value_from 0 u)) f ∙ fitted_value (c ∷ w) in
          e ∙ rw (ne_eqb r.to at (λ q. omega (arith, n, l, sizes)), f, t, v, sizes)

  pub digits_over : {x : Option Digits} → length s ≤ r.to → x ≡ bits_by at r → x ≡ digits_at s at
  digits_over h e = whole (none_over s r.to h) e

  pub digits_bits : {f : Bool} {x : Option Digits} → r.to < length s → f ≡ parting (get_or s r.to 0) → f ≡ true → x ≡ bits_by at r → x ≡ digits_at s at
  digits_bits h p q e = whole (none_parting s r.to h (sym p ∙ q)) e

  -- a byte of it is no bit
  pub digits_states : {f : Bool} {x : Option Digits} → r.to < length s → f ≡ parting (get_or s r.to 0) → f ≡ false → x ≡ states_at s at → x ≡ digits_at s at
  unfolding digits_at states_at value_of all
  digits_states h p q e =
      let t : all is_bit (word_of (drop at s)) ≡ false = b.along.alike ∙ rw (next_byte s r.to h, word_byte (get_or s r.to 0) (drop (r.to + 1) s) (sym p ∙ q), b.ends h) in
      e ∙ rw t

-- ---- codes

module _ (named s : List ℕ) (at : ℕ) {r : Option ℕ} (q : r ≡ word_in is_graphic s at) where
  pub code_none : r ≡ None → None ≡ code_at named s at
  unfolding code_at is_code
  code_none e = rw (in_none is_graphic graphic_plain s at q e) (go (is (word_of (drop at s)) "$end"))
    where
      go : (t : Bool) → ◌≡◌ {A = Option Code} None (cond (cond t false false) (Some (record { to = after_word s at; named = same (word_of (drop at s)) named })) None)
      go true = refl
      go false = refl

  module _ (to : ℕ) (n : r ≡ Some to) where
    graphic : WordPasses is_graphic s at to
    graphic = in_some is_graphic graphic_plain s at to q n

    pub code_starts : at ≤ to
    code_starts = omega (arith, graphic.moves)

    pub code_ends : to ≤ length s
    code_ends = graphic.within

    part : take (to - at) (drop at s) ≡ word_of (drop at s)
    part = let z : to - at ≡ size (drop at s) = omega (arith, graphic.ends) in rw z

    pub code_end : {f : Bool} → f ≡ same (take (to - at) (drop at s)) (bytes "$end") → f ≡ true → None ≡ code_at named s at
    unfolding code_at is_code
    code_end p e = rw (← part, sym p ∙ e)

    pub code_is : {f g : Bool} → f ≡ same (take (to - at) (drop at s)) (bytes "$end") → f ≡ false → g ≡ same (take (to - at) (drop at s)) named → Some (record { to = to; named = g }) ≡ code_at named s at
    unfolding code_at is_code
    code_is {f} {g} p e o =
        let z : g ≡ same (word_of (drop at s)) named = o ∙ ap (λ (w : List ℕ). same w named) part in
        rw (ap (λ (w : List ℕ). same w (bytes "$end")) (sym part) ∙ sym p ∙ e, graphic.passes, z, graphic.ends)

-- what a code's answer tells of its word
pub record Coded (named s : List ℕ) (at : ℕ) (c : Code) : Type 0 where
  pub is_code_lem : is_code (word_of (drop at s)) ≡ true
  pub is_named : same (word_of (drop at s)) named ≡ c.named
  pub after : c.to ≡ after_word s at

module _ (named s : List ℕ) (at : ℕ) {r : Option Code} (q : r ≡ code_at named s at) where
  pub not_coded : r ≡ None → is_code (word_of (drop at s)) ≡ false
  unfolding code_at
  not_coded e = go (is_code (word_of (drop at s))) (sym e ∙ q)
    where
      go : (t : Bool) → ◌≡◌ {A = Option Code} None (cond t (Some (record { to = after_word s at; named = same (word_of (drop at s)) named })) None) → t ≡ false
      go true f = absurd (none-some _ f)
      go false f = refl

  pub coded : (c : Code) → r ≡ Some c → Coded named s at c
  unfolding code_at
  coded c e = go (is_code (word_of (drop at s))) refl (sym e ∙ q)
    where
      go : (t : Bool) → is_code (word_of (drop at s)) ≡ t → Some c ≡ cond t (Some (record { to = after_word s at; named = same (word_of (drop at s)) named })) None → Coded named s at c
      go true f g = let z : c ≡ record { to = after_word s at; named = same (word_of (drop at s)) named } = cc in rw z (record { is_code_lem = f; is_named = refl; after = refl })
      go false f g = absurd (none-some _ (sym g))
