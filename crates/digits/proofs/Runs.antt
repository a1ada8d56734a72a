-- The digits at a position of a text, one digit more at a time.
-- Assumes nothing.
use Rattle.std.proofs.Common.{◌≡◌, refl, sym, ap, ◌∙◌, Bool, true, false, cond, List, [], ◌∷◌, ℕ, suc, ◌+◌, ◌-◌, ◌*◌, ◌<◌, ◌≤◌, length, take, drop, max, get_or, leb, Option, Some, None, arith, add-zero, add-one, leb-true, leb-false, le-leb, length-drop, drop_of_length-le, drop-cons}
use mathlib.Core.Bool.{and-eq-true_iff}
use borrow.Author.Tests.{lt-leb}
use Rattle.std.specs.Char.{is_ascii_digit}
use Rattle.digits.specs.Decimal.{digit, digits, decimal}
use Rattle.digits.specs.Run.{digit_count, held, run_at}
use Rattle.digits.specs.declared.DigitRun.{DigitRun}

is_digit : (b : ℕ) → is_ascii_digit b ≡ digit b
is_digit b = refl

-- What stands at i: nothing, a byte that is no digit, a digit.
module _ (s : List ℕ) (i : ℕ) where
  pub none_over : length s ≤ i → digit_count (drop i s) ≡ 0
  unfolding digit_count
  none_over h = rw (drop_of_length-le s h)

  module _ (h : i < length s) {r : Bool} (q : r ≡ is_ascii_digit (get_or s i 0)) where
    pub none_here : r ≡ false → digit_count (drop i s) ≡ 0
    unfolding digit_count
    none_here e = rw (drop-cons s i 0 h, sym (is_digit (get_or s i 0)) ∙ sym q ∙ e)

    pub one_more : r ≡ true → digit_count (drop i s) ≡ suc (digit_count (drop (i + 1) s))
    unfolding digit_count
    one_more e = rw (add-one i, drop-cons s i 0 h, sym (is_digit (get_or s i 0)) ∙ sym q ∙ e)

-- the digits at the start of s lie in it
pub count_within : (s : List ℕ) → digit_count s ≤ length s
unfolding digit_count
count_within [] = omega arith
count_within (b ∷ s) = go (digit b) (count_within s)
  where
    go : (d : Bool) → digit_count s ≤ length s → cond d (suc (digit_count s)) 0 ≤ suc (length s)
    go true h = omega arith
    go false h = omega arith

-- A turn of `digits_end` at i; t is where the digits end.
module _ (s : List ℕ) (i t : ℕ) (q : t ≡ i + digit_count (drop i s)) where
  pub end_here : digit_count (drop i s) ≡ 0 → i ≡ t
  end_here e = sym (q ∙ rw (e, add-zero))

  pub end_on : i < length s → {r : Bool} → r ≡ is_ascii_digit (get_or s i 0) → r ≡ true → t ≡ i + 1 + digit_count (drop (i + 1) s)
  end_on h d e = omega (arith, one_more s i h d e)

-- The scan came to the end of the text, or began there: i is the index after it.
pub end_of_text : (s : List ℕ) (at i : ℕ) → at + digit_count (drop at s) ≡ i + digit_count (drop i s) → length s ≤ i → at ≤ i → {m : ℕ} → m ≡ max at (length s) → m ≡ at + digit_count (drop at s)
end_of_text s at i q h l e = omega (arith, none_over s i h, count_within (drop at s), length-drop at s)

-- more digits make no smaller number
grows : (n : ℕ) (s : List ℕ) → n ≤ decimal n s
unfolding decimal
grows n [] = omega arith
grows n (b ∷ s) = let h : n * 10 + (b - 48) ≤ decimal (n * 10 + (b - 48)) s = grows (n * 10 + (b - 48)) s in omega arith

-- Digits that are gathered in a type, whose greatest number is g.
module _ {A : Type 0} (of : ℕ → A) (g : ℕ) where
  -- the run of digits that goes on at i, after digits that wrote n
  abbrev pub run_after : ℕ → ℕ → List ℕ → DigitRun A
  run_after n i s = record { value = held of g (decimal n (take (digit_count s) s)); end = i + digit_count s }

  -- what holds before each turn of `digit_run`, which started at `at`, with n gathered up to i
  abbrev pub Gathered : List ℕ → ℕ → ℕ → ℕ → Type 0
  Gathered s at n i = (n ≤ g) × (run_at of g at (drop at s) ≡ run_after n i (drop i s))

  -- a digit that the type holds, and one that it does not
  held_within : (m : ℕ) {r : Option A} → r ≡ held of g m → (x : A) → r ≡ Some x → (m ≤ g) × (x ≡ of m)
  held_within m {r} q x e = go (leb m g) refl (sym e ∙ q)
    where
      go : (b : Bool) → leb m g ≡ b → Some x ≡ cond b (Some (of m)) None → (m ≤ g) × (x ≡ of m)
      go true f h = (leb-true m g f, cc)
      go false f h = absurd cc

  held_past : (m : ℕ) {r : Option A} → r ≡ held of g m → r ≡ None → g < m
  held_past m {r} q e = go (leb m g) refl (sym e ∙ q)
    where
      go : (b : Bool) → leb m g ≡ b → None ≡ cond b (Some (of m)) None → g < m
      go true f h = absurd cc
      go false f h = leb-false m g f

  -- LAW: a turn of `digit_run` at i with n gathered.
  module _ (s : List ℕ) (at n i : ℕ) (q : Gathered s at n i) where
    pub run_here : {y : A} → of n ≡ y → digit_count (drop i s) ≡ 0 → record { value = Some y; end = i } ≡ run_at of g at (drop at s)
    unfolding decimal
    run_here z e = sym (q.1 ∙ rw (e, add-zero, le-leb n g q.0, z))

    pub run_over : {y : A} → of n ≡ y → length s ≤ i → at ≤ i → {m : ℕ} → m ≡ max at (length s) → record { value = Some y; end = m } ≡ run_at of g at (drop at s)
    run_over {y} z h l {m} e =
        let k : m ≡ at + digit_count (drop at s) = end_of_text s at i (ap (λ (x : DigitRun A). x.end) q.1) h l e in
        let j : m ≡ i = k ∙ ap (λ (x : DigitRun A). x.end) q.1 ∙ omega (arith, none_over s i h) in
        rw j (run_here z (none_over s i h))

    module _ (h : i < length s) {r : Bool} (d : r ≡ is_ascii_digit (get_or s i 0)) (y : r ≡ true) where
      goes_on : run_after n i (drop i s) ≡ run_after (n * 10 + (get_or s i 0 - 48)) (i + 1) (drop (i + 1) s)
      unfolding decimal
      goes_on =
          let e : i + suc (digit_count (drop (i + 1) s)) ≡ i + 1 + digit_count (drop (i + 1) s) = omega arith in
          rw (one_more s i h d y, e) (rw (drop-cons s i 0 h, ← add-one i))

      module _ {u : Option A} (w : u ≡ held of g (n * 10 + (get_or s i 0 - 48))) where
        pub run_on : (number : A → ℕ) → ((m : ℕ) → number (of m) ≡ m) → (x : A) → u ≡ Some x → Gathered s at (number x) (i + 1)
        run_on number back x e =
            let k = held_within (n * 10 + (get_or s i 0 - 48)) w x e in
            let j : number x ≡ n * 10 + (get_or s i 0 - 48) = ap number k.1 ∙ back (n * 10 + (get_or s i 0 - 48)) in
            rw j (k.0, q.1 ∙ goes_on)

        pub run_past : u ≡ None → {e : ℕ} → e ≡ i + digit_count (drop i s) → record { value = None; end = e } ≡ run_at of g at (drop at s)
        run_past f {e} z =
            let m : ℕ = n * 10 + (get_or s i 0 - 48) in
            let t : List ℕ = take (digit_count (drop (i + 1) s)) (drop (i + 1) s) in
            let v : g < m = held_past m w f in
            let b : leb (decimal m t) g ≡ false = lt-leb (decimal m t) g (omega (arith, grows m t)) in
            let o : i + 1 + digit_count (drop (i + 1) s) ≡ e = omega (arith, one_more s i h d y) in
            sym (q.1 ∙ goes_on ∙ rw (b, o))

-- the digits at the start of s are digits; where they are not all of s, s is not digits
pub count_digits : (s : List ℕ) → digits (take (digit_count s) s) ≡ true
unfolding digit_count digits
count_digits [] = refl
count_digits (b ∷ s) = go (digit b) refl (count_digits s)
  where
    go : (d : Bool) → digit b ≡ d → digits (take (digit_count s) s) ≡ true → digits (take (cond d (suc (digit_count s)) 0) (b ∷ s)) ≡ true
    go true e h = rw (e, h)
    go false e h = refl

pub count_all : (s : List ℕ) → digits s ≡ true → digit_count s ≡ length s
unfolding digit_count digits
count_all [] e = refl
count_all (b ∷ s) e = let h = (and-eq-true_iff (digit b) (digits s)).0 e in rw h.0 (ap suc (count_all s h.1))
