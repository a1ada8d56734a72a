-- Words one after the other in a buffer, and the length of a card. Assumes nothing.
use Rattle.std.proofs.Common.{◌≡◌, ℕ, zero, suc, ◌+◌, ◌/◌, ◌%◌, ◌^◌, ◌<◌, ◌≤◌, Bool, true, false, List, [], ◌∷◌, ◌++◌, length, refl, ◌∙◌, arith, length-append, ℤ, pos, negsuc, neg_ℤ, unsigned_abs, int_lt, ltb, Fits, w64, ltb-true}
use Rattle.std.specs.Int.{from_bool}
use Rattle.std.proofs.lemmas.List.Edits.{paste_none, paste-paste, length-paste}
use Rattle.lists.specs.Search.{when◌then◌else◌}
use Rattle.digits.specs.Decimal.{numeral_of, integer_of}
use Rattle.digits.proofs.Numerals.{numeral_one, numeral_more, numeral_short}
use Rattle.cards.specs.declared.Cursor.{Cursor}
use Rattle.cards.specs.Cards.{Space, Put, signed, card, CardLength}

module _ (v w : List ℕ) (c : Cursor) (s : Space (v ++ w) c) where
  pub space_first : Space v c
  space_first = omega (arith, length-append v w)

  pub space_second : {d : Cursor} → Put v c d → Space w d
  space_second p = rw (p.next, p.held, length-paste c.out.now c.at v (length v) (omega (arith, length-append v w)) (omega arith)) (omega (arith, length-append v w))

  pub put_both : {d e : Cursor} → Put v c d → Put w d e → Put (v ++ w) c e
  put_both p q = record {
    same = q.same ∙ p.same;
    next = omega (arith, p.next, q.next, length-append v w);
    held = q.held ∙ rw (p.next, p.held, length-append v w) (paste-paste c.out.now c.at v w (length v) (length w) refl refl (omega arith));
  }

pub put_none : (c : Cursor) → Put [] c c
put_none c = record { same = refl; next = omega arith; held = paste_none c.out.now c.at [] }

-- ---- the digits of a number

pub length_one : (n : ℕ) → n < 10 → 1 ≡ length (numeral_of n)
length_one n h = rw (numeral_one n h)

pub length_more : (n r : ℕ) → 10 ≤ n → r ≡ length (numeral_of (n / 10)) → r + 1 ≡ length (numeral_of n)
length_more n r h e = rw (numeral_more n h, length-append (numeral_of (n / 10)) ((48 + n % 10) ∷ [])) (omega arith)

length_most : (n : ℕ) → n < 2 ^ 64 → length (numeral_of n) ≤ 20
length_most n h = numeral_short 19 n (omega arith)

pub length_fits : (n r k : ℕ) → n < 2 ^ 64 → r ≡ length (numeral_of n) → k ≤ 26 → Fits w64 (r + k)
length_fits n r k f e h = record { fits = omega (arith, length_most n f) }

pub length_sum : (n r b k : ℕ) → n < 2 ^ 64 → r ≡ length (numeral_of n) → b ≤ 1 → k ≤ 25 → Fits w64 (r + b + k)
length_sum n r b k f e l h = record { fits = omega (arith, length_most n f) }

-- ---- its sign

-- the minus of a negative number
abbrev pub minus : Bool → List ℕ
minus true = 45 ∷ []
minus false = []

integer_signed : (b : Bool) (n : ℕ) → (n ≡ 0 → ⊥) → integer_of (signed b n) ≡ minus b ++ numeral_of n
unfolding signed integer_of
integer_signed true zero ne = absurd (ne refl)
integer_signed true (suc n) ne = refl
integer_signed false n ne = refl

pub no_minus : (b : Bool) (c : Cursor) → b ≡ false → Put (minus b) c c
no_minus b c e = rw e (put_none c)

pub some_minus : (b : Bool) (c : Cursor) → b ≡ true → {d : Cursor} → Put (45 ∷ []) c d → Put (minus b) c d
some_minus b c e p = rw e p

module _ (b : Bool) (n : ℕ) (c : Cursor) (ne : n ≡ 0 → ⊥) (s : Space (integer_of (signed b n)) c) where
  in_parts : Space (minus b ++ numeral_of n) c
  in_parts = rw (integer_signed b n ne) at s

  pub space_minus : b ≡ true → Space (45 ∷ []) c
  space_minus e = rw e at (space_first (minus b) (numeral_of n) c in_parts)

  pub space_digits : {d : Cursor} → Put (minus b) c d → Space (numeral_of n) d
  space_digits = space_second (minus b) (numeral_of n) c in_parts

  pub put_digits : {d e : Cursor} → Put (minus b) c d → Put (numeral_of n) d e → Put (integer_of (signed b n)) c e
  put_digits p q = rw (integer_signed b n ne) (put_both (minus b) (numeral_of n) c in_parts p q)

pub signed_zero : (b : Bool) (n : ℕ) → n ≡ 0 → signed b n ≡ pos 0
unfolding signed
signed_zero true n e = rw e
signed_zero false n e = rw e

pub signed_some : (b : Bool) (n : ℕ) → (n ≡ 0 → ⊥) → signed b n ≡ pos 0 → ⊥
unfolding signed
signed_some true zero ne = absurd (ne refl)
signed_some true (suc n) ne = λ e. cc
signed_some false n ne = λ e. ne (cc)

-- an integer is that of its sign and its size
pub signed_back : (x : ℤ) → signed (int_lt x (pos 0)) (unsigned_abs x) ≡ x
unfolding signed
signed_back (pos n) = go (ltb n 0) refl
  where
    go : (b : Bool) → ltb n 0 ≡ b → (when b then neg_ℤ (pos n) else pos n) ≡ pos n
    go true e = let l : n < 0 = ltb-true n 0 e in absurd (omega arith)
    go false e = refl
signed_back (negsuc n) = refl

-- ---- a card

some_card : (h : List ℕ) (x : ℤ) → (x ≡ pos 0 → ⊥) → card h x ≡ h ++ integer_of x ++ 10 ∷ []
unfolding card
some_card h (pos zero) ne = absurd (ne refl)
some_card h (pos (suc n)) ne = refl
some_card h (negsuc n) ne = refl

pub no_card : (h : List ℕ) (x : ℤ) (c : Cursor) → x ≡ pos 0 → Put (card h x) c c
unfolding card
no_card h x c e = rw e (put_none c)

module _ (h : List ℕ) (x : ℤ) (c : Cursor) (ne : x ≡ pos 0 → ⊥) (s : Space (card h x) c) where
  parts : Space (h ++ integer_of x ++ 10 ∷ []) c
  parts = rw (some_card h x ne) at s

  both : Space (h ++ integer_of x) c
  both = space_first (h ++ integer_of x) (10 ∷ []) c parts

  pub space_head : Space h c
  space_head = space_first h (integer_of x) c both

  pub space_integer : {d : Cursor} → Put h c d → Space (integer_of x) d
  space_integer = space_second h (integer_of x) c both

  pub space_end : {d e : Cursor} → Put h c d → Put (integer_of x) d e → Space (10 ∷ []) e
  space_end p q = space_second (h ++ integer_of x) (10 ∷ []) c parts (put_both h (integer_of x) c both p q)

  pub put_card : {d e f : Cursor} → Put h c d → Put (integer_of x) d e → Put (10 ∷ []) e f → Put (card h x) c f
  put_card p q o = rw (some_card h x ne) (put_both (h ++ integer_of x) (10 ∷ []) c parts (put_both h (integer_of x) c both p q) o)

-- ---- its length

pub length_none : (x : ℤ) → x ≡ pos 0 → CardLength x 0
unfolding card
length_none x e = rw e (record { exact = λ h l. refl; most = omega arith })

pub minus_most : (b : Bool) → from_bool b ≤ 1
minus_most true = omega arith
minus_most false = omega arith

length_minus : (b : Bool) → from_bool b ≡ length (minus b)
length_minus true = refl
length_minus false = refl

pub length_card : (b : Bool) (n r k : ℕ) → (n ≡ 0 → ⊥) → n < 2 ^ 64 → r ≡ length (numeral_of n) → k ≡ from_bool b → CardLength (signed b n) (r + k + 25)
length_card b n r k ne f e o = record { exact = exact; most = omega (arith, length_most n f, minus_most b) }
  where
    exact : (h : List ℕ) → length h ≡ 24 → r + k + 25 ≡ length (card h (signed b n))
    exact h l =
        rw (some_card h (signed b n) (signed_some b n ne), integer_signed b n ne, length-append (h ++ (minus b ++ numeral_of n)) (10 ∷ []), length-append h (minus b ++ numeral_of n), length-append (minus b) (numeral_of n))
        (omega (arith, length_minus b))
