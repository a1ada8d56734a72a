-- What is written for each of consecutive numbers: one more of them, the rest of them, and how long they are. Assumes nothing.
use Rattle.std.proofs.Common.{◌≡◌, sym, ◌∙◌, ap, List, [], ◌++◌, append_assoc, append-nil, ℕ, zero, suc, ◌+◌, ◌-◌, ◌*◌, ◌<◌, ◌≤◌, arith, length, length-append}
use mathlib.Core.List.{flat_map}
use Rattle.mps.specs.Program.{numbers_from}
use Rattle.cards.specs.Cards.{Space, Put}
use Rattle.cards.proofs.Buffer.{space_first, space_second, put_both, put_none}
use Rattle.cards.specs.declared.Cursor.{Cursor}
use Rattle.writer.specs.Pieces.{span}

module _ (f : ℕ → List ℕ) where
  -- the first k numbers from a, and the j after them
  split : (k j a : ℕ) → flat_map f (numbers_from a (k + j)) ≡ flat_map f (numbers_from a k) ++ flat_map f (numbers_from (a + k) j)
  unfolding numbers_from flat_map
  split zero j a = let z : a + 0 ≡ a = omega arith in let y : 0 + j ≡ j = omega arith in rw (z, y)
  split (suc k) j a =
      let z : suc a + k ≡ a + suc k = omega arith in
      let y : suc k + j ≡ suc (k + j) = omega arith in
      rw y (ap (λ (s : List ℕ). f a ++ s) (split k j (suc a) ∙ rw z) ∙ sym (append_assoc (f a) (flat_map f (numbers_from (suc a) k)) (flat_map f (numbers_from (a + suc k) j))))

  pub span_none : (a : ℕ) → span f a a ≡ []
  unfolding span numbers_from flat_map
  span_none a = let z : a - a ≡ 0 = omega arith in rw z

  pub span_split : (a i b : ℕ) → a ≤ i → i ≤ b → span f a b ≡ span f a i ++ span f i b
  unfolding span
  span_split a i b p q =
      let k : b - a ≡ (i - a) + (b - i) = omega arith in
      let z : a + (i - a) ≡ i = omega arith in
      rw (k, split (i - a) (b - i) a, z)

  one : (i : ℕ) → span f i (i + 1) ≡ f i
  unfolding span numbers_from flat_map
  one i = let z : i + 1 - i ≡ 1 = omega arith in rw z (append-nil (f i))

  pub span_next : (a i : ℕ) → a ≤ i → span f a (i + 1) ≡ span f a i ++ f i
  span_next a i p = span_split a i (i + 1) p (omega arith) ∙ ap (λ (s : List ℕ). span f a i ++ s) (one i)

  -- the length, where each has the same
  pub span_length : (c : ℕ) → ((i : ℕ) → length (f i) ≡ c) → (a b : ℕ) → length (span f a b) ≡ c * (b - a)
  unfolding span numbers_from flat_map
  span_length c h a b = go (b - a) a
    where
      go : (k a : ℕ) → length (flat_map f (numbers_from a k)) ≡ c * k
      go zero a = omega arith
      go (suc k) a = rw (length-append (f a) (flat_map f (numbers_from (suc a) k)), h a, go k (suc a)) (omega arith)

  -- and at most so, where each has at most that
  pub span_most : (c a b : ℕ) → ((i : ℕ) → a ≤ i → i < b → length (f i) ≤ c) → length (span f a b) ≤ c * (b - a)
  unfolding span numbers_from flat_map
  span_most c a b h = go (b - a) a (λ i p q. h i p (omega arith))
    where
      go : (k a : ℕ) → ((i : ℕ) → a ≤ i → i < a + k → length (f i) ≤ c) → length (flat_map f (numbers_from a k)) ≤ c * k
      go zero a h = omega arith
      go (suc k) a h = rw (length-append (f a) (flat_map f (numbers_from (suc a) k))) (omega (arith, h a (omega arith) (omega arith), go k (suc a) (λ i p q. h i (omega arith) (omega arith))))

-- what a loop from cursor c has put when it comes to number i, of a to b
pub record Filled (f : ℕ → List ℕ) (a b : ℕ) (c : Cursor) (i : ℕ) (d : Cursor) : Type 0 where
  pub above : a ≤ i
  pub below : i ≤ b
  pub room : Space (span f a b) c
  pub written : Put (span f a i) c d

pub filled_none : (f : ℕ → List ℕ) (a b : ℕ) (c : Cursor) → a ≤ b → Space (span f a b) c → Filled f a b c a c
filled_none f a b c l s = record { above = omega arith; below = l; room = s; written = rw (span_none f a) (put_none c) }

module _ (f : ℕ → List ℕ) (a b : ℕ) (c : Cursor) (i : ℕ) (d : Cursor) (F : Filled f a b c i d) where
  up_to : i < b → Space (span f a i ++ f i) c
  up_to l =
      let s : Space (span f a (i + 1) ++ span f (i + 1) b) c = rw (span_split f a (i + 1) b (omega (arith, F.above)) (omega arith)) at F.room in
      rw (span_next f a i F.above) at (space_first (span f a (i + 1)) (span f (i + 1) b) c s)

  pub filled_space : i < b → Space (f i) d
  filled_space l = space_second (span f a i) (f i) c (up_to l) F.written

  pub filled_next : i < b → {e : Cursor} → Put (f i) d e → Filled f a b c (i + 1) e
  filled_next l p = record {
    above = omega (arith, F.above);
    below = omega arith;
    room = F.room;
    written = rw (span_next f a i F.above) (put_both (span f a i) (f i) c (up_to l) F.written p);
  }

  pub filled_skip : i < b → f i ≡ [] → Filled f a b c (i + 1) d
  filled_skip l q = filled_next l (rw q (put_none d))

  pub filled_all : b ≤ i → Put (span f a b) c d
  filled_all l = let e : i ≡ b = omega (arith, F.below) in rw e at F.written
