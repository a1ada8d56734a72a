-- Products of integers spread over sums, and sums over lists: their terms compared, scaled and swapped. Assumes nothing.
use mathlib.Core.Path.{◌≡◌, refl, sym, ◌∙◌, ap, ap₂, fun_ext}
use mathlib.Core.Bool.{Bool, true, false}
use mathlib.Core.List.{List, [], ◌∷◌, ◌++◌, map}
use Prim.Native.Nat.{ℕ, zero, suc, ◌+◌, ◌*◌, ◌<◌, ◌≤◌}
use native.Mathlib.Decide.{ℕ_discrete}
use native.Mathlib.Nat.{mul-le-mul_left}
use native.Mathlib.Omega.{arith}
use lib.IntN.{ℤ, pos, negsuc, neg_ℤ, ◌+ℤ◌, ◌*ℤ◌, +ℤ_idl, +ℤ_idr, +ℤ_assoc, zero-*ℤ, *ℤ-zero, neg_ℤ-+ℤ, neg_ℤ-neg_ℤ}
use lib.Signed.{◌≤ℤ◌}
use Rattle.lists.specs.Search.{when◌then◌else◌}
use Rattle.integers.specs.Parts.{up, dn}
use Rattle.integers.proofs.Laws.{ints, sum, times}
use Rattle.integers.proofs.Direction.{at_most, add}
use Rattle.mps.specs.Program.{numbers_from, keep}
use Rattle.mps.proofs.Sections.{All}

-- ---- products

negative : (k : ℕ) (z : ℤ) → negsuc k *ℤ z ≡ neg_ℤ (pos (suc k) *ℤ z)
negative k (pos n) = refl
negative k (negsuc n) = sym (neg_ℤ-neg_ℤ (pos (suc k * suc n)))

spread_pos : (k : ℕ) (a b : ℤ) → pos k *ℤ (a +ℤ b) ≡ pos k *ℤ a +ℤ pos k *ℤ b
spread_pos k a b = omega (ints, times k (a +ℤ b), times k a, times k b, sum (pos k *ℤ a) (pos k *ℤ b), scaled)
  where
    scaled : k * (up (a +ℤ b) + (dn a + dn b)) ≡ k * (up a + up b + dn (a +ℤ b))
    scaled = ap (λ (x : ℕ). k * x) (sum a b).whole

pub spread : (c a b : ℤ) → c *ℤ (a +ℤ b) ≡ c *ℤ a +ℤ c *ℤ b
spread (pos k) a b = spread_pos k a b
spread (negsuc k) a b =
    negative k (a +ℤ b) ∙ ap neg_ℤ (spread_pos (suc k) a b) ∙ neg_ℤ-+ℤ (pos (suc k) *ℤ a) (pos (suc k) *ℤ b) ∙ ap₂ ◌+ℤ◌ (sym (negative k a)) (sym (negative k b))

once_more : (k : ℕ) (z : ℤ) → pos (suc k) *ℤ z ≡ z +ℤ pos k *ℤ z
once_more k z = omega (ints, times (suc k) z, times k z, sum z (pos k *ℤ z))

-- a natural factor goes to the other place
pub reorder : (k : ℕ) (a z : ℤ) → pos k *ℤ (a *ℤ z) ≡ a *ℤ (pos k *ℤ z)
reorder zero a z = zero-*ℤ (a *ℤ z) ∙ sym (*ℤ-zero a) ∙ ap (λ (x : ℤ). a *ℤ x) (sym (zero-*ℤ z))
reorder (suc k) a z =
    once_more k (a *ℤ z) ∙ ap (λ (x : ℤ). a *ℤ z +ℤ x) (reorder k a z) ∙ sym (spread a z (pos k *ℤ z)) ∙ ap (λ (x : ℤ). a *ℤ x) (sym (once_more k z))

pub times_le : (k : ℕ) (a b : ℤ) → a ≤ℤ b → (pos k *ℤ a) ≤ℤ (pos k *ℤ b)
times_le k a b h = omega (ints, times k a, times k b, mul-le-mul_left k less)
  where
    less : up a + dn b ≤ up b + dn a
    less = omega ints

-- ---- sums

unfoldable pub total : {A : Type 0} → (A → ℤ) → List A → ℤ
total f [] = pos 0
total f (x ∷ xs) = f x +ℤ total f xs

module _ {A : Type 0} where
  pub total_append : (f : A → ℤ) (xs ys : List A) → total f (xs ++ ys) ≡ total f xs +ℤ total f ys
  unfolding total
  total_append f [] ys = sym (+ℤ_idl (total f ys))
  total_append f (x ∷ xs) ys = ap (λ (z : ℤ). f x +ℤ z) (total_append f xs ys) ∙ sym (+ℤ_assoc (f x) (total f xs) (total f ys))

  pub total_plus : (f g : A → ℤ) (xs : List A) → total (λ x. f x +ℤ g x) xs ≡ total f xs +ℤ total g xs
  unfolding total
  total_plus f g [] = refl
  total_plus f g (x ∷ xs) = ap (λ (z : ℤ). f x +ℤ g x +ℤ z) (total_plus f g xs) ∙ four (f x) (g x) (total f xs) (total g xs)
    where
      four : (a b c d : ℤ) → a +ℤ b +ℤ (c +ℤ d) ≡ a +ℤ c +ℤ (b +ℤ d)
      four a b c d = omega (ints, sum a b, sum c d, sum (a +ℤ b) (c +ℤ d), sum a c, sum b d, sum (a +ℤ c) (b +ℤ d))

  pub total_times : (c : ℤ) (f : A → ℤ) (xs : List A) → total (λ x. c *ℤ f x) xs ≡ c *ℤ total f xs
  unfolding total
  total_times c f [] = sym (*ℤ-zero c)
  total_times c f (x ∷ xs) = ap (λ (z : ℤ). c *ℤ f x +ℤ z) (total_times c f xs) ∙ sym (spread c (f x) (total f xs))

  pub total_zero : (f : A → ℤ) → ((x : A) → f x ≡ pos 0) → (xs : List A) → total f xs ≡ pos 0
  unfolding total
  total_zero f h [] = refl
  total_zero f h (x ∷ xs) = ap₂ ◌+ℤ◌ (h x) (total_zero f h xs)

  -- term by term, where P holds of each element
  pub total_same : (P : A → Type 0) (f g : A → ℤ) → ((x : A) → P x → f x ≡ g x) → (xs : List A) → All P xs → total f xs ≡ total g xs
  unfolding total
  total_same P f g h [] a = refl
  total_same P f g h (x ∷ xs) a = ap₂ ◌+ℤ◌ (h x a.0) (total_same P f g h xs a.1)

  pub total_le : (P : A → Type 0) (f g : A → ℤ) → ((x : A) → P x → f x ≤ℤ g x) → (xs : List A) → All P xs → total f xs ≤ℤ total g xs
  unfolding total
  total_le P f g h [] a = omega ints
  total_le P f g h (x ∷ xs) a = add ◌≤ℤ◌ at_most (f x) (g x) (total f xs) (total g xs) (h x a.0) (total_le P f g h xs a.1)

  -- a sum over what passes a test
  pub total_keep : (f : A → ℤ) (p : A → Bool) (xs : List A) → total f (keep p xs) ≡ total (λ x. when p x then f x else pos 0) xs
  unfolding total keep
  total_keep f p [] = refl
  total_keep f p (x ∷ xs) = go (p x) (total_keep f p xs)
    where
      go : (b : Bool) → total f (keep p xs) ≡ total (λ x. when p x then f x else pos 0) xs
          → total f (when b then x ∷ keep p xs else keep p xs) ≡ (when b then f x else pos 0) +ℤ total (λ x. when p x then f x else pos 0) xs
      go true e = ap (λ (z : ℤ). f x +ℤ z) e
      go false e = e ∙ sym (+ℤ_idl (total (λ x. when p x then f x else pos 0) xs))

pub total_map : {A B : Type 0} (f : B → ℤ) (g : A → B) (xs : List A) → total f (map g xs) ≡ total (λ x. f (g x)) xs
unfolding total
total_map f g [] = refl
total_map f g (x ∷ xs) = ap (λ (z : ℤ). f (g x) +ℤ z) (total_map f g xs)

-- The double sum of k x × d y × f x y, by x first or by y first.
pub total_swap : {A B : Type 0} (k : A → ℕ) (d : B → ℤ) (f : A → B → ℤ) (xs : List A) (ys : List B)
    → total (λ x. pos (k x) *ℤ total (λ y. d y *ℤ f x y) ys) xs ≡ total (λ y. d y *ℤ total (λ x. pos (k x) *ℤ f x y) xs) ys
unfolding total
total_swap k d f [] ys = sym (total_zero (λ y. d y *ℤ pos 0) (λ y. *ℤ-zero (d y)) ys)
total_swap {B = B} k d f (x ∷ xs) ys =
    ap₂ ◌+ℤ◌ (sym (total_times (pos (k x)) (λ y. d y *ℤ f x y) ys) ∙ ap (λ (g : B → ℤ). total g ys) (fun_ext (λ y. reorder (k x) (d y) (f x y)))) (total_swap k d f xs ys)
    ∙ sym (total_plus (λ y. d y *ℤ (pos (k x) *ℤ f x y)) (λ y. d y *ℤ total (λ x. pos (k x) *ℤ f x y) xs) ys)
    ∙ ap (λ (g : B → ℤ). total g ys) (fun_ext (λ y. sym (spread (d y) (pos (k x) *ℤ f x y) (total (λ x. pos (k x) *ℤ f x y) xs))))

-- ---- sums over consecutive numbers

pub total_none : (f : ℕ → ℤ) (k a : ℕ) → ((i : ℕ) → a ≤ i → i < a + k → f i ≡ pos 0) → total f (numbers_from a k) ≡ pos 0
unfolding total numbers_from
total_none f zero a z = refl
total_none f (suc k) a z = ap₂ ◌+ℤ◌ (z a (omega arith) (omega arith)) (total_none f k (suc a) (λ i p q. z i (omega arith) (omega arith)))

-- all terms but one are 0
pub total_only : (f : ℕ → ℤ) (b k a : ℕ) → a ≤ b → b < a + k → ((i : ℕ) → a ≤ i → i < a + k → (i ≡ b → ⊥) → f i ≡ pos 0) → total f (numbers_from a k) ≡ f b
unfolding total numbers_from
total_only f b zero a p q z = absurd (omega arith)
total_only f b (suc k) a p q z = go (ℕ_discrete a b) (λ l. total_only f b k (suc a) l (omega arith) (λ i c d. z i (omega arith) (omega arith)))
  where
    go : Dec (a ≡ b) → (suc a ≤ b → total f (numbers_from (suc a) k) ≡ f b) → f a +ℤ total f (numbers_from (suc a) k) ≡ f b
    go (yes e) rest = ap₂ ◌+ℤ◌ (ap f e) (total_none f k (suc a) (λ i c d. z i (omega arith) (omega arith) (λ y. omega arith))) ∙ +ℤ_idr (f b)
    go (no ne) rest = ap₂ ◌+ℤ◌ (z a (omega arith) (omega arith) ne) (rest (omega arith)) ∙ +ℤ_idl (f b)

-- those of one number that passes a test, and no other does
pub total_one : (f : ℕ → ℤ) (p : ℕ → Bool) (b k a : ℕ) → a ≤ b → b < a + k → p b ≡ true → ((i : ℕ) → (i ≡ b → ⊥) → p i ≡ false)
    → total (λ i. when p i then f i else pos 0) (numbers_from a k) ≡ f b
total_one f p b k a l h here others = total_only (λ i. when p i then f i else pos 0) b k a l h (λ i c d ne. rw (others i ne)) ∙ rw here
