-- Names that are different: lists that have them, and what the tests of a reader say of those. Assumes nothing.
use mathlib.Core.Path.{◌≡◌, refl, sym, ◌∙◌}
use mathlib.Core.Logic.{inl, inr}
use mathlib.Core.Bool.{Bool, true, false, cond, true≢false}
use mathlib.Core.List.{List, [], ◌∷◌, ◌++◌, map}
use Prim.Native.Nat.{ℕ, zero, suc, ◌+◌, ◌<◌}
use native.Mathlib.Omega.{arith}
use Rattle.lists.proofs.Bytes.{same_refl}
use Rattle.lists.specs.Bytes.{same}
use Rattle.lists.proofs.Tests.{both, or_left, or_right}
use Rattle.mps.specs.Program.{numbers_from, keep}
use Rattle.mps.specs.Mps.{Bytes, is_empty, all, among, distinct}
use Rattle.mps.specs.Claim.{Among}
use Rattle.mps.proofs.Sections.{All, all_append, all_weaken, map_all, keep_all, numbers_all}

module _ {A : Type 0} (f : A → Bytes) where
  -- the names f x of a list are different from s
  abbrev pub Other : Bytes → List A → Type 0
  Other s = All (λ y. same s (f y) ≡ false)

  -- the names of a list are different, and none is empty
  abbrev pub Apart : List A → Type 0
  Apart [] = Unit {0}
  Apart (x ∷ xs) = (is_empty (f x) ≡ false) × Other (f x) xs × Apart xs

  other_among : (s : Bytes) (xs : List A) → Other s xs → among s (map f xs) ≡ false
  unfolding among
  other_among s [] a = refl
  other_among s (x ∷ xs) a = rw (a.0, other_among s xs a.1)

  pub apart_distinct : (xs : List A) → Apart xs → distinct (map f xs) ≡ true
  unfolding distinct
  apart_distinct [] a = refl
  apart_distinct (x ∷ xs) a = rw (a.0, other_among (f x) xs a.1, apart_distinct xs a.2)

  pub in_among : (x : A) (xs : List A) → Among x xs → among (f x) (map f xs) ≡ true
  unfolding among
  in_among x [] h = absurd h
  in_among x (y ∷ ys) (inl e) = rw e (or_left (among (f x) (map f ys)) (same_refl (f x)))
  in_among x (y ∷ ys) (inr h) = or_right (same (f x) (f y)) (in_among x ys h)

  -- so elements of one name are one
  pub apart_same : (xs : List A) → Apart xs → (x y : A) → Among x xs → Among y xs → f x ≡ f y → x ≡ y
  apart_same [] a x y p q e = absurd p
  apart_same (z ∷ zs) a x y (inl p) (inl q) e = sym p ∙ q
  apart_same (z ∷ zs) a x y (inl p) (inr q) e = absurd (true≢false (sym (in_among y zs q) ∙ rw (← e, ← p) (other_among (f z) zs a.1)))
  apart_same (z ∷ zs) a x y (inr p) (inl q) e = absurd (true≢false (sym (in_among x zs p) ∙ rw (e, ← q) (other_among (f z) zs a.1)))
  apart_same (z ∷ zs) a x y (inr p) (inr q) e = apart_same zs a.2 x y p q e

  pub apart_append : (xs ys : List A) → Apart xs → Apart ys → All (λ x. Other (f x) ys) xs → Apart (xs ++ ys)
  apart_append [] ys a b c = b
  apart_append (x ∷ xs) ys a b c = (a.0, all_append (λ y. same (f x) (f y) ≡ false) xs ys a.1 c.0, apart_append xs ys a.2 b c.1)

  pub apart_keep : (p : A → Bool) (xs : List A) → Apart xs → Apart (keep p xs)
  unfolding keep
  apart_keep p [] a = tt
  apart_keep p (x ∷ xs) a = go (p x) (apart_keep p xs a.2)
    where
      go : (b : Bool) → Apart (keep p xs) → Apart (cond b (x ∷ keep p xs) (keep p xs))
      go true rest = (a.0, keep_all (λ y. same (f x) (f y) ≡ false) p xs (all_weaken (λ y. p y ≡ true → same (f x) (f y) ≡ false) (λ y. same (f x) (f y) ≡ false) (λ y h e. h) xs a.1), rest)
      go false rest = rest

pub apart_map : {A B : Type 0} (f : B → Bytes) (g : A → B) (xs : List A) → Apart (λ x. f (g x)) xs → Apart f (map g xs)
apart_map f g [] a = tt
apart_map f g (x ∷ xs) a = (a.0, map_all (λ y. same (f (g x)) (f y) ≡ false) g xs a.1, apart_map f g xs a.2)

pub apart_numbers : (f : ℕ → Bytes) (k a : ℕ) → ((i : ℕ) → is_empty (f i) ≡ false) → ((i j : ℕ) → i < j → j < a + k → same (f i) (f j) ≡ false) → Apart f (numbers_from a k)
unfolding numbers_from
apart_numbers f zero a filled h = tt
apart_numbers f (suc k) a filled h =
    (filled a, numbers_all (λ j. same (f a) (f j) ≡ false) k (suc a) (λ j c l. h a j c (omega arith)), apart_numbers f k (suc a) filled (λ i j c l. h i j c (omega arith)))

-- each element is among the list
pub each_among : {A : Type 0} (xs ys : List A) → ((x : A) → Among x ys → Among x xs) → All (λ x. Among x xs) ys
each_among xs [] h = tt
each_among xs (y ∷ ys) h = (h y (inl refl), each_among xs ys (λ x p. h x (inr p)))

-- a test that all pass
pub all_true : {A : Type 0} (p : A → Bool) (xs : List A) → All (λ x. p x ≡ true) xs → all p xs ≡ true
unfolding all
all_true p [] a = refl
all_true p (x ∷ xs) a = both a.0 (all_true p xs a.1)
