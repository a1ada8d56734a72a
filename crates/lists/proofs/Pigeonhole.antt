-- Of n + 1 numbers below n two are equal. So n different numbers below n are all of them, and fewer than n leave one out. Assumes nothing.
use mathlib.Core.Path.{◌≡◌, refl, sym, ◌∙◌, ap}
use mathlib.Core.Bool.{Bool, true, false, not}
use Prim.Native.Nat.{ℕ, zero, suc, ◌≤◌, ◌<◌}
use native.Mathlib.Decide.{ℕ_discrete}
use native.Mathlib.Omega.{arith}
use lib.Dec.{eqb}
use borrow.Author.Tests.{eqb-true, eqb-false, eq-eqb, ne_eqb, not-true, not-false}
use Rattle.lists.specs.Search.{when◌then◌else◌, any_below}
use Rattle.lists.proofs.Search.{none_of, some_at}

-- two places up to n with the same number
abbrev pub Twice : (ℕ → ℕ) → ℕ → Type 0
Twice f n = (i : ℕ) × (j : ℕ) × (i < j) × (j ≤ n) × (f i ≡ f j)

pub pigeonhole : (n : ℕ) (f : ℕ → ℕ) → ((i : ℕ) → i ≤ n → f i < n) → Twice f n
pigeonhole zero f low = absurd (omega (arith, low 0 (omega arith)))
pigeonhole (suc n) f low = go (any_below (suc n) (λ i. eqb (f i) (f (suc n)))) refl (pigeonhole n)
  where
    -- the others, with the last number in the place of n
    others : ℕ → ℕ
    others i = when eqb (f i) n then f (suc n) else f i

    go : (b : Bool) → any_below (suc n) (λ i. eqb (f i) (f (suc n))) ≡ b → ((g : ℕ → ℕ) → ((i : ℕ) → i ≤ n → g i < n) → Twice g n) → Twice f (suc n)
    go true q rest =
        let s = some_at (suc n) (λ i. eqb (f i) (f (suc n))) q in
        (s.0, suc n, s.1, omega arith, eqb-true (f s.0) (f (suc n)) s.2)
    go false q rest =
        let r = rest others (λ i h. below i h (ℕ_discrete (f i) n)) in
        (r.0, r.1, r.2, omega (arith, r.3), same r.0 r.1 (omega (arith, r.2, r.3)) r.3 (ℕ_discrete (f r.0) n) (ℕ_discrete (f r.1) n) r.4)
      where
        alone : (i : ℕ) → i ≤ n → f i ≡ f (suc n) → ⊥
        alone i h = eqb-false (f i) (f (suc n)) (none_of (suc n) (λ i. eqb (f i) (f (suc n))) q i (omega arith))

        below : (i : ℕ) → i ≤ n → Dec (f i ≡ n) → others i < n
        below i h (yes e) = rw (eq-eqb (f i) n e) (let m : f (suc n) ≡ n → ⊥ = λ z. alone i h (e ∙ sym z) in omega (arith, low (suc n) (omega arith), m))
        below i h (no ne) = rw (ne_eqb (f i) n ne) (omega (arith, low i (omega arith), ne))

        same : (i j : ℕ) → i ≤ n → j ≤ n → Dec (f i ≡ n) → Dec (f j ≡ n) → others i ≡ others j → f i ≡ f j
        same i j h k (yes e) (yes e') q = e ∙ sym e'
        same i j h k (yes e) (no ne) q = absurd (alone j k (sym (rw (eq-eqb (f i) n e, ne_eqb (f j) n ne) at q)))
        same i j h k (no ne) (yes e) q = absurd (alone i h (rw (ne_eqb (f i) n ne, eq-eqb (f j) n e) at q))
        same i j h k (no ne) (no ne') q = rw (ne_eqb (f i) n ne, ne_eqb (f j) n ne') at q

-- ---- the place of a number among f 0 to f (k − 1)

unfoldable pub place_in : (ℕ → ℕ) → ℕ → ℕ → ℕ
place_in f zero u = 0
place_in f (suc k) u = when eqb (f k) u then k else place_in f k u

pub placed : (f : ℕ → ℕ) (k u j : ℕ) → j < k → f j ≡ u → (place_in f k u < k) × (f (place_in f k u) ≡ u)
unfolding place_in
placed f zero u j h e = absurd (omega arith)
placed f (suc k) u j h e = go (ℕ_discrete (f k) u) (λ l. placed f k u j l e)
  where
    P : ℕ → Type 0
    P i = (i < suc k) × (f i ≡ u)

    go : Dec (f k ≡ u) → (j < k → (place_in f k u < k) × (f (place_in f k u) ≡ u)) → P (when eqb (f k) u then k else place_in f k u)
    go (yes q) rest = rw (eq-eqb (f k) u q) (omega arith, q)
    go (no ne) rest =
        let r = rest (let other : j ≡ k → ⊥ = λ z. ne (ap f (sym z) ∙ e) in omega (arith, other)) in
        rw (ne_eqb (f k) u ne) (omega (arith, r.0), r.1)

-- n different numbers below n are all of them
pub onto : (n : ℕ) (f : ℕ → ℕ) → ((i : ℕ) → i < n → f i < n) → ((i j : ℕ) → i < j → j < n → f i ≡ f j → ⊥) → (u : ℕ) → u < n
    → (i : ℕ) × (i < n) × (f i ≡ u)
onto n f low different u h = go (any_below n (λ i. eqb (f i) u)) refl
  where
    -- the numbers, and u after them
    more : ℕ → ℕ
    more i = when eqb i n then u else f i

    first : (i : ℕ) → i < n → more i ≡ f i
    first i l = rw (ne_eqb i n (λ z. omega arith))

    last : more n ≡ u
    last = rw (eq-eqb n n refl)

    below : (i : ℕ) → i ≤ n → Dec (i ≡ n) → more i < n
    below i l (yes e) = rw (e, last) h
    below i l (no ne) = rw (first i (omega (arith, ne))) (low i (omega (arith, ne)))

    go : (b : Bool) → any_below n (λ i. eqb (f i) u) ≡ b → (i : ℕ) × (i < n) × (f i ≡ u)
    go true q = let s = some_at n (λ i. eqb (f i) u) q in (s.0, s.1, eqb-true (f s.0) u s.2)
    go false q = let p = pigeonhole n more (λ i l. below i l (ℕ_discrete i n)) in absurd (twice p.0 p.1 p.2 p.3 p.4 (ℕ_discrete p.1 n))
      where
        twice : (i j : ℕ) → i < j → j ≤ n → more i ≡ more j → Dec (j ≡ n) → ⊥
        twice i j l k s (yes e) = eqb-false (f i) u (none_of n (λ i. eqb (f i) u) q i (omega arith)) (sym (first i (omega arith)) ∙ s ∙ rw (e, last))
        twice i j l k s (no ne) = let b : j < n = omega (arith, ne) in different i j l b (sym (first i (omega arith)) ∙ s ∙ first j b)

-- fewer than n numbers leave out one that is below n
pub left_out : (k n : ℕ) (f : ℕ → ℕ) → k < n → (u : ℕ) × (u < n) × ((j : ℕ) → j < k → f j ≡ u → ⊥)
left_out k n f few = go (any_below n absent) refl
  where
    absent : ℕ → Bool
    absent u = not (any_below k (λ j. eqb (f j) u))

    go : (b : Bool) → any_below n absent ≡ b → (u : ℕ) × (u < n) × ((j : ℕ) → j < k → f j ≡ u → ⊥)
    go true q =
        let s = some_at n absent q in
        (s.0, s.1, λ j h. eqb-false (f j) s.0 (none_of k (λ j. eqb (f j) s.0) (not-true _ s.2) j h))
    go false q = let p = pigeonhole k (place_in f k) (λ u h. (at u (omega arith)).0) in absurd (crowded p.0 p.1 p.2 p.3 p.4)
      where
        at : (u : ℕ) → u < n → (place_in f k u < k) × (f (place_in f k u) ≡ u)
        at u b = let s = some_at k (λ j. eqb (f j) u) (not-false _ (none_of n absent q u b)) in placed f k u s.0 s.1 (eqb-true (f s.0) u s.2)

        crowded : (u v : ℕ) → u < v → v ≤ k → place_in f k u ≡ place_in f k v → ⊥
        crowded u v l h e = let same : u ≡ v = sym (at u (omega arith)).1 ∙ ap f e ∙ (at v (omega arith)).1 in omega arith
