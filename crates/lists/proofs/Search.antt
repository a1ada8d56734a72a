-- What a search over the numbers below k finds, from what holds at each number, and the other way round. Assumes nothing.
use mathlib.Core.Path.{◌≡◌, refl, sym, ◌∙◌, ap, ap₂, subst}
use mathlib.Core.Logic.{◌⊎◌, inl, inr}
use mathlib.Core.Bool.{Bool, true, false, not, ◌&&◌, ◌||◌, and-true, or-true, false≢true}
use mathlib.Core.List.{List, [], ◌∷◌, map}
use Rattle.std.specs.Prelude.{Option, Some, None, MatchOption}
use Prim.Native.Nat.{ℕ, zero, suc, ◌+◌, ◌≤◌, ◌<◌, max}
use native.Mathlib.Decide.{ℕ_discrete}
use native.Mathlib.Nat.{add_assoc}
use native.Mathlib.Omega.{arith}
use lib.Dec.{eqb}
use lib.ListN.{length, get_or}
use borrow.Author.Tests.{eq-eqb, ne_eqb}
use Rattle.lists.specs.Search.{when◌then◌else◌, any_below, count_below, greatest_below, or_else, first_below, tabulate}
use Rattle.lists.proofs.Tests.{or_false, neither, both, either}

-- ---- one number more

-- what holds of each number below k, and of k, holds of each below k + 1
pub below_suc : (P : ℕ → Type 0) (k : ℕ) → ((i : ℕ) → i < k → P i) → P k → (i : ℕ) → i < suc k → P i
below_suc P k all here i h = go (ℕ_discrete i k)
  where
    go : Dec (i ≡ k) → P i
    go (yes e) = subst P (sym e) here
    go (no ne) = all i (omega arith)

-- ---- any_below

pub any_none : (k : ℕ) (p : ℕ → Bool) → ((i : ℕ) → i < k → p i ≡ false) → any_below k p ≡ false
unfolding any_below
any_none zero p h = refl
any_none (suc k) p h = neither (any_none k p (λ i l. h i (omega arith))) (h k (omega arith))

pub none_of : (k : ℕ) (p : ℕ → Bool) → any_below k p ≡ false → (i : ℕ) → i < k → p i ≡ false
unfolding any_below
none_of zero p e i h = absurd (omega arith)
none_of (suc k) p e i h =
    let q : (any_below k p ≡ false) × (p k ≡ false) = or_false (any_below k p) (p k) e in
    below_suc (λ i. p i ≡ false) k (none_of k p q.0) q.1 i h

pub any_at : (k : ℕ) (p : ℕ → Bool) (i : ℕ) → i < k → p i ≡ true → any_below k p ≡ true
unfolding any_below
any_at zero p i h e = absurd (omega arith)
any_at (suc k) p i h e = go (ℕ_discrete i k) (λ l. any_at k p i l e)
  where
    go : Dec (i ≡ k) → (i < k → any_below k p ≡ true) → (any_below k p || p k) ≡ true
    go (yes q) rest = ap (λ (b : Bool). any_below k p || b) (ap p (sym q) ∙ e) ∙ or-true (any_below k p)
    go (no ne) rest = ap (λ (b : Bool). b || p k) (rest (omega arith))

-- where some number passes, one that does
pub some_at : (k : ℕ) (p : ℕ → Bool) → any_below k p ≡ true → (i : ℕ) × (i < k) × (p i ≡ true)
unfolding any_below
some_at zero p e = absurd (false≢true e)
some_at (suc k) p e = go (either (any_below k p) (p k) e) (some_at k p)
  where
    go : (any_below k p ≡ true) ⊎ (p k ≡ true) → (any_below k p ≡ true → (i : ℕ) × (i < k) × (p i ≡ true)) → (i : ℕ) × (i < suc k) × (p i ≡ true)
    go (inl q) rest = let r = rest q in (r.0, omega (arith, r.1), r.2)
    go (inr q) rest = (k, omega arith, q)

-- two tests that agree below k pass somewhere alike
pub any_ext : (k : ℕ) (p q : ℕ → Bool) → ((i : ℕ) → i < k → p i ≡ q i) → any_below k p ≡ any_below k q
unfolding any_below
any_ext zero p q h = refl
any_ext (suc k) p q h = rw (any_ext k p q (λ i l. h i (omega arith)), h k (omega arith))

-- ---- first_below

-- nothing is found exactly where no number passes
neither_found : (o : Option ℕ) (b : Bool) (k : ℕ) → or_else o (when b then Some k else None) ≡ None → (o ≡ None) × (b ≡ false)
neither_found None true k e = absurd (let z : ◌≡◌ {A = ℕ} 0 1 = cc in omega arith)
neither_found None false k e = (refl, refl)
neither_found (Some j) b k e = absurd (let z : ◌≡◌ {A = ℕ} 0 1 = cc in omega arith)

pub not_found : (k : ℕ) (p : ℕ → Bool) → first_below k p ≡ None → (i : ℕ) → i < k → p i ≡ false
unfolding first_below
not_found zero p e i h = absurd (omega arith)
not_found (suc k) p e i h =
    let q : (first_below k p ≡ None) × (p k ≡ false) = neither_found (first_below k p) (p k) k e in
    below_suc (λ i. p i ≡ false) k (not_found k p q.0) q.1 i h

pub none_found : (k : ℕ) (p : ℕ → Bool) → ((i : ℕ) → i < k → p i ≡ false) → first_below k p ≡ None
unfolding first_below
none_found zero p h = refl
none_found (suc k) p h = rw (none_found k p (λ i l. h i (omega arith)), h k (omega arith))

-- i is found exactly where it passes and no lower number does
pub record Lowest (k : ℕ) (p : ℕ → Bool) (i : ℕ) : Type 0 where
  pub below : i < k
  pub passes : p i ≡ true
  pub lower : (j : ℕ) → j < i → p j ≡ false

pub found : (k : ℕ) (p : ℕ → Bool) (i : ℕ) → Lowest k p i → first_below k p ≡ Some i
unfolding first_below
found zero p i h = absurd (omega (arith, h.below))
found (suc k) p i h = go (ℕ_discrete i k) (λ l. found k p i (record { below = l; passes = h.passes; lower = h.lower }))
  where
    go : Dec (i ≡ k) → (i < k → first_below k p ≡ Some i) → or_else (first_below k p) (when p k then Some k else None) ≡ Some i
    go (yes q) rest = rw (none_found k p (λ j l. h.lower j (omega arith)), ap p (sym q) ∙ h.passes) (ap Some (sym q))
    go (no ne) rest = rw (rest (omega (arith, h.below)))

pub found_lowest : (k : ℕ) (p : ℕ → Bool) (i : ℕ) → first_below k p ≡ Some i → Lowest k p i
unfolding first_below
found_lowest zero p i e = absurd (let z : ◌≡◌ {A = ℕ} 0 1 = cc in omega arith)
found_lowest (suc k) p i e = go (first_below k p) refl (p k) refl e (found_lowest k p)
  where
    go : (o : Option ℕ) → first_below k p ≡ o → (b : Bool) → p k ≡ b → or_else o (when b then Some k else None) ≡ Some i
        → ((i : ℕ) → first_below k p ≡ Some i → Lowest k p i) → Lowest (suc k) p i
    go (Some j) o b q e rest =
        let r : Lowest k p i = rest i (o ∙ e) in
        record { below = omega (arith, r.below); passes = r.passes; lower = r.lower }
    go None o true q e rest =
        let k≡i : k ≡ i = cc in
        record { below = omega arith; passes = ap p (sym k≡i) ∙ q; lower = λ j l. not_found k p o j (omega arith) }
    go None o false q e rest = absurd (let z : ◌≡◌ {A = ℕ} 0 1 = cc in omega arith)

-- what a search by `find` over the numbers 0 to k − 1 says is what `first_below` says
pub found_first : (k : ℕ) (p : ℕ → Bool) (r : Option ℕ)
    → MatchOption r ((i : ℕ) → 0 ≤ i → i < k → p i ≡ false) (λ i. (0 ≤ i) × (i < k) × (p i ≡ true) × ((j : ℕ) → 0 ≤ j → j < i → p j ≡ false))
    → r ≡ first_below k p
found_first k p None h = sym (none_found k p (λ i l. h i (omega arith) l))
found_first k p (Some i) h = sym (found k p i (record { below = h.1; passes = h.2; lower = λ j l. h.3 j (omega arith) l }))

-- two tests that agree below k find the same
pub first_ext : (k : ℕ) (p q : ℕ → Bool) → ((i : ℕ) → i < k → p i ≡ q i) → first_below k p ≡ first_below k q
unfolding first_below
first_ext zero p q h = refl
first_ext (suc k) p q h = rw (first_ext k p q (λ i l. h i (omega arith)), h k (omega arith))

-- ---- count_below

pub count_ext : (k : ℕ) (p q : ℕ → Bool) → ((i : ℕ) → i < k → p i ≡ q i) → count_below k p ≡ count_below k q
unfolding count_below
count_ext zero p q h = refl
count_ext (suc k) p q h = rw (count_ext k p q (λ i l. h i (omega arith)), h k (omega arith))

-- the same count, with the lowest number first
pub count_lowest : (k : ℕ) (p : ℕ → Bool) → count_below (suc k) p ≡ (when p 0 then 1 else 0) + count_below k (λ i. p (suc i))
unfolding count_below
count_lowest zero p = omega arith
count_lowest (suc k) p =
    ap (λ (n : ℕ). n + (when p (suc k) then 1 else 0)) (count_lowest k p)
    ∙ add_assoc (when p 0 then 1 else 0) (count_below k (λ i. p (suc i))) (when p (suc k) then 1 else 0)

-- numbers that do not pass do not count
pub count_beyond : (m k : ℕ) (p : ℕ → Bool) → m ≤ k → ((i : ℕ) → m ≤ i → i < k → p i ≡ false) → count_below k p ≡ count_below m p
unfolding count_below
count_beyond m zero p h fail = let z : m ≡ 0 = omega arith in rw z
count_beyond m (suc k) p h fail = go (ℕ_discrete m (suc k)) (λ l. count_beyond m k p l (λ i a b. fail i a (omega arith)))
  where
    go : Dec (m ≡ suc k) → (m ≤ k → count_below k p ≡ count_below m p) → count_below k p + (when p k then 1 else 0) ≡ count_below m p
    go (yes e) rest = sym (ap (λ (n : ℕ). count_below n p) e)
    go (no ne) rest = rw (fail k (omega arith) (omega arith)) (let r = rest (omega arith) in omega arith)

pub count_none : (k : ℕ) (p : ℕ → Bool) → ((i : ℕ) → i < k → p i ≡ false) → count_below k p ≡ 0
unfolding count_below
count_none zero p h = refl
count_none (suc k) p h = rw (h k (omega arith)) (let r = count_none k p (λ i l. h i (omega arith)) in omega arith)

pub none_counted : (k : ℕ) (p : ℕ → Bool) → count_below k p ≡ 0 → (i : ℕ) → i < k → p i ≡ false
unfolding count_below
none_counted zero p e i h = absurd (omega arith)
none_counted (suc k) p e i h = below_suc (λ i. p i ≡ false) k (none_counted k p (omega arith)) (last (p k) refl e) i h
  where
    last : (b : Bool) → p k ≡ b → count_below k p + (when b then 1 else 0) ≡ 0 → p k ≡ false
    last true q e = absurd (omega arith)
    last false q e = q

-- where the count is not 0, a number that passes
pub some_counted : (k : ℕ) (p : ℕ → Bool) → (count_below k p ≡ 0 → ⊥) → (i : ℕ) × (i < k) × (p i ≡ true)
some_counted k p ne = go (any_below k p) refl
  where
    go : (b : Bool) → any_below k p ≡ b → (i : ℕ) × (i < k) × (p i ≡ true)
    go true q = some_at k p q
    go false q = absurd (ne (count_none k p (none_of k p q)))

pub count_most : (k : ℕ) (p : ℕ → Bool) → count_below k p ≤ k
unfolding count_below
count_most zero p = omega arith
count_most (suc k) p = go (p k) (count_most k p)
  where
    go : (b : Bool) → count_below k p ≤ k → count_below k p + (when b then 1 else 0) ≤ suc k
    go true h = omega arith
    go false h = omega arith

-- one number that passes, and the others
pub count_remove : (k h : ℕ) (p : ℕ → Bool) → h < k → p h ≡ true → count_below k p ≡ suc (count_below k (λ i. p i && not (eqb i h)))
unfolding count_below
count_remove zero h p l e = absurd (omega arith)
count_remove (suc k) h p l e = go (ℕ_discrete h k) (λ b. count_remove k h p b e)
  where
    go : Dec (h ≡ k) → (h < k → count_below k p ≡ suc (count_below k (λ i. p i && not (eqb i h))))
        → count_below k p + (when p k then 1 else 0) ≡ suc (count_below k (λ i. p i && not (eqb i h)) + (when p k && not (eqb k h) then 1 else 0))
    go (yes q) rest =
        let same : count_below k (λ i. p i && not (eqb i h)) ≡ count_below k p
        = count_ext k (λ i. p i && not (eqb i h)) p (λ i b. rw (ne_eqb i h (λ z. omega arith)) (and-true (p i))) in
        rw (← q, e, eq-eqb h h refl) (let s : count_below h (λ i. p i && not (eqb i h)) ≡ count_below h p = rw (← q) at same in omega arith)
    go (no ne) rest =
        rw (ne_eqb k h (λ z. ne (sym z)), and-true (p k)) (let r = rest (omega arith) in omega arith)

-- a test that passes wherever another does counts no less, and where it passes once more it counts more
pub count_mono : (k : ℕ) (p q : ℕ → Bool) → ((i : ℕ) → i < k → p i ≡ true → q i ≡ true) → count_below k p ≤ count_below k q
unfolding count_below
count_mono zero p q h = omega arith
count_mono (suc k) p q h = go (p k) (q k) (h k (omega arith)) (count_mono k p q (λ i l. h i (omega arith)))
  where
    go : (a b : Bool) → (a ≡ true → b ≡ true) → count_below k p ≤ count_below k q → count_below k p + (when a then 1 else 0) ≤ count_below k q + (when b then 1 else 0)
    go true true e r = omega arith
    go true false e r = absurd (false≢true (e refl))
    go false true e r = omega arith
    go false false e r = omega arith

pub count_more : (k : ℕ) (p q : ℕ → Bool) → ((i : ℕ) → i < k → p i ≡ true → q i ≡ true) → (j : ℕ) → j < k → p j ≡ false → q j ≡ true
    → count_below k p < count_below k q
count_more k p q h j b fails passes =
    rw (count_remove k j q b passes)
    (let r = count_mono k p (λ i. q i && not (eqb i j)) (λ i l e. both (h i l e) (rw (ne_eqb i j (λ z. false≢true (sym fails ∙ ap p (sym z) ∙ e))))) in omega arith)

-- ---- the greatest

pub greatest_ext : (k : ℕ) (f g : ℕ → ℕ) → ((i : ℕ) → i < k → f i ≡ g i) → greatest_below k f ≡ greatest_below k g
unfolding greatest_below
greatest_ext zero f g h = refl
greatest_ext (suc k) f g h = rw (greatest_ext k f g (λ i b. h i (omega arith)), h k (omega arith))

-- none is greater, and where all are at most b it is too
pub below_greatest : (k : ℕ) (f : ℕ → ℕ) (i : ℕ) → i < k → f i ≤ greatest_below k f
unfolding greatest_below
below_greatest zero f i h = absurd (omega arith)
below_greatest (suc k) f i h = below_suc (λ i. f i ≤ max (greatest_below k f) (f k)) k (λ i b. let r = below_greatest k f i b in omega arith) (omega arith) i h

pub greatest_below_lem : (k b : ℕ) (f : ℕ → ℕ) → ((i : ℕ) → i < k → f i ≤ b) → greatest_below k f ≤ b
unfolding greatest_below
greatest_below_lem zero b f h = omega arith
greatest_below_lem (suc k) b f h = omega (arith, greatest_below_lem k b f (λ i l. h i (omega arith)), h k (omega arith))

-- ---- tabulate

pub tabulate-at {ℓ} : {A : Type ℓ} (k : ℕ) (f : ℕ → A) (d : A) (i : ℕ) → i < k → get_or (tabulate k f) i d ≡ f i
unfolding tabulate
tabulate-at zero f d i h = absurd (omega arith)
tabulate-at (suc k) f d zero h = refl
tabulate-at (suc k) f d (suc i) h = tabulate-at k (λ j. f (suc j)) d i (omega arith)

pub tabulate-length {ℓ} : {A : Type ℓ} (k : ℕ) (f : ℕ → A) → length (tabulate k f) ≡ k
unfolding tabulate
tabulate-length zero f = refl
tabulate-length (suc k) f = ap suc (tabulate-length k (λ i. f (suc i)))

-- a list of k entries that f gives is the list of f
pub tabulated {ℓ} : {A : Type ℓ} (xs : List A) (k : ℕ) (f : ℕ → A) (d : A) → length xs ≡ k → ((i : ℕ) → i < k → get_or xs i d ≡ f i) → xs ≡ tabulate k f
unfolding tabulate
tabulated [] zero f d e h = refl
tabulated [] (suc k) f d e h = absurd (omega arith)
tabulated (x ∷ xs) zero f d e h = absurd (omega arith)
tabulated (x ∷ xs) (suc k) f d e h = ap₂ ◌∷◌ (h 0 (omega arith)) (tabulated xs k (λ i. f (suc i)) d (omega arith) (λ i b. h (suc i) (omega arith)))

pub tabulate_map : {A B : Type 0} (g : A → B) (k : ℕ) (f : ℕ → A) → map g (tabulate k f) ≡ tabulate k (λ i. g (f i))
unfolding tabulate
tabulate_map {A} {B} g zero f = refl
tabulate_map {A} {B} g (suc k) f = ap (λ (xs : List B). g (f 0) ∷ xs) (tabulate_map g k (λ i. f (suc i)))
