-- Walks by one kind of edge: the test `reaches` holds exactly where there is one (`walk_of`, `walk_reaches`). Document 02, §2: the test of 209
-- holds exactly where there is a closed walk none of whose edges returns (`closed_exactly`). Assumes nothing.
use mathlib.Core.Path.{◌≡◌, refl, subst, ap}
use mathlib.Core.Logic.{◌↔◌, ◌⊎◌, inl, inr, ⊎_elim}
use mathlib.Core.Bool.{Bool, true, ◌&&◌, ◌||◌}
use mathlib.Core.List.{List, [], ◌∷◌, ◌++◌, append_assoc}
use Prim.Native.Nat.{ℕ, zero, suc, ◌<◌}
use native.Mathlib.Decide.{ℕ_discrete}
use native.Mathlib.Omega.{arith}
use Rattle.lists.proofs.Tests.{and-true, both, either, or_left, or_right}
use Rattle.lists.proofs.Search.{any_at, some_at}
use Rattle.wcet.specs.Table.{Routine, block_count, edge}
use Rattle.wcet.specs.Cycles.{forward_edge, forward_path, ClosedWalk, reaches, undeclared_loop}

module _ (leads : ℕ → ℕ → Bool) where
  -- from u the blocks of w follow edges of this kind
  unfoldable pub walks : ℕ → List ℕ → Bool
  walks u [] = true
  walks u (v ∷ w) = leads u v && walks v w

  -- ---- from the test to a walk

  -- a walk from u along a list of blocks, and then to v
  abbrev pub WalkTo : ℕ → ℕ → Type 0
  WalkTo u v = (w : List ℕ) × (walks u (w ++ v ∷ []) ≡ true)

  walk_append : (w w' : List ℕ) (u x : ℕ) → walks u (w ++ x ∷ []) ≡ true → walks x w' ≡ true → walks u (w ++ x ∷ w') ≡ true
  unfolding walks
  walk_append [] w' u x h k = both (and-true (leads u x) true h).0 k
  walk_append (y ∷ w) w' u x h k = let p = and-true (leads u y) (walks y (w ++ x ∷ [])) h in both p.0 (walk_append w w' y x p.1 k)

  joined : (u v x : ℕ) → WalkTo u x → WalkTo x v → WalkTo u v
  joined u v x p q = (p.0 ++ x ∷ q.0, rw append_assoc (walk_append p.0 (q.0 ++ v ∷ []) u x p.1 q.1))

  pub walk_of : (k u v : ℕ) → reaches leads k u v ≡ true → WalkTo u v
  unfolding reaches walks
  walk_of zero u v e = ([], both e refl)
  walk_of (suc k) u v e =
      ⊎_elim (λ p. walk_of k u v p)
      (λ p. let q = and-true (reaches leads k u k) (reaches leads k k v) p in joined u v k (walk_of k u k q.0) (walk_of k k v q.1))
      (either (reaches leads k u v) (reaches leads k u k && reaches leads k k v) e)

  -- ---- from a walk to the test

  pub reaches_one : (k u v : ℕ) → leads u v ≡ true → reaches leads k u v ≡ true
  unfolding reaches
  reaches_one zero u v e = e
  reaches_one (suc k) u v e = or_left (reaches leads k u k && reaches leads k k v) (reaches_one k u v e)

  -- by way of a block below k
  pub reaches_by : (k u v x : ℕ) → x < k → reaches leads k u x ≡ true → reaches leads k x v ≡ true → reaches leads k u v ≡ true
  unfolding reaches
  reaches_by zero u v x b p q = absurd (omega arith)
  reaches_by (suc k) u v x b p q = go (ℕ_discrete x k) (cases u x p) (cases x v q) (reaches_by k)
    where
      A : ℕ → ℕ → Type 0
      A y z = reaches leads k y z ≡ true

      S : ℕ → ℕ → Type 0
      S y z = A y z ⊎ (A y k × A k z)

      cases : (y z : ℕ) → (reaches leads k y z || (reaches leads k y k && reaches leads k k z)) ≡ true → S y z
      cases y z e = ⊎_elim (λ a. inl a) (λ a. inr (and-true (reaches leads k y k) (reaches leads k k z) a)) (either (reaches leads k y z) (reaches leads k y k && reaches leads k k z) e)

      direct : A u v → (reaches leads k u v || (reaches leads k u k && reaches leads k k v)) ≡ true
      direct a = or_left (reaches leads k u k && reaches leads k k v) a

      via : A u k → A k v → (reaches leads k u v || (reaches leads k u k && reaches leads k k v)) ≡ true
      via a c = or_right (reaches leads k u v) (both a c)

      into : S u k → A u k
      into (inl a) = a
      into (inr a) = a.0

      out : S k v → A k v
      out (inl a) = a
      out (inr a) = a.1

      go : Dec (x ≡ k) → S u x → S x v → ((y z w : ℕ) → w < k → A y w → A w z → A y z) → (reaches leads k u v || (reaches leads k u k && reaches leads k k v)) ≡ true
      go (yes e) m n by = via (into (subst (S u) e m)) (out (subst (λ (y : ℕ). S y v) e n))
      go (no ne) (inl m) (inl n) by = direct (by u v x (omega arith) m n)
      go (no ne) (inl m) (inr n) by = via (by u k x (omega arith) m n.0) n.1
      go (no ne) (inr m) (inl n) by = via m.0 (by k v x (omega arith) m.1 n)
      go (no ne) (inr m) (inr n) by = via m.0 n.1

  -- n blocks, where every edge of a block leads to a block
  module _ (n : ℕ) (target : (u v : ℕ) → u < n → leads u v ≡ true → v < n) where
    pub walk_reaches : (w : List ℕ) (u v : ℕ) → u < n → walks u (w ++ v ∷ []) ≡ true → reaches leads n u v ≡ true
    unfolding walks
    walk_reaches [] u v b h = reaches_one n u v (and-true (leads u v) true h).0
    walk_reaches (x ∷ w) u v b h =
        let p = and-true (leads u x) (walks x (w ++ v ∷ [])) h in
        let c : x < n = target u x b p.0 in
        reaches_by n u v x c (reaches_one n u x p.0) (walk_reaches w x v c p.1)

-- ---- closed walks of forward edges

module _ (t : Routine) where
  forward_walk : (w : List ℕ) (u : ℕ) → forward_path t u w ≡ walks (forward_edge t) u w
  unfolding forward_path walks
  forward_walk [] u = refl
  forward_walk (v ∷ w) u = ap (λ (x : Bool). forward_edge t u v && x) (forward_walk w v)

  closes : undeclared_loop t ≡ true → ClosedWalk t
  unfolding undeclared_loop
  closes e =
      let s = some_at (block_count t) _ e in
      let p = walk_of (forward_edge t) _ s.0 s.0 s.2 in
      record { start = s.0; between = p.0; block = s.1; closed = rw (forward_walk (p.0 ++ s.0 ∷ []) s.0) p.1 }

  pub reached : (u : ℕ) → u < block_count t → reaches (forward_edge t) (block_count t) u u ≡ true → undeclared_loop t ≡ true
  unfolding undeclared_loop
  reached u b e = any_at (block_count t) _ u b e

  -- where every edge of a block leads to a block (203)
  module _ (target : (u v : ℕ) → u < block_count t → edge t u v ≡ true → v < block_count t) where
    pub forward_target : (u v : ℕ) → u < block_count t → forward_edge t u v ≡ true → v < block_count t
    unfolding forward_edge
    forward_target u v b e = target u v b (and-true (edge t u v) _ e).0

    closed_reaches : ClosedWalk t → undeclared_loop t ≡ true
    closed_reaches W =
        reached W.start W.block
        (walk_reaches (forward_edge t) (block_count t) forward_target W.between W.start W.start W.block
        (rw (forward_walk (W.between ++ W.start ∷ []) W.start) at W.closed))

    -- "Refusal must come exactly when such a closed walk exists"
    pub closed_exactly : (undeclared_loop t ≡ true) ↔ ClosedWalk t
    closed_exactly = (closes, closed_reaches)
