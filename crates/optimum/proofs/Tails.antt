-- The tails along an edge: a block's tail is what one of its edges gives (`comes`), so that a tail stands for a path (`along_paths`), and is
-- no less than what each of them gives (`tail_forward`, `tail_back`). Assumes nothing.
use mathlib.Core.Path.{◌≡◌, refl, sym, ◌∙◌}
use mathlib.Core.Bool.{Bool, true, false, not, ◌&&◌, ◌||◌, and-false, not-and_self, false≢true}
use mathlib.Core.Logic.{◌⊎◌, inl, inr, ⊎_elim}
use mathlib.Core.Option.{Option, none, some}
use Prim.Native.Nat.{ℕ, zero, suc, ◌+◌, ◌≤◌, ◌<◌}
use native.Mathlib.Omega.{arith}
use lib.Dec.{eqb, ltb}
use borrow.Author.Tests.{eqb-true, eqb-false, ltb-true, ltb-false, eq-eqb, ne_eqb}
use Rattle.lists.specs.Search.{when◌then◌else◌}
use Rattle.lists.proofs.Tests.{neither, and-true}
use Rattle.wcet.specs.Table.{Routine, block_count, loop_count, exit, missing, cost, first, second, header, some_edge, edge, inside}
use Rattle.wcet.specs.Cycles.{back_edge, forward_edge}
use Rattle.wcet.proofs.Nesting.{no_edge, Nested, first_edge, second_edge}
use Rattle.wcet.proofs.Counts.{header_inside}
use Rattle.optimum.specs.Tails.{best, more, weight, via, tail_at}
use Rattle.optimum.proofs.Local.{Tailed, Ranked}

-- ---- the greater of two

pub none_some : {A B : Type 0} {a : A} → none ≡ some a → B
none_some q = absurd (let z : ◌≡◌ {A = ℕ} 0 1 = cc in omega arith)

-- o is there, and no less than a
abbrev pub AtLeast : {A : Type 0} → (A → A → Type 0) → Option A → A → Type 0
AtLeast {A} R o a = (b : A) × (o ≡ some b) × R a b

-- the order of which a test says that one is less than another
pub record Compares {A : Type 0} (less : A → A → Bool) (R : A → A → Type 0) : Type 0 where
  pub same : (a : A) → R a a
  pub is_less : (a b : A) → less a b ≡ true → R a b
  pub not_less : (a b : A) → less a b ≡ false → R b a

pub weights : Compares ltb ◌≤◌
weights = record { same = λ a. omega arith; is_less = λ a b e. omega (arith, ltb-true a b e); not_less = λ a b e. ltb-false a b e }

module _ {A : Type 0} (less : A → A → Bool) where
  pub best_none : (o : Option A) → best less o none ≡ o
  unfolding best
  best_none none = refl
  best_none (some a) = refl

  pub best_one : (o p : Option A) (a : A) → best less o p ≡ some a → (o ≡ some a) ⊎ (p ≡ some a)
  unfolding best
  best_one none p a e = inr e
  best_one (some b) none a e = inl e
  best_one (some b) (some c) a e = go (less b c) e
    where
      go : (x : Bool) → (when x then some c else some b) ≡ some a → (some b ≡ some a) ⊎ (some c ≡ some a)
      go true e = inr e
      go false e = inl e

  module _ (R : A → A → Type 0) (O : Compares less R) where
    pub best_left : (a : A) (o : Option A) → AtLeast R (best less (some a) o) a
    unfolding best
    best_left a none = (a, refl, O.same a)
    best_left a (some b) = go (less a b) refl
      where
        go : (x : Bool) → less a b ≡ x → AtLeast R (when x then some b else some a) a
        go true e = (b, refl, O.is_less a b e)
        go false e = (a, refl, O.same a)

    pub best_right : (o : Option A) (b : A) → AtLeast R (best less o (some b)) b
    unfolding best
    best_right none b = (b, refl, O.same b)
    best_right (some a) b = go (less a b) refl
      where
        go : (x : Bool) → less a b ≡ x → AtLeast R (when x then some b else some a) b
        go true e = (b, refl, O.same b)
        go false e = (a, refl, O.not_less a b e)

-- ---- where a tail comes from

-- x is the exit and l is loop 0; or an edge leads back to l's header; or a forward edge leads to v, whose tail goes on
pub data Comes (t : Routine) (l : ℕ) (tail : ℕ → Option ℕ) (x c : ℕ) : Type 0 where
  ends : l ≡ 0 → x ≡ exit t → 0 ≡ c → Comes t l tail x c
  back : (l ≡ 0 → ⊥) → edge t x (header t l) ≡ true → cost t (header t l) ≡ c → Comes t l tail x c
  on : (v a : ℕ) → edge t x v ≡ true → inside t v l ≡ true → back_edge t x v ≡ false → tail v ≡ some a → weight t v + a ≡ c → Comes t l tail x c

module _ (t : Routine) (l : ℕ) (tail : ℕ → Option ℕ) (x c : ℕ) where
  -- by a successor v
  by : (v : ℕ) → (eqb v missing ≡ false → edge t x v ≡ true) → via t l tail x v ≡ some c → Comes t l tail x c
  unfolding via more
  by v e = go (eqb v missing) (inside t v l) (back_edge t x v) (eqb l 0) (eqb v (header t l)) (tail v) e refl refl refl refl refl
    where
      go : (m i r z h : Bool) (o : Option ℕ) → (m ≡ false → edge t x v ≡ true) → inside t v l ≡ i → back_edge t x v ≡ r → eqb l 0 ≡ z
          → eqb v (header t l) ≡ h → tail v ≡ o
          → (when m then none else when not i then none else when r then (when not z && h then some (cost t v) else none) else more (weight t v) o) ≡ some c
          → Comes t l tail x c
      go true i r z h o e ei er ez eh eo q = none_some q
      go false false r z h o e ei er ez eh eo q = none_some q
      go false true true true h o e ei er ez eh eo q = none_some q
      go false true true false false o e ei er ez eh eo q = none_some q
      go false true true false true o e ei er ez eh eo q =
          let p : v ≡ header t l = eqb-true v (header t l) eh in
          back (eqb-false l 0 ez) (rw p at (e refl)) (cc)
      go false true false z h none e ei er ez eh eo q = none_some q
      go false true false z h (some a) e ei er ez eh eo q = on v a (e refl) ei er eo (cc)

  pub comes : tail_at t l tail x ≡ some c → Comes t l tail x c
  unfolding tail_at
  comes = go (eqb l 0 && eqb x (exit t)) refl
    where
      go : (b : Bool) → (eqb l 0 && eqb x (exit t)) ≡ b → (when b then some 0 else best ltb (via t l tail x (first t x)) (via t l tail x (second t x))) ≡ some c
          → Comes t l tail x c
      go true b q =
          let p : (eqb l 0 ≡ true) × (eqb x (exit t) ≡ true) = and-true _ _ b in
          ends (eqb-true l 0 p.0) (eqb-true x (exit t) p.1) (cc)
      go false b q = ⊎_elim (by (first t x) (first_edge t x)) (by (second t x) (second_edge t x)) (best_one ltb (via t l tail x (first t x)) (via t l tail x (second t x)) c q)

-- So what passes back along the paths of loop l holds wherever l has a tail: the paths are followed by rank.
module _ (t : Routine) (N : Nested t) (K : Ranked t) (tail : (l x : ℕ) → Option ℕ) (E : Tailed t tail) (l : ℕ) (m : l < loop_count t) (P : ℕ → ℕ → Type 0)
    (at_exit : (x : ℕ) → x < block_count t → inside t x l ≡ true → l ≡ 0 → x ≡ exit t → P x 0)
    (going-back : (x : ℕ) → x < block_count t → inside t x l ≡ true → (l ≡ 0 → ⊥) → edge t x (header t l) ≡ true → P x (cost t (header t l)))
    (Going-on : (x v a : ℕ) → x < block_count t → inside t x l ≡ true → edge t x v ≡ true → inside t v l ≡ true → back_edge t x v ≡ false → P v a → P x (weight t v + a)) where
  -- r is over the rank of x
  by_rank : (r x k : ℕ) → K.rank x < r → x < block_count t → inside t x l ≡ true → tail l x ≡ some k → P x k
  by_rank zero x k h b i e = absurd (omega arith)
  by_rank (suc r) x k h b i e = go (comes t l (tail l) x k (sym (E l x m b i) ∙ e)) (λ v j. by_rank r v j)
    where
      go : Comes t l (tail l) x k → ((v j : ℕ) → K.rank v < r → v < block_count t → inside t v l ≡ true → tail l v ≡ some j → P v j) → P x k
      go (ends z q p) rest = rw (← p) (at_exit x b i z q)
      go (back z d p) rest = rw (← p) (going-back x b i z d)
      go (on v j d s q a p) rest =
          let f : K.rank v < K.rank x = K.falls x v b (unfold forward_edge in rw (d, q)) in
          rw (← p) (Going-on x v j b i d s q (rest v j (omega arith) (N.target x v b d) s a))

  pub along_paths : (x k : ℕ) → x < block_count t → inside t x l ≡ true → tail l x ≡ some k → P x k
  along_paths x k = by_rank (suc (K.rank x)) x k (omega arith)

-- ---- what an edge gives

-- what an edge gives is no more than the greater of both successors' parts
edge_best : (t : Routine) (u v : ℕ) (f : ℕ → Option ℕ) (k : ℕ) → edge t u v ≡ true → f v ≡ some k → AtLeast ◌≤◌ (best ltb (f (first t u)) (f (second t u))) k
unfolding some_edge edge
edge_best t u v f k h e = go (not (eqb (first t u) missing)) (eqb (first t u) v) (not (eqb (second t u) missing)) (eqb (second t u) v) refl refl h
  where
    go : (a b c d : Bool) → eqb (first t u) v ≡ b → eqb (second t u) v ≡ d → ((a && b) || (c && d)) ≡ true → AtLeast ◌≤◌ (best ltb (f (first t u)) (f (second t u))) k
    go a true c d p q s = rw (eqb-true (first t u) v p, e) (best_left ltb ◌≤◌ weights k (f (second t u)))
    go a false c true p q s = rw (eqb-true (second t u) v q, e) (best_right ltb ◌≤◌ weights (f (first t u)) k)
    go a false c false p q s = absurd (false≢true (rw (and-false a, and-false c) at s))

-- the target of an edge is not missing
edge_there : (t : Routine) (u v : ℕ) → edge t u v ≡ true → eqb v missing ≡ false
unfolding some_edge
edge_there t u v e = no_edge t u v (λ x. eqb x missing) (neither (not-and_self (eqb (first t u) missing)) (not-and_self (eqb (second t u) missing))) e

module _ (t : Routine) (N : Nested t) (tail : (l x : ℕ) → Option ℕ) (E : Tailed t tail) where
  -- a tail is no less than what an edge gives
  edge_tail : (l u v k : ℕ) → l < loop_count t → u < block_count t → inside t u l ≡ true → edge t u v ≡ true → via t l (tail l) u v ≡ some k → AtLeast ◌≤◌ (tail l u) k
  unfolding tail_at
  edge_tail l u v k m b i e g = rw (E l u m b i) (go (eqb u (exit t)) refl)
    where
      go : (x : Bool) → eqb u (exit t) ≡ x → AtLeast ◌≤◌ (when eqb l 0 && x then some 0 else best ltb (via t l (tail l) u (first t u)) (via t l (tail l) u (second t u))) k
      go true x = absurd (N.exit_ends v (rw (eqb-true u (exit t) x) at e))
      go false x = rw (and-false (eqb l 0)) (edge_best t u v (via t l (tail l) u) k e g)

  pub tail_forward : (l u v k : ℕ) → l < loop_count t → u < block_count t → inside t u l ≡ true → edge t u v ≡ true → inside t v l ≡ true → back_edge t u v ≡ false → tail l v ≡ some k
      → AtLeast ◌≤◌ (tail l u) (weight t v + k)
  unfolding via more
  tail_forward l u v k m b i e j r q = edge_tail l u v (weight t v + k) m b i e (rw (edge_there t u v e, j, r, q))

  pub tail_back : (l u : ℕ) → 0 < l → l < loop_count t → u < block_count t → inside t u l ≡ true → edge t u (header t l) ≡ true → AtLeast ◌≤◌ (tail l u) (cost t (header t l))
  unfolding via back_edge
  tail_back l u z m b i e =
      edge_tail l u (header t l) (cost t (header t l)) m b i e
      (rw (edge_there t u (header t l) e, header_inside t N l m, N.own l m, eq-eqb (header t l) (header t l) refl, i, ne_eqb l 0 (λ q. omega arith)))
