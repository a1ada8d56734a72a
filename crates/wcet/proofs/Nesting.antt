-- What 201 to 207 say of the edges and the loops, by name. Assumes nothing.
use mathlib.Core.Path.{◌≡◌, refl}
use mathlib.Core.Bool.{Bool, true, false, not, ◌&&◌, ◌||◌, or-true, false≢true}
use Prim.Native.Nat.{ℕ, ◌≤◌, ◌<◌}
use native.Mathlib.Decide.{ℕ_discrete}
use native.Mathlib.Omega.{arith}
use lib.Dec.{eqb, ltb}
use borrow.Author.Tests.{eqb-true, eqb-false, ltb-true, not-false, eq-eqb}
use Rattle.lists.proofs.Tests.{or_false, neither}
use Rattle.lists.proofs.Search.{none_of}
use Rattle.wcet.specs.Table.{Routine, block_count, loop_count, exit, missing, loop_of, first, second, parent, header, limit, multiplier, some_edge, edge, inside}
use Rattle.wcet.specs.Rules.{header_elsewhere, entry_or_exit_edge, past_header, enters_past_header, structure_rules}
use Rattle.wcet.specs.Claim.{AllHold}
use Rattle.wcet.proofs.Ranges.{SizesKept, RootKept, sizes_of, root_of, loop_of_lem, block_of}

-- a test that holds at no edge out of u fails at each
pub no_edge : (t : Routine) (u v : ℕ) (p : ℕ → Bool) → some_edge t u p ≡ false → edge t u v ≡ true → p v ≡ false
unfolding some_edge edge
no_edge t u v p e h = go (eqb (first t u) missing) (eqb (second t u) missing) (eqb (first t u) v) (eqb (second t u) v) refl refl e h
  where
    go : (mf ms ef es : Bool) → eqb (first t u) v ≡ ef → eqb (second t u) v ≡ es
        → ((not mf && p (first t u)) || (not ms && p (second t u))) ≡ false → ((not mf && ef) || (not ms && es)) ≡ true → p v ≡ false
    go false ms true es qf qs none some = rw (eqb-true (first t u) v qf) at (or_false (p (first t u)) (not ms && p (second t u)) none).0
    go false false false true qf qs none some = rw (eqb-true (second t u) v qs) at (or_false (p (first t u)) (p (second t u)) none).1
    go true false ef true qf qs none some = rw (eqb-true (second t u) v qs) at none
    go false false false false qf qs none some = absurd (false≢true some)
    go false true false es qf qs none some = absurd (false≢true some)
    go true false ef false qf qs none some = absurd (false≢true some)
    go true true ef es qf qs none some = absurd (false≢true some)

module _ (t : Routine) (u : ℕ) where
  -- a successor that is there is at the end of an edge
  pub first_edge : eqb (first t u) missing ≡ false → edge t u (first t u) ≡ true
  unfolding some_edge edge
  first_edge e = rw (e, eq-eqb (first t u) (first t u) refl)

  pub second_edge : eqb (second t u) missing ≡ false → edge t u (second t u) ≡ true
  unfolding some_edge edge
  second_edge e = rw (e, eq-eqb (second t u) (second t u) refl) (or-true (not (eqb (first t u) missing) && eqb (first t u) (second t u)))

  -- a test that fails at each edge holds at none
  pub no_edge_at : (p : ℕ → Bool) → ((v : ℕ) → edge t u v ≡ true → p v ≡ false) → some_edge t u p ≡ false
  unfolding some_edge
  no_edge_at p h = neither (go (eqb (first t u) missing) (first t u) refl (λ e. h (first t u) (first_edge e))) (go (eqb (second t u) missing) (second t u) refl (λ e. h (second t u) (second_edge e)))
    where
      go : (m : Bool) (v : ℕ) → eqb v missing ≡ m → (eqb v missing ≡ false → p v ≡ false) → (not m && p v) ≡ false
      go true v q k = refl
      go false v q k = k q

pub record Nested (t : Routine) : Type 0 where
  -- 201
  pub two_blocks : 2 ≤ block_count t
  pub some_loop : 0 < loop_count t
  -- 202
  pub loop0_parent : parent t 0 ≡ 0
  pub loop0_header : header t 0 ≡ 0
  pub loop0_limit : limit t 0 ≡ 1
  pub loop0_multiplier : multiplier t 0 ≡ 0
  pub parent_below : (l : ℕ) → 0 < l → l < loop_count t → parent t l < l
  pub header_block : (l : ℕ) → l < loop_count t → header t l < block_count t
  pub limit_least : (l : ℕ) → l < loop_count t → 1 ≤ limit t l
  -- 203
  pub innermost : (u : ℕ) → u < block_count t → loop_of t u < loop_count t
  pub target : (u v : ℕ) → u < block_count t → edge t u v ≡ true → v < block_count t
  -- 204
  pub own : (l : ℕ) → l < loop_count t → loop_of t (header t l) ≡ l
  -- 206
  pub entry_starts : (u : ℕ) → u < block_count t → edge t u 0 ≡ true → ⊥
  pub exit_ends : (v : ℕ) → edge t (exit t) v ≡ true → ⊥
  -- 207
  pub at_header : (u v l : ℕ) → u < block_count t → edge t u v ≡ true → l < loop_count t → inside t v l ≡ true → inside t u l ≡ false → header t l ≡ v

pub nested : (t : Routine) → AllHold (structure_rules t) → Nested t
unfolding structure_rules header_elsewhere entry_or_exit_edge past_header enters_past_header
nested t h = record {
  two_blocks = sizes.two_blocks;
  some_loop = sizes.some_loop;
  loop0_parent = root.parent_0;
  loop0_header = root.header_0;
  loop0_limit = root.limit_1;
  loop0_multiplier = root.multiplier_0;
  parent_below = λ l z b. (loop_of_lem t h l z b).parent_below;
  header_block = λ l b. header_at l b (ℕ_discrete l 0);
  limit_least = λ l b. limit_at l b (ℕ_discrete l 0);
  innermost = λ u b. (block_of t h u b).innermost;
  target = λ u v b e. ltb-true v (block_count t) (not-false _ (no_edge t u v (λ x. not (ltb x (block_count t))) (block_of t h u b).edges e));
  own = λ l b. eqb-true (loop_of t (header t l)) l (not-false _ (h.1.1.1.0 l b));
  entry_starts = λ u b e. eqb-false 0 0 (or_false (eqb 0 0) (eqb u (exit t)) (no_edge t u 0 (λ x. eqb x 0 || eqb u (exit t)) (h.1.1.1.1.1.0 u b) e)).0 refl;
  exit_ends = λ v e. eqb-false (exit t) (exit t) (or_false (eqb v 0) _ (no_edge t (exit t) v (λ x. eqb x 0 || eqb (exit t) (exit t)) (h.1.1.1.1.1.0 (exit t) (omega (arith, sizes.two_blocks))) e)).1 refl;
  at_header = λ u v l b e k iv iu. eqb-true (header t l) v (not-false _ (rw (iv, iu) at (none_of (loop_count t) _ (no_edge t u v (past_header t u) (h.1.1.1.1.1.1.0 u b) e) l k)));
}
  where
    sizes : SizesKept t
    sizes = sizes_of t h

    root : RootKept t
    root = root_of t h

    header_at : (l : ℕ) → l < loop_count t → Dec (l ≡ 0) → header t l < block_count t
    header_at l b (yes z) = rw (z, root.header_0) (omega (arith, sizes.two_blocks))
    header_at l b (no ne) = (loop_of_lem t h l (omega arith) b).header_block

    limit_at : (l : ℕ) → l < loop_count t → Dec (l ≡ 0) → 1 ≤ limit t l
    limit_at l b (yes z) = rw (z, root.limit_1) (omega arith)
    limit_at l b (no ne) = (loop_of_lem t h l (omega arith) b).limit_least
