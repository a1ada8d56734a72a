-- A rule on edges, by the two successors of a block. Assumes nothing.
use mathlib.Core.Path.{◌≡◌, refl}
use mathlib.Core.Bool.{Bool, true, false, not, ◌||◌, or-true}
use Prim.Native.Nat.{ℕ, ◌^◌}
use native.Mathlib.Decide.{ℕ_discrete}
use borrow.Author.Tests.{eq-eqb, ne_eqb}
use lib.Dec.{ltb}
use lib.IntN.{pos, neg_ℤ}
use lib.Signed.{lt_z}
use Rattle.wcet.specs.Table.{Routine, missing, block_count, loop_count, cost, loop_of, first, second, figure, some_edge}
use Rattle.wcet.specs.Rules.{block_wrong}
use Rattle.nesting.specs.Columns.{of_edge}

module _ (t : Routine) (u : ℕ) (p : ℕ → Bool) where
  pub by_first : of_edge (first t u) p ≡ true → some_edge t u p ≡ true
  unfolding some_edge
  by_first e = rw e

  pub by_second : of_edge (second t u) p ≡ true → some_edge t u p ≡ true
  unfolding some_edge
  by_second e = rw e (or-true (of_edge (first t u) p))

  pub by_neither : of_edge (first t u) p ≡ false → of_edge (second t u) p ≡ false → some_edge t u p ≡ false
  unfolding some_edge
  by_neither e q = rw (e, q)

  -- two tests that agree at the successors that are present
  pub edges_ext : (q : ℕ → Bool) → ((first t u ≡ missing → ⊥) → p (first t u) ≡ q (first t u)) → ((second t u ≡ missing → ⊥) → p (second t u) ≡ q (second t u))
      → some_edge t u p ≡ some_edge t u q
  unfolding some_edge
  edges_ext q f s = rw (at (first t u) f (ℕ_discrete (first t u) missing), at (second t u) s (ℕ_discrete (second t u) missing))
    where
      at : (v : ℕ) → ((v ≡ missing → ⊥) → p v ≡ q v) → Dec (v ≡ missing) → of_edge v p ≡ of_edge v q
      at v h (yes e) = rw (eq-eqb v missing e)
      at v h (no ne) = rw (ne_eqb v missing ne) (h ne)

-- 203, of a block's values
pub block_rule : (t : Routine) (u : ℕ)
    → block_wrong t u
    ≡ (ltb 1000000 (cost t u) || not (ltb (loop_of t u) (loop_count t)) || (of_edge (first t u) (λ v. not (ltb v (block_count t))) || of_edge (second t u) (λ v. not (ltb v (block_count t)))) || (lt_z (figure t u) (neg_ℤ (pos (2 ^ 60))) || lt_z (pos (2 ^ 60)) (figure t u)))
unfolding block_wrong some_edge
block_rule t u = refl
