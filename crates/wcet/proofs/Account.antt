-- A whole run, for any certificate and in either direction: where each edge keeps its inequality, and each stay has its visits on the right
-- side of their bound when it ends, the cost after block 0 plus the figure of the last block is on that side of the figure of block 0
-- (`account`). The upper bound and the lower bound are this, in one direction each. Assumes nothing.
use mathlib.Core.Path.{◌≡◌}
use mathlib.Core.Bool.{Bool, true, false}
use mathlib.Core.List.{List, [], ◌∷◌}
use Prim.Native.Nat.{ℕ, suc, ◌≤◌, ◌<◌}
use native.Mathlib.Omega.{arith}
use lib.IntN.{ℤ, pos, ◌+ℤ◌}
use lib.ListN.{length, get_or, take}
use lib.Seq.{take-length}
use Rattle.lists.proofs.Tests.{and-true}
use Rattle.integers.proofs.Direction.{Direction}
use Rattle.wcet.specs.Table.{Routine, block_count, loop_count, loop_of, edge, inside, is_header}
use Rattle.wcet.specs.Shortest.{inequality_by}
use Rattle.wcet.specs.Run.{path, State, start, next, after, run_cost}
use Rattle.wcet.proofs.Nesting.{Nested}
use Rattle.wcet.proofs.Potential.{Certificate, remaining, Sound}
use Rattle.wcet.proofs.Path.{AllSound, at_end, whole_run}
use Rattle.wcet.proofs.Entry.{step_cost, potential_start, weight_cost}

-- the inequality of an edge from u to v, with the numbers of this certificate
abbrev pub keeps : (compare : ℤ → ℤ → Bool) → Routine → Certificate → ℕ → ℕ → Bool
keeps compare t C u v =
    inequality_by compare (is_header t v) (inside t u (loop_of t v)) (step_cost t u v) (C.figure u) (C.figure v) (C.multiplier (loop_of t v)) (C.visits (loop_of t v))

-- from state s along w: where a stay ends, at the next block or with the list, its visits are on the right side of their bound
abbrev pub Ended : (t : Routine) (R : ℤ → ℤ → Type 0) (C : Certificate) → State → List ℕ → Type 0
Ended t R C s w = (k l : ℕ) → k ≤ length w → l < loop_count t → inside t (after t s (take k w)).block l ≡ true → (k < length w → inside t (get_or w k 0) l ≡ false)
    → R (pos 0) (remaining (C.multiplier l) (C.visits l) ((after t s (take k w)).count l))

module _ (t : Routine) (N : Nested t) (R : ℤ → ℤ → Type 0) (O : Direction R) (compare : ℤ → ℤ → Bool) (says : (x y : ℤ) → compare x y ≡ true → R x y)
    (C : Certificate) (holds : (u v : ℕ) → u < block_count t → edge t u v ≡ true → keeps compare t C u v ≡ true) where
  open N use {two_blocks, innermost, target, own, at_header}

  sound : (s : State) (v : ℕ) → s.block < block_count t → edge t s.block v ≡ true
      → ((l : ℕ) → l < loop_count t → inside t s.block l ≡ true → inside t v l ≡ false → R (pos 0) (remaining (C.multiplier l) (C.visits l) (s.count l)))
      → Sound t R C s v (pos (step_cost t s.block v))
  unfolding inequality_by
  sound s v b e left =
      let h : keeps compare t C s.block v ≡ true = holds s.block v b e in
      record {
        loop = innermost v (target s.block v b e);
        own = own;
        enters = λ l k. at_header s.block v l b e k;
        leaves = left;
        plain = λ p. says _ _ (rw p at h);
        back = λ p i. says _ _ (rw (p, i) at h);
        entry = λ p i. says _ _ (rw (p, i) at h);
      }

  all_sound : (w : List ℕ) (s : State) → s.block < block_count t → path t s.block w ≡ true → Ended t R C s w → AllSound t R C (step_cost t) s w
  unfolding path next after
  all_sound [] s b h E = tt
  all_sound (v ∷ w) s b h E =
      let p : (edge t s.block v ≡ true) × (path t v w ≡ true) = and-true _ _ h in (
        sound s v b p.0 (λ l k i o. E 0 l (omega arith) k i (λ _. o)),
        all_sound w (next t s v) (target s.block v b p.0) p.1 (λ k l d m i o. E (suc k) l (omega arith) m i (λ q. o (omega arith))),
      )

  pub account : C.multiplier 0 ≡ 0 → (w : List ℕ) → path t 0 w ≡ true → Ended t R C start w
      → R (pos (run_cost t w) +ℤ C.figure (after t start w).block) (C.figure 0)
  unfolding start
  account z w h E =
      rw (weight_cost t w 0, potential_start t N C z) at
      (whole_run R O t C (step_cost t) w start (all_sound w start (omega arith) h E) (at_end R O t C (step_cost t) (after t start w) last))
    where
      last : (l : ℕ) → l < loop_count t → inside t (after t start w).block l ≡ true → R (pos 0) (remaining (C.multiplier l) (C.visits l) ((after t start w).count l))
      last l b i = rw (take-length w) at (E (length w) l (omega arith) b (rw (take-length w) i) (λ q. absurd (omega arith)))
