-- Where a run starts and what it costs, for any certificate. Assumes nothing.
use mathlib.Core.Path.{◌≡◌, refl, sym, ◌∙◌, ap}
use mathlib.Core.Bool.{Bool, true, false, or_self}
use mathlib.Core.List.{List, [], ◌∷◌}
use Prim.Native.Nat.{ℕ, zero, suc, ◌+◌, ◌<◌}
use lib.Dec.{eqb}
use borrow.Author.Tests.{eqb-true}
use lib.IntN.{pos, +ℤ_idr, zero-*ℤ}
use lib.ListN.{get_or}
use Rattle.lists.specs.Search.{when◌then◌else◌}
use Rattle.integers.proofs.Sums.{sum_zero}
use Rattle.wcet.specs.Table.{Routine, loop_count, loop_of, cost, around, inside}
use Rattle.wcet.specs.Run.{start, run_cost}
use Rattle.wcet.proofs.Potential.{Certificate, remaining, term, potential}
use Rattle.wcet.proofs.Path.{path_weight}
use Rattle.wcet.proofs.Nesting.{Nested}

-- what an edge from u to v adds to a run's cost: the cost of v
abbrev pub step_cost : Routine → ℕ → ℕ → ℕ
step_cost t u v = cost t v

-- the weights along a list are its cost
pub weight_cost : (t : Routine) (w : List ℕ) (u : ℕ) → path_weight (step_cost t) u w ≡ run_cost t w
unfolding path_weight run_cost
weight_cost t [] u = refl
weight_cost t (v ∷ w) u = ap (λ (x : ℕ). cost t v + x) (weight_cost t w v)

-- around loop 0, which is its own parent, is loop 0 alone
pub around_0 : (parents : List ℕ) → get_or parents 0 0 ≡ 0 → (d l : ℕ) → around parents d 0 l ≡ eqb 0 l
unfolding around
around_0 parents root zero l = refl
around_0 parents root (suc d) l = rw (root, around_0 parents root d l) (or_self (eqb 0 l))

module _ (t : Routine) (N : Nested t) where
  -- so block 0 is inside loop 0 only
  pub inside_0 : (l : ℕ) → inside t 0 l ≡ eqb 0 l
  unfolding inside
  inside_0 l = rw (ap (loop_of t) (sym N.loop0_header) ∙ N.own 0 N.some_loop, around_0 t.parents N.loop0_parent (loop_count t) l)

  -- and where loop 0's multiplier is 0, the potential at the start is the figure of block 0
  pub potential_start : (C : Certificate) → C.multiplier 0 ≡ 0 → potential t C start ≡ C.figure 0
  unfolding potential start
  potential_start C z = rw (sum_zero (loop_count t) (term t C 0 start.count) nothing) (+ℤ_idr (C.figure 0))
    where
      go : (l : ℕ) (b : Bool) (c : ℕ) → eqb 0 l ≡ b → (when b then remaining (C.multiplier l) (C.visits l) c else pos 0) ≡ pos 0
      go l true c q = rw (sym (eqb-true 0 l q), z, zero-*ℤ)
      go l false c q = refl

      nothing : (l : ℕ) → l < loop_count t → term t C 0 start.count l ≡ pos 0
      nothing l b = rw (inside_0 l) (go l (eqb 0 l) (start.count l) refl)
