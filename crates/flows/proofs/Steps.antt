-- A sum over the program's edges, each as often as a path takes it, is the sum over the path's steps (`sum_taken`). Assumes nothing.
use mathlib.Core.Path.{◌≡◌, refl, sym, ◌∙◌, ap, ap₂, fun_ext}
use mathlib.Core.Bool.{Bool, true, false, not, ◌&&◌, ◌||◌}
use mathlib.Core.List.{List, [], ◌∷◌}
use Prim.Native.Nat.{ℕ, ◌+◌, ◌*◌, ◌/◌, ◌%◌, ◌≤◌, ◌<◌}
use native.Mathlib.Omega.{arith}
use lib.Dec.{eqb}
use borrow.Author.Tests.{eqb-true, eq-eqb, ne_eqb}
use lib.IntN.{ℤ, pos, ◌+ℤ◌, ◌*ℤ◌, zero-*ℤ}
use Rattle.lists.specs.Search.{when◌then◌else◌}
use Rattle.lists.proofs.Tests.{and-true}
use Rattle.integers.proofs.Laws.{ints, sum, times}
use Rattle.wcet.specs.Table.{Routine, block_count, missing, first, second, some_edge, edge}
use Rattle.wcet.specs.Run.{path}
use Rattle.wcet.proofs.Nesting.{Nested}
use Rattle.mps.specs.Program.{numbers_from, source, target, edges_of}
use Rattle.flows.specs.Flow.{edge_taken, taken}
use Rattle.flows.proofs.Totals.{total, total_plus, total_zero, total_keep, total_only}

-- what f gives for each step from u along w, added up
unfoldable pub steps : (ℕ → ℕ → ℤ) → ℕ → List ℕ → ℤ
steps f u [] = pos 0
steps f u (v ∷ w) = f u v +ℤ steps f v w

-- edge k is one from u to v
record EdgeFrom (t : Routine) (u v k : ℕ) : Type 0 where
  from : source k ≡ u
  to : target t k ≡ v
  there : not (eqb v missing) ≡ true

taken_edge : (t : Routine) (u v : ℕ) → edge t u v ≡ true → EdgeFrom t u v (edge_taken t u v)
unfolding edge some_edge
taken_edge t u v h = go (not (eqb (first t u) missing) && eqb (first t u) v) refl h
  where
    even : 2 * u / 2 ≡ u
    even = omega arith

    odd : (2 * u + 1) / 2 ≡ u
    odd = omega arith

    even_rest : 2 * u % 2 ≡ 0
    even_rest = omega arith

    odd_rest : (2 * u + 1) % 2 ≡ 1
    odd_rest = omega arith

    present : (x : ℕ) → (not (eqb x missing) && eqb x v) ≡ true → (x ≡ v) × (not (eqb v missing) ≡ true)
    present x e =
        let q : (not (eqb x missing) ≡ true) × (eqb x v ≡ true) = and-true _ _ e in
        let same : x ≡ v = eqb-true x v q.1 in
        (same, rw same at q.0)

    go : (b : Bool) → (not (eqb (first t u) missing) && eqb (first t u) v) ≡ b → (b || (not (eqb (second t u) missing) && eqb (second t u) v)) ≡ true
        → EdgeFrom t u v (when b then 2 * u else 2 * u + 1)
    go true e h = let q = present (first t u) e in record { from = even; to = rw (even_rest, even) q.0; there = q.1 }
    go false e h = let q = present (second t u) h in record { from = odd; to = rw (odd_rest, odd) q.0; there = q.1 }

module _ (t : Routine) where
  -- of all edges, one
  one_edge : (g : ℕ → ℤ) (u v k : ℕ) → u < block_count t → EdgeFrom t u v k → total (λ e. when eqb k e then g e else pos 0) (edges_of t) ≡ g k
  unfolding edges_of
  one_edge g u v k b E =
      total_keep (λ e. when eqb k e then g e else pos 0) present (numbers_from 0 (2 * block_count t))
      ∙ total_only (λ e. when present e then (when eqb k e then g e else pos 0) else pos 0) k (2 * block_count t) 0 (omega arith) (omega (arith, E.from)) other
      ∙ rw (E.to, E.there, eq-eqb k k refl)
    where
      present : ℕ → Bool
      present e = not (eqb (target t e) missing)

      none : (b : Bool) → (when b then pos 0 else pos 0) ≡ pos 0
      none true = refl
      none false = refl

      other : (i : ℕ) → 0 ≤ i → i < 0 + 2 * block_count t → (i ≡ k → ⊥) → (when present i then (when eqb k i then g i else pos 0) else pos 0) ≡ pos 0
      other i c d ne = rw (ne_eqb k i (λ e. ne (sym e))) (none (present i))

  times_counted : (b : Bool) (n : ℕ) (z : ℤ) → pos ((when b then 1 else 0) + n) *ℤ z ≡ (when b then z else pos 0) +ℤ pos n *ℤ z
  times_counted true n z = omega (ints, times (1 + n) z, times n z, sum z (pos n *ℤ z))
  times_counted false n z = omega (ints, times (0 + n) z, times n z, sum (pos 0) (pos n *ℤ z))

  pub sum_taken : Nested t → (f : ℕ → ℕ → ℤ) (w : List ℕ) (u : ℕ) → u < block_count t → path t u w ≡ true
      → total (λ e. pos (taken t u w e) *ℤ f (source e) (target t e)) (edges_of t) ≡ steps f u w
  unfolding taken steps path
  sum_taken N f [] u b h = total_zero (λ e. pos 0 *ℤ f (source e) (target t e)) (λ e. zero-*ℤ (f (source e) (target t e))) (edges_of t)
  sum_taken N f (v ∷ w) u b h =
      let q : (edge t u v ≡ true) × (path t v w ≡ true) = and-true _ _ h in
      let E : EdgeFrom t u v (edge_taken t u v) = taken_edge t u v q.0 in
      ap (λ (g : ℕ → ℤ). total g (edges_of t)) (fun_ext (λ e. times_counted (eqb (edge_taken t u v) e) (taken t v w e) (f (source e) (target t e))))
      ∙ total_plus (λ e. when eqb (edge_taken t u v) e then f (source e) (target t e) else pos 0) (λ e. pos (taken t v w e) *ℤ f (source e) (target t e)) (edges_of t)
      ∙ ap₂ ◌+ℤ◌ (one_edge (λ e. f (source e) (target t e)) u v (edge_taken t u v) b E ∙ ap₂ f E.from E.to) (sum_taken N f w v (N.target u v b q.0) q.1)
