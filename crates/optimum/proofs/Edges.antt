-- The remade figures as equations between neighbouring blocks: the exit's is 0 (`figure_exit`), and any other block's is the greatest that
-- one of its edges asks for (`figure_most`, `figure_attained`). Assumes nothing.
use mathlib.Core.Path.{◌≡◌, refl, sym, ◌∙◌}
use mathlib.Core.Bool.{Bool, true, false}
use mathlib.Core.Logic.{inl, inr}
use Prim.Native.Nat.{ℕ, ◌<◌}
use borrow.Author.Tests.{eq-eqb}
use lib.IntN.{ℤ, pos, ◌+ℤ◌, ◌-ℤ◌}
use lib.ListN.{get_or}
use lib.Signed.{◌≤ℤ◌}
use Rattle.lists.specs.Search.{when◌then◌else◌}
use Rattle.integers.proofs.Laws.{ints, sum, diff}
use Rattle.wcet.specs.Table.{Routine, block_count, exit, cost, loop_of, figure, header, multiplier, some_edge, edge, inside}
use Rattle.wcet.specs.Cycles.{back_edge, undeclared_loop}
use Rattle.wcet.proofs.Nesting.{Nested}
use Rattle.optimum.specs.Remade.{PathToExit}
use Rattle.optimum.specs.Tails.{weight}
use Rattle.optimum.specs.Columns.{remade_multipliers, remultiplied, remade_figures, remade}
use Rattle.optimum.proofs.Local.{FigureFrom, LocallyMade}
use Rattle.optimum.proofs.Structure.{inside_whole, target_loop, back_to}
use Rattle.optimum.proofs.Tails.{Comes, ends, back, on, comes}
use Rattle.optimum.proofs.Figures.{falls_forward, falls_back, feasible}
use Rattle.optimum.proofs.Remade.{remade_nested, remade_local}

-- what the edge from x to v asks of x's figure, by the remade columns
unfoldable pub asks : Routine → ℕ → ℕ → ℤ
asks t x v =
    when back_edge t x v
    then (pos (cost t v) -ℤ pos (get_or (remade_multipliers t) (loop_of t v) 0)) +ℤ get_or (remade_figures t) v (pos 0)
    else pos (weight (remultiplied t) v) +ℤ get_or (remade_figures t) v (pos 0)

-- ---- by any locally made columns

-- the same by t's own columns, given whether the edge is a back edge
abbrev own_asks : Routine → Bool → ℕ → ℤ
own_asks t r v = when r then (pos (cost t v) -ℤ pos (multiplier t (loop_of t v))) +ℤ figure t v else pos (weight t v) +ℤ figure t v

module _ (t : Routine) (N : Nested t) (L : LocallyMade t) where
  open L use {tail, tails, to_exit, by_back_edge, from}

  own_most : (x v : ℕ) → x < block_count t → edge t x v ≡ true → own_asks t (back_edge t x v) v ≤ℤ figure t x
  own_most x v b e = go (back_edge t x v) refl
    where
      m : ℤ
      m = pos (multiplier t (loop_of t v))

      go : (r : Bool) → back_edge t x v ≡ r → own_asks t r v ≤ℤ figure t x
      go false r = omega (ints, falls_forward t N L x v b e r, diff (figure t x) (figure t v), sum (pos (weight t v)) (figure t v))
      go true r =
          let p : (0 < loop_of t v) × (header t (loop_of t v) ≡ v) × (inside t x (loop_of t v) ≡ true) = back_to t N x v b e r in
          let f : pos (cost t v) ≤ℤ (figure t x -ℤ figure t v +ℤ m) = rw p.1 at (falls_back t N L x (loop_of t v) p.0 (target_loop t N x v b e) b (rw p.1 e) p.2) in
          omega (ints, diff (figure t x) (figure t v), sum (figure t x -ℤ figure t v) m, diff (pos (cost t v)) m, sum (pos (cost t v) -ℤ m) (figure t v))

  -- an edge that asks for no less than x's figure
  abbrev Asked : ℕ → Type 0
  Asked x = (v : ℕ) × (edge t x v ≡ true) × (figure t x ≤ℤ own_asks t (back_edge t x v) v)

  asked : (x : ℕ) → x < block_count t → (x ≡ exit t → ⊥) → Asked x
  asked x b ne = go (from x b)
    where
      go : FigureFrom t tail x → Asked x
      go (inl p) = by (comes t 0 (tail 0) x p.0 (sym (tails 0 x N.some_loop b (inside_whole t N x b)) ∙ p.1))
        where
          by : Comes t 0 (tail 0) x p.0 → Asked x
          by (ends z q w) = absurd (ne q)
          by (back z d w) = absurd (z refl)
          by (on v a d s r e w) =
              (v, d, rw r (omega (ints, p.2, to_exit v a (N.target x v b d) e, sum (pos (weight t v)) (figure t v))))
      go (inr p) = by (comes t l (tail l) x p.1 (sym (tails l x p.3 b p.4) ∙ p.6))
        where
          l : ℕ
          l = p.0

          h : ℕ
          h = header t l

          m : ℤ
          m = pos (multiplier t l)

          f : figure t x ≡ pos p.1 -ℤ m +ℤ figure t h
          f = p.7

          by : Comes t l (tail l) x p.1 → Asked x
          by (ends z q w) = absurd (ne q)
          by (back z d w) =
              let r : back_edge t x h ≡ true = unfold back_edge in rw (N.own l p.3, eq-eqb h h refl, p.4) in
              (h, d, rw (r, N.own l p.3, w) (omega (ints, f)))
          by (on v a d s r e w) =
              let g : (pos a -ℤ m +ℤ figure t h) ≤ℤ figure t v = by_back_edge v l a (N.target x v b d) p.2 p.3 s e in
              (v, d, rw r (omega (ints, f, diff (pos p.1) m, sum (pos p.1 -ℤ m) (figure t h), diff (pos a) m, sum (pos a -ℤ m) (figure t h), sum (pos (weight t v)) (figure t v))))

  own_attained : (x : ℕ) → x < block_count t → (x ≡ exit t → ⊥) → (v : ℕ) × (edge t x v ≡ true) × (figure t x ≡ own_asks t (back_edge t x v) v)
  own_attained x b ne =
      let a : Asked x = asked x b ne in
      (a.0, a.1, omega (ints, a.2, own_most x a.0 b a.1))

-- ---- by the remade columns

module _ (t : Routine) (N : Nested t) (declared : undeclared_loop t ≡ false) (paths : (x : ℕ) → x < block_count t → PathToExit t x) where
  pub figure_exit : get_or (remade_figures t) (exit t) (pos 0) ≡ pos 0
  unfolding remade
  figure_exit = (feasible (remade t) (remade_nested t N declared) (remade_local t N declared paths)).at_exit

  pub figure_most : (x v : ℕ) → x < block_count t → edge t x v ≡ true → asks t x v ≤ℤ get_or (remade_figures t) x (pos 0)
  unfolding remade asks weight edge some_edge back_edge inside
  figure_most = own_most (remade t) (remade_nested t N declared) (remade_local t N declared paths)

  pub figure_attained : (x : ℕ) → x < block_count t → (x ≡ exit t → ⊥)
      → (v : ℕ) × (edge t x v ≡ true) × (get_or (remade_figures t) x (pos 0) ≡ asks t x v)
  unfolding remade asks weight edge some_edge back_edge inside
  figure_attained = own_attained (remade t) (remade_nested t N declared) (remade_local t N declared paths)
