-- 401: the blocks that get a figure include the exit (`exit_has`) and with a block the sources of its edges (`source_has`); so a block gets a
-- figure exactly where it has a path to the exit (`path_figure`, `figure_path`). Assumes nothing.
use mathlib.Core.Path.{◌≡◌, refl, sym, ◌∙◌}
use mathlib.Core.Bool.{Bool, true, false}
use mathlib.Core.List.{List, [], ◌∷◌}
use mathlib.Core.Option.{Option, some}
use Prim.Native.Nat.{ℕ, ◌+◌, ◌≤◌, ◌<◌}
use native.Mathlib.Decide.{ℕ_discrete}
use native.Mathlib.Omega.{arith}
use lib.Dec.{eqb}
use borrow.Author.Tests.{eq-eqb, ne_eqb}
use lib.IntN.{pos, ◌+ℤ◌, ◌-ℤ◌}
use lib.ListN.{length, get_or}
use lib.Signed.{◌≤ℤ◌}
use Rattle.lists.specs.Search.{when◌then◌else◌}
use Rattle.lists.proofs.Tests.{and-true}
use Rattle.wcet.specs.Table.{Routine, block_count, loop_count, exit, cost, loop_of, header, multiplier, edge, inside}
use Rattle.wcet.specs.Run.{path}
use Rattle.wcet.specs.Cycles.{back_edge}
use Rattle.wcet.proofs.Nesting.{Nested}
use Rattle.optimum.specs.Tails.{weight, tail_at}
use Rattle.optimum.specs.Remade.{PathToExit}
use Rattle.optimum.specs.Columns.{figure_by}
use Rattle.optimum.proofs.Local.{Tailed, Ranked, HasFigure}
use Rattle.optimum.proofs.Structure.{inside_whole, stays_inside, target_loop, back_to}
use Rattle.optimum.proofs.Paths.{exit_path, path_on}
use Rattle.optimum.proofs.Tails.{AtLeast, along_paths, tail_forward, tail_back}
use Rattle.optimum.proofs.Filled.{Gives, to_exit, by_header, given, exit_over, header_over, along_turns, final}

module _ (t : Routine) (N : Nested t) (tail : (l x : ℕ) → Option ℕ) (E : Tailed t tail) where
  pub exit_has : HasFigure t tail (exit t)
  unfolding tail_at
  exit_has =
      let o : AtLeast ◌≤ℤ◌ (figure_by t tail (loop_count t) (exit t)) (pos 0) = exit_over t tail (loop_count t) (exit t) 0 N.some_loop i e in
      (o.0, o.1)
    where
      b : exit t < block_count t
      b = omega (arith, N.two_blocks)

      i : inside t (exit t) 0 ≡ true
      i = inside_whole t N (exit t) b

      e : tail 0 (exit t) ≡ some 0
      e = E 0 (exit t) N.some_loop b i ∙ rw (eq-eqb (exit t) (exit t) refl)

  -- by a loop's tail, where the loop's header has one
  pub by_loop : (l x k : ℕ) → 0 < l → l < loop_count t → inside t x l ≡ true → tail l x ≡ some k → HasFigure t tail (header t l) → HasFigure t tail x
  by_loop l x k z m i e p = go (ℕ_discrete x (header t l))
    where
      go : Dec (x ≡ header t l) → HasFigure t tail x
      go (yes q) = rw q p
      go (no ne) =
          let o : AtLeast ◌≤ℤ◌ (figure_by t tail (loop_count t) x) (pos k -ℤ pos (multiplier t l) +ℤ p.0)
          = header_over t tail (loop_count t) l x k p.0 z m i ne e (sym (final t N tail (loop_count t) l z m (omega arith)) ∙ p.1) in
          (o.0, o.1)

  -- back along an edge
  pub source_has : (u v : ℕ) → u < block_count t → edge t u v ≡ true → HasFigure t tail v → HasFigure t tail u
  source_has u v b e p = go (back_edge t u v) refl
    where
      c : v < block_count t
      c = N.target u v b e

      on_from : back_edge t u v ≡ false → (l : ℕ) → l < loop_count t → Gives t tail l v p.0 → HasFigure t tail u
      on_from r l m (to_exit k z q f) =
          let a : AtLeast ◌≤◌ (tail 0 u) (weight t v + k)
          = tail_forward t N tail E 0 u v k N.some_loop b (inside_whole t N u b) e (inside_whole t N v c) r q in
          let o : AtLeast ◌≤ℤ◌ (figure_by t tail (loop_count t) u) (pos a.0) = exit_over t tail (loop_count t) u a.0 N.some_loop (inside_whole t N u b) a.1 in
          (o.0, o.1)
      on_from r l m (by_header k g z i ne q w f) =
          let j : inside t u l ≡ true = stays_inside t N u v l b e m i ne in
          let a : AtLeast ◌≤◌ (tail l u) (weight t v + k) = tail_forward t N tail E l u v k m b j e i r q in
          by_loop l u a.0 z m j a.1 (g, final t N tail (loop_count t) l z m (omega arith) ∙ w)

      go : (r : Bool) → back_edge t u v ≡ r → HasFigure t tail u
      go false r = let g : (l : ℕ) × (l < loop_count t) × Gives t tail l v p.0 = given t tail (loop_count t) v p.0 p.1 in on_from r g.0 g.1 g.2
      go true r =
          let q : (0 < loop_of t v) × (header t (loop_of t v) ≡ v) × (inside t u (loop_of t v) ≡ true) = back_to t N u v b e r in
          let m : loop_of t v < loop_count t = target_loop t N u v b e in
          let a : AtLeast ◌≤◌ (tail (loop_of t v) u) (cost t (header t (loop_of t v))) = tail_back t N tail E (loop_of t v) u q.0 m b q.2 (rw q.1 e) in
          by_loop (loop_of t v) u a.0 q.0 m q.2 a.1 (rw q.1 p)

  -- a block with a path to the exit gets a figure
  along : (w : List ℕ) (x : ℕ) → x < block_count t → path t x w ≡ true → get_or (x ∷ w) (length w) 0 ≡ exit t → HasFigure t tail x
  unfolding path
  along [] x b f e = rw e exit_has
  along (v ∷ w) x b f e =
      let q : (edge t x v ≡ true) × (path t v w ≡ true) = and-true _ _ f in
      source_has x v b q.0 (along w v (N.target x v b q.0) q.1 e)

  pub path_figure : (x : ℕ) → x < block_count t → PathToExit t x → HasFigure t tail x
  path_figure x b p = along p.blocks x b p.follows p.at_exit

  module _ (K : Ranked t) where
    -- by a tail, where there is a path from where it leads
    tail_path : (l x k : ℕ) → l < loop_count t → x < block_count t → inside t x l ≡ true → tail l x ≡ some k
        → PathToExit t (when eqb l 0 then exit t else header t l) → PathToExit t x
    tail_path l x k m b i e p =
        along_paths t N K tail E l m (λ x k. PathToExit t x)
        (λ x b i z q. rw q (exit_path t))
        (λ x b i z d. path_on t x (header t l) d (rw (ne_eqb l 0 z) at p))
        (λ x v a b i d s r q. path_on t x v d q) x k b i e

    -- and one that gets a figure has a path to the exit
    pub figure_path : (x : ℕ) → x < block_count t → HasFigure t tail x → PathToExit t x
    figure_path x b p =
        along_turns t N tail (λ d x f. PathToExit t x)
        (λ d x k z b e. tail_path 0 x k N.some_loop b (inside_whole t N x b) e (exit_path t))
        (λ d l x k g z n m b i ne e q. tail_path l x k m b i e (rw (ne_eqb l 0 (λ s. omega arith)) q))
        (loop_count t) x p.0 (omega arith) b p.1
