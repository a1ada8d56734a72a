-- Locally made columns keep the inequality of every edge, with 0 at the exit (`feasible`); and no figures that keep the inequalities with
-- the made multipliers, with 0 at the exit, are below the made ones (`smallest`): a tail is the weight of a path, along which such figures
-- fall, and the paths are followed by rank. Assumes nothing.
use mathlib.Core.Path.{◌≡◌, refl, sym, ◌∙◌, ap}
use mathlib.Core.Bool.{Bool, true, false, not, ◌&&◌, true≢false}
use mathlib.Core.List.{List}
use mathlib.Core.Logic.{inl, inr, ◌≢◌}
use mathlib.Core.Option.{some}
use Prim.Native.Nat.{ℕ, zero, suc, ◌+◌, ◌*◌, ◌-◌, ◌≤◌, ◌<◌}
use native.Mathlib.Omega.{arith}
use lib.Dec.{eqb}
use borrow.Author.Tests.{eq-eqb, ne_eqb}
use lib.IntN.{ℤ, pos, ◌+ℤ◌, ◌-ℤ◌, ◌*ℤ◌}
use lib.ListN.{get_or}
use lib.Signed.{le_z, ◌≤ℤ◌}
use Rattle.lists.specs.Search.{when◌then◌else◌}
use Rattle.integers.proofs.Laws.{ints, sum, diff, le_z_le}
use Rattle.wcet.specs.Table.{Routine, block_count, loop_count, exit, cost, loop_of, figure, header, limit, multiplier, some_edge, edge, inside, is_header}
use Rattle.wcet.specs.Rules.{inequality, edge_holds}
use Rattle.wcet.specs.Cycles.{back_edge}
use Rattle.wcet.proofs.Nesting.{Nested}
use Rattle.optimum.specs.Remade.{with_columns, Feasible, SmallestFigures}
use Rattle.optimum.specs.Tails.{weight}
use Rattle.optimum.proofs.Local.{FigureFrom, LocallyMade, Ranked}
use Rattle.optimum.proofs.Structure.{inside_whole, inside_highest, stays_inside, target_loop, back_to}
use Rattle.optimum.proofs.Tails.{AtLeast, Comes, ends, back, on, comes, along_paths, tail_forward, tail_back}

-- ---- the inequality of a forward edge, by its weight, and of a back edge

module _ (t : Routine) (u : ℕ) where
  pub forward_test : (v : ℕ) → 1 ≤ limit t (loop_of t v) → back_edge t u v ≡ false → edge_holds t u v ≡ le_z (pos (weight t v)) (figure t u -ℤ figure t v)
  unfolding inequality edge_holds back_edge weight
  forward_test v one r = go (is_header t v) (inside t u l) (cost t v) (figure t u -ℤ figure t v) r
    where
      l : ℕ
      l = loop_of t v

      less : pos (limit t l) -ℤ pos 1 ≡ pos (limit t l - 1)
      less = omega (ints, diff (pos (limit t l)) (pos 1))

      go : (h i : Bool) (c : ℕ) (d : ℤ) → (h && i) ≡ false
          → (when not h then le_z (pos c) d else when i then le_z (pos c) (d +ℤ pos (multiplier t l)) else le_z (pos c +ℤ pos (multiplier t l) *ℤ (pos (limit t l) -ℤ pos 1)) d)
          ≡ le_z (pos (when h then c + multiplier t l * (limit t l - 1) else c)) d
      go false i c d r = refl
      go true true c d r = absurd (true≢false r)
      go true false c d r = rw less

  pub back_test : (l : ℕ) → loop_of t (header t l) ≡ l → inside t u l ≡ true
      → edge_holds t u (header t l) ≡ le_z (pos (cost t (header t l))) (figure t u -ℤ figure t (header t l) +ℤ pos (multiplier t l))
  unfolding inequality edge_holds
  back_test l own i = rw (own, eq-eqb (header t l) (header t l) refl, i)

le_le_z : {a b : ℤ} → a ≤ℤ b → le_z a b ≡ true
le_le_z {a} {b} h = omega ints

module _ (t : Routine) (N : Nested t) (L : LocallyMade t) where
  open N use {limit_least}
  open L use {tail, tails, to_exit, by_back_edge, from}

  -- the figures fall by no less than an edge's weight
  pub falls_forward : (u v : ℕ) → u < block_count t → edge t u v ≡ true → back_edge t u v ≡ false → pos (weight t v) ≤ℤ (figure t u -ℤ figure t v)
  falls_forward u v b e r = go (from v c)
    where
      c : v < block_count t
      c = N.target u v b e

      go : FigureFrom t tail v → pos (weight t v) ≤ℤ (figure t u -ℤ figure t v)
      go (inl p) =
          let a : AtLeast ◌≤◌ (tail 0 u) (weight t v + p.0)
          = tail_forward t N tail tails 0 u v p.0 N.some_loop b (inside_whole t N u b) e (inside_whole t N v c) r p.1 in
          let f : figure t v ≡ pos p.0 = p.2 in
          omega (ints, to_exit u a.0 b a.1, diff (figure t u) (figure t v))
      go (inr p) =
          let m : ℤ = pos (multiplier t p.0) in
          let h : ℤ = figure t (header t p.0) in
          let i : inside t u p.0 ≡ true = stays_inside t N u v p.0 b e p.3 p.4 p.5 in
          let a : AtLeast ◌≤◌ (tail p.0 u) (weight t v + p.1) = tail_forward t N tail tails p.0 u v p.1 p.3 b i e p.4 r p.6 in
          let f : figure t v ≡ pos p.1 -ℤ m +ℤ h = p.7 in
          let g : (pos a.0 -ℤ m +ℤ h) ≤ℤ figure t u = by_back_edge u p.0 a.0 b p.2 p.3 i a.1 in
          omega (ints, diff (figure t u) (figure t v), diff (pos p.1) m, diff (pos a.0) m, sum (pos p.1 -ℤ m) h, sum (pos a.0 -ℤ m) h)

  -- a back edge to the header of loop l makes up for its cost by l's multiplier
  pub falls_back : (u l : ℕ) → 0 < l → l < loop_count t → u < block_count t → edge t u (header t l) ≡ true → inside t u l ≡ true
      → pos (cost t (header t l)) ≤ℤ (figure t u -ℤ figure t (header t l) +ℤ pos (multiplier t l))
  falls_back u l z m b e i =
      let a : AtLeast ◌≤◌ (tail l u) (cost t (header t l)) = tail_back t N tail tails l u z m b i e in
      let k : ℤ = pos a.0 -ℤ pos (multiplier t l) in
      let d : ℤ = figure t u -ℤ figure t (header t l) in
      omega (ints, by_back_edge u l a.0 b z m i a.1, diff (figure t u) (figure t (header t l)), sum d (pos (multiplier t l)), diff (pos a.0) (pos (multiplier t l)), sum k (figure t (header t l)))

  holds : (u v : ℕ) → u < block_count t → edge t u v ≡ true → edge_holds t u v ≡ true
  holds u v b e = go (back_edge t u v) refl
    where
      m : loop_of t v < loop_count t
      m = target_loop t N u v b e

      go : (r : Bool) → back_edge t u v ≡ r → edge_holds t u v ≡ true
      go false r = rw (forward_test t u v (limit_least (loop_of t v) m) r) (le_le_z (falls_forward u v b e r))
      go true r =
          let p : (0 < loop_of t v) × (header t (loop_of t v) ≡ v) × (inside t u (loop_of t v) ≡ true) = back_to t N u v b e r in
          rw p.1 at (back_test t u (loop_of t v) (N.own (loop_of t v) m) p.2 ∙ le_le_z (falls_back u (loop_of t v) p.0 m b (rw p.1 e) p.2))

  -- a tail at the exit is loop 0's, and 0
  exit_tail : (l k : ℕ) → l < loop_count t → inside t (exit t) l ≡ true → tail l (exit t) ≡ some k → (l ≡ 0) × (0 ≡ k)
  exit_tail l k m i e = go (comes t l (tail l) (exit t) k (sym (tails l (exit t) m (omega (arith, N.two_blocks)) i) ∙ e))
    where
      go : Comes t l (tail l) (exit t) k → (l ≡ 0) × (0 ≡ k)
      go (ends z _ q) = (z, q)
      go (back _ d _) = absurd (N.exit_ends (header t l) d)
      go (on v _ d _ _ _ _) = absurd (N.exit_ends v d)

  at_exit : figure t (exit t) ≡ pos 0
  at_exit = go (from (exit t) b)
    where
      b : exit t < block_count t
      b = omega (arith, N.two_blocks)

      go : FigureFrom t tail (exit t) → figure t (exit t) ≡ pos 0
      go (inl p) = p.2 ∙ ap pos (sym (exit_tail 0 p.0 N.some_loop (inside_whole t N (exit t) b) p.1).1)
      go (inr p) = absurd (omega (arith, p.2, (exit_tail p.0 p.1 p.3 p.4 p.6).0))

  pub feasible : Feasible t
  feasible = record { holds = holds; at_exit = at_exit }

-- ---- the smallest

module _ (t : Routine) (N : Nested t) (fs : List ℤ) (F : Feasible (with_columns t fs t.multipliers)) where
  open N use {limit_least}

  abbrev other : ℕ → ℤ
  other u = get_or fs u (pos 0)

  -- these figures, too, fall by an edge's weight
  other_forward : (u v : ℕ) → u < block_count t → edge t u v ≡ true → back_edge t u v ≡ false → pos (weight t v) ≤ℤ (other u -ℤ other v)
  unfolding edge some_edge back_edge weight inside
  other_forward u v b e r =
      le_z_le _ _ (sym (forward_test (with_columns t fs t.multipliers) u v (limit_least (loop_of t v) (target_loop t N u v b e)) r) ∙ F.holds u v b e)

  other_back : (u l : ℕ) → l < loop_count t → u < block_count t → edge t u (header t l) ≡ true → inside t u l ≡ true
      → pos (cost t (header t l)) ≤ℤ (other u -ℤ other (header t l) +ℤ pos (multiplier t l))
  unfolding edge some_edge inside
  other_back u l m b e i = le_z_le _ _ (sym (back_test (with_columns t fs t.multipliers) u l (N.own l m) i) ∙ F.holds u (header t l) b e)

  module _ (L : LocallyMade t) (K : Ranked t) where
    open L use {tail, tails, from}

    -- where a tail of loop l leads: to the exit's 0, or to the figure of l's header, less l's multiplier
    abbrev beyond : ℕ → ℤ
    beyond l = when eqb l 0 then pos 0 else other (header t l) -ℤ pos (multiplier t l)

    -- the figures fall along a path by its weight
    tail_least : (l x k : ℕ) → l < loop_count t → x < block_count t → inside t x l ≡ true → tail l x ≡ some k → (pos k +ℤ beyond l) ≤ℤ other x
    tail_least l x k m =
        along_paths t N K tail tails l m (λ x k. (pos k +ℤ beyond l) ≤ℤ other x)
        (λ x b i z e. let w : other (exit t) ≡ pos 0 = F.at_exit in rw (z, e, w) (omega ints))
        (λ x b i z d.
        rw (ne_eqb l 0 z)
        (omega (ints, other_back x l m b d i, diff (other x) (other h), sum (other x -ℤ other h) (pos (multiplier t l)), diff (other h) (pos (multiplier t l)), sum (pos (cost t h)) (other h -ℤ pos (multiplier t l)))))
        (λ x v a b i d s r p. omega (ints, p, other_forward x v b d r, diff (other x) (other v), sum (pos (weight t v + a)) (beyond l), sum (pos a) (beyond l)))
        x k
      where
        h : ℕ
        h = header t l

    -- x's figure is no more than another, if that is so of the headers that it can come from
    at_block : (x : ℕ) → x < block_count t
        → ((l : ℕ) → l < loop_count t → inside t x l ≡ true → (x ≡ header t l → ⊥) → figure t (header t l) ≤ℤ other (header t l)) → figure t x ≤ℤ other x
    at_block x b headers = go (from x b)
      where
        go : FigureFrom t tail x → figure t x ≤ℤ other x
        go (inl p) =
            let a : (pos p.0 +ℤ pos 0) ≤ℤ other x = tail_least 0 x p.0 N.some_loop b (inside_whole t N x b) p.1 in
            omega (ints, p.2, sum (pos p.0) (pos 0))
        go (inr p) =
            let k : ℤ = pos p.1 in
            let m : ℤ = pos (multiplier t p.0) in
            let h : ℕ = header t p.0 in
            let a : (k +ℤ (other h -ℤ m)) ≤ℤ other x = rw (ne_eqb p.0 0 (λ z. omega (arith, p.2))) at (tail_least p.0 x p.1 p.3 b p.4 p.6) in
            let f : figure t x ≡ k -ℤ m +ℤ figure t h = p.7 in
            omega (ints, headers p.0 p.3 p.4 p.5, diff (other h) m, sum k (other h -ℤ m), diff k m, sum (k -ℤ m) (figure t h))

    -- a header's figure comes from loops below its own
    at_header : (r l : ℕ) → l < r → l < loop_count t → figure t (header t l) ≤ℤ other (header t l)
    at_header zero l h m = absurd (omega arith)
    at_header (suc r) l h m =
        at_block (header t l) (N.header_block l m)
        (λ k n i ne. at_header r k (let d : k ≢ l = λ q. ne (ap (header t) (sym q)) in omega (arith, inside_highest t N (header t l) k i, N.own l m)) n)

    pub least : (u : ℕ) → u < block_count t → figure t u ≤ℤ other u
    least u b = at_block u b (λ l m i ne. at_header (suc l) l (omega arith) m)

pub smallest : (t : Routine) → Nested t → LocallyMade t → Ranked t → SmallestFigures t
smallest t N L K = record { feasible = feasible t N L; smallest = λ fs F. least t N fs F L K }
