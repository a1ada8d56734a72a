-- The loops around a block, of which loop 0 is one and the innermost the highest; and where a back edge leads, and a forward edge.
-- Assumes nothing.
use mathlib.Core.Path.{◌≡◌, refl, sym, ◌∙◌, ap}
use mathlib.Core.Bool.{Bool, true, false, ◌||◌, or-true, true≢false}
use Prim.Native.Nat.{ℕ, zero, suc, ◌≤◌, ◌<◌}
use native.Mathlib.Decide.{ℕ_discrete, dec_le}
use native.Mathlib.Omega.{arith}
use lib.Dec.{eqb}
use borrow.Author.Tests.{eqb-true, eq-eqb}
use lib.ListN.{get_or-eq_default}
use Rattle.lists.proofs.Tests.{and-true}
use Rattle.wcet.specs.Table.{Routine, block_count, loop_count, loop_of, parent, header, edge, around, inside, is_header}
use Rattle.wcet.specs.Cycles.{back_edge}
use Rattle.wcet.proofs.Nesting.{Nested}
use Rattle.wcet.proofs.Around.{around_above, around_trans, header_of}

module _ (t : Routine) (N : Nested t) where
  below : (l : ℕ) → 0 < l → parent t l < l
  below l z = go (dec_le (loop_count t) l)
    where
      go : Dec (loop_count t ≤ l) → parent t l < l
      go (yes h) = rw (get_or-eq_default t.parents 0 h) z
      go (no h) = N.parent_below l z (omega arith)

  -- loop 0 is around every loop
  around_whole : (d l : ℕ) → l ≤ d → around t.parents d l 0 ≡ true
  unfolding around
  around_whole zero l h = eq-eqb l 0 (omega arith)
  around_whole (suc d) l h = go (ℕ_discrete l 0) (λ b. around_whole d (parent t l) b)
    where
      go : Dec (l ≡ 0) → (parent t l ≤ d → around t.parents d (parent t l) 0 ≡ true) → (eqb l 0 || around t.parents d (parent t l) 0) ≡ true
      go (yes z) rest = rw (eq-eqb l 0 z)
      go (no ne) rest = rw (rest (omega (arith, below l (omega arith)))) (or-true (eqb l 0))

  pub inside_whole : (x : ℕ) → x < block_count t → inside t x 0 ≡ true
  unfolding inside
  inside_whole x b = around_whole (loop_count t) (loop_of t x) (omega (arith, N.innermost x b))

  -- a block's innermost loop is the highest around it
  pub outside_above : (x l : ℕ) → loop_of t x < l → inside t x l ≡ false
  unfolding inside
  outside_above x l h = around_above t.parents N.loop0_parent below (loop_count t) (loop_of t x) l h

  pub inside_highest : (x l : ℕ) → inside t x l ≡ true → l ≤ loop_of t x
  inside_highest x l i = go (dec_le l (loop_of t x))
    where
      go : Dec (l ≤ loop_of t x) → l ≤ loop_of t x
      go (yes h) = h
      go (no h) = absurd (true≢false (sym i ∙ outside_above x l (omega arith)))

  -- a block inside a loop whose header is inside l is inside l
  pub inside_trans : (x k l : ℕ) → x < block_count t → k < loop_count t → inside t x k ≡ true → inside t (header t k) l ≡ true → inside t x l ≡ true
  unfolding inside
  inside_trans x k l b c i j =
      around_trans t.parents N.loop0_parent below (loop_count t) (loop_of t x) k l (N.innermost x b) i (rw (N.own k c) at j)

  -- a loop around an edge's target, of which the target is not the header, is around its source (207)
  pub stays_inside : (u v l : ℕ) → u < block_count t → edge t u v ≡ true → l < loop_count t → inside t v l ≡ true → (v ≡ header t l → ⊥) → inside t u l ≡ true
  stays_inside u v l b e m i ne = go (inside t u l) refl
    where
      go : (x : Bool) → inside t u l ≡ x → x ≡ true
      go true q = refl
      go false q = absurd (ne (sym (N.at_header u v l b e m i q)))

-- ---- back edges and forward edges

module _ (t : Routine) (N : Nested t) (u v : ℕ) (b : u < block_count t) (e : edge t u v ≡ true) where
  pub target_loop : loop_of t v < loop_count t
  target_loop = N.innermost v (N.target u v b e)

  -- a back edge leads to the header of a loop around its source, and that is not loop 0 (206)
  pub back_to : back_edge t u v ≡ true → (0 < loop_of t v) × (header t (loop_of t v) ≡ v) × (inside t u (loop_of t v) ≡ true)
  unfolding back_edge
  back_to r =
      let p : (is_header t v ≡ true) × (inside t u (loop_of t v) ≡ true) = and-true _ _ r in
      let h : header t (loop_of t v) ≡ v = eqb-true (header t (loop_of t v)) v p.0 in
      (go h (ℕ_discrete (loop_of t v) 0), h, p.1)
    where
      go : header t (loop_of t v) ≡ v → Dec (loop_of t v ≡ 0) → 0 < loop_of t v
      go h (yes z) = absurd (N.entry_starts u b (rw (sym h ∙ ap (header t) z ∙ N.loop0_header) at e))
      go h (no ne) = omega arith

  -- a forward edge to a loop's header comes from outside of that loop
  pub from_outside : (l : ℕ) → l < loop_count t → header t l ≡ v → back_edge t u v ≡ false → inside t u l ≡ false
  unfolding back_edge
  from_outside l m h r =
      let q : l ≡ loop_of t v = header_of t N l v m h in
      rw (eq-eqb (header t (loop_of t v)) v (ap (header t) (sym q) ∙ h), ← q) at r

  -- so a forward edge between blocks inside l, to a header, enters a loop above l
  pub enters_above : (l : ℕ) → l < loop_count t → inside t u l ≡ true → inside t v l ≡ true → is_header t v ≡ true → back_edge t u v ≡ false → l < loop_of t v
  enters_above l m i j h r = go (ℕ_discrete l (loop_of t v))
    where
      go : Dec (l ≡ loop_of t v) → l < loop_of t v
      go (yes q) = absurd (true≢false (sym i ∙ from_outside l m (ap (header t) q ∙ eqb-true (header t (loop_of t v)) v h) r))
      go (no ne) = omega (arith, inside_highest t N v l j)
