-- The turns of the loops of one depth after the other make the figures of the headers that the turns of all loops make, in the order of their
-- numbers: a header can tell only the turns of the loops around it (`skip`), and these have their turns in the order of their depths. A word at
-- the cap leads to a figure over the limit and never to a wrong one (`turn_more`, `turn_same`). Assumes nothing.
use Rattle.std.proofs.Common.{◌≡◌, refl, sym, ◌∙◌, ap, Bool, true, false, true≢false, List, [], ◌⊎◌, inl, inr, ℕ, zero, suc, ◌*◌, ◌-◌, ◌^◌, ◌≤◌, ◌<◌, min, arith, eqb, ltb, ℤ, pos, neg_ℤ, ◌+ℤ◌, ◌-ℤ◌, length, get_or, ◌≤ℤ◌, ◌<ℤ◌}
use mathlib.Core.Option.{Option, none, some}
use native.Mathlib.Decide.{ℕ_discrete}
use borrow.Author.Tests.{eq-eqb, ne_eqb, ltb-true, ltb-false}
use lib.Signed.{lt_z}
use Rattle.integers.proofs.Laws.{ints, sum, diff}
use Rattle.limits.specs.Limits.{most_loops, most_depth}
use Rattle.wcet.specs.Table.{Routine, loop_count, loop_of, header, multiplier, around, inside}
use Rattle.wcet.specs.Rules.{structure_rules}
use Rattle.wcet.specs.Claim.{AllHold}
use Rattle.wcet.proofs.Nesting.{Nested, nested}
use Rattle.loopsets.specs.Sets.{Parents}
use Rattle.nesting.proofs.Stages.{headed}
use Rattle.levels.specs.Levels.{depth, no_loop, Level, Deep}
use Rattle.levels.proofs.Laws.{around_own, depth_least, deeper_above, deeper_strict, level_own, level_none}
use Rattle.optimum.specs.Tails.{best}
use Rattle.optimum.specs.Columns.{tails, from_exit, from_header, turn, figure_by, remade_multipliers, remultiplied}
use Rattle.optimum.proofs.Tails.{none_some, AtLeast, Compares, best_none, best_one, best_right}
use Rattle.optimum.proofs.Filled.{over, figure_least}
use Rattle.optimum.proofs.Columns.{nested_too}
use Rattle.optimum.proofs.Multipliers.{loop0_multiplier}
use Rattle.tails.specs.Words.{most_tail, word_of, cap}
use Rattle.multipliers.specs.Columns.{kept_at, MultipliedOf}
use Rattle.figures.specs.Figures.{no_figure, figure_of, turn_of}
use Rattle.figures.specs.Columns.{filled_by, Bounded, Turnable, Turned, HeadsReadied, HeadsFigured, HeadsOf}
use Rattle.figures.proofs.Signs.{no_figure_lem, figure_same}
use Rattle.figures.proofs.Turns.{bounded_more}

integers : Compares lt_z ◌≤ℤ◌
integers = record { same = λ a. omega ints; is_less = λ a b e. omega ints; not_less = λ a b e. omega ints }

-- ---- at the cap

-- the header's figure is not far below 0
abbrev Least : Option ℤ → Type 0
Least g = (z : ℤ) → g ≡ some z → neg_ℤ (pos (2 ^ 46)) ≤ℤ z

module _ (k : ℕ) (low : k ≤ 2 ^ 40) (g : Option ℤ) (least : Least g) where
  -- what a turn gives by the capped tail it gives by the tail, or more
  turn_more : (z e : Bool) (o : Option ℕ) (f : ℤ) → turn_of z e k (cap most_tail o) g ≡ some f → (h : ℤ) × (turn_of z e k o g ≡ some h) × (f ≤ℤ h)
  unfolding turn_of cap from_exit from_header
  turn_more true e none f p = none_some p
  turn_more true e (some a) f p = let q : pos (min most_tail a) ≡ f = cc in (pos a, refl, omega ints)
  turn_more false true o f p = none_some p
  turn_more false false none f p = none_some p
  turn_more false false (some a) f p = go g p
    where
      go : (g : Option ℤ) → from_header k (some (min most_tail a)) g ≡ some f → (h : ℤ) × (from_header k (some a) g ≡ some h) × (f ≤ℤ h)
      go none p = none_some p
      go (some y) p =
          let q : (pos (min most_tail a) -ℤ pos k +ℤ y) ≡ f = cc in
          (pos a -ℤ pos k +ℤ y, refl, omega (ints, diff (pos (min most_tail a)) (pos k), sum (pos (min most_tail a) -ℤ pos k) y, diff (pos a) (pos k), sum (pos a -ℤ pos k) y))

  -- and the same, if it is within the limit
  turn_same : (z e : Bool) (o : Option ℕ) → ((f : ℤ) → turn_of z e k (cap most_tail o) g ≡ some f → f ≤ℤ pos (2 ^ 60)) → turn_of z e k (cap most_tail o) g ≡ turn_of z e k o g
  unfolding turn_of cap from_exit from_header
  turn_same true e none h = refl
  turn_same true e (some a) h = let p : pos (min most_tail a) ≤ℤ pos (2 ^ 60) = h (pos (min most_tail a)) refl in let q : min most_tail a ≡ a = omega ints in rw q
  turn_same false true o h = refl
  turn_same false false none h = refl
  turn_same false false (some a) h = go g least h
    where
      go : (g : Option ℤ) → Least g → ((f : ℤ) → from_header k (some (min most_tail a)) g ≡ some f → f ≤ℤ pos (2 ^ 60)) → from_header k (some (min most_tail a)) g ≡ from_header k (some a) g
      go none l h = refl
      go (some y) l h =
          let p : (pos (min most_tail a) -ℤ pos k +ℤ y) ≤ℤ pos (2 ^ 60) = h _ refl in
          let r : neg_ℤ (pos (2 ^ 46)) ≤ℤ y = l y refl in
          let q : min most_tail a ≡ a = omega (ints, diff (pos (min most_tail a)) (pos k), sum (pos (min most_tail a) -ℤ pos k) y) in rw q

-- ---- turns that a block cannot tell

module _ (t : Routine) (tail : (l x : ℕ) → Option ℕ) (x : ℕ) where
  turn_outside : (l : ℕ) (h : Option ℤ) → inside t x l ≡ false → turn t tail l x h ≡ none
  unfolding turn
  turn_outside l h e = rw e

  turn_inside : (l : ℕ) (h : Option ℤ) → inside t x l ≡ true → turn_of (eqb l 0) (eqb x (header t l)) (multiplier t l) (tail l x) h ≡ turn t tail l x h
  unfolding turn turn_of
  turn_inside l h e = rw e

  -- those of loops that are not around it
  skip : (e f : ℕ) → e ≤ f → ((k : ℕ) → e ≤ k → k < f → inside t x k ≡ false) → figure_by t tail f x ≡ figure_by t tail e x
  unfolding figure_by
  skip e zero h outside = let z : e ≡ 0 = omega arith in rw z
  skip e (suc f) h outside = go (ℕ_discrete e (suc f)) (λ b. skip e f b (λ k i j. outside k i (omega arith)))
    where
      go : Dec (e ≡ suc f) → (e ≤ f → figure_by t tail f x ≡ figure_by t tail e x) → figure_by t tail (suc f) x ≡ figure_by t tail e x
      go (yes q) rest = rw q
      go (no ne) rest =
          ap (best lt_z (figure_by t tail f x)) (turn_outside f (figure_by t tail f (header t f)) (outside f (omega arith) (omega arith)))
          ∙ best_none lt_z (figure_by t tail f x) ∙ rest (omega arith)

-- ---- depth by depth

-- the figure of loop l's header when the loops below u have had their turns
abbrev head_by : Routine → ℕ → ℕ → Option ℤ
head_by t u l = figure_by (remultiplied t) (tails (remultiplied t)) u (header t l)

abbrev is_around : Routine → ℕ → ℕ → Bool
is_around t l k = around t.parents (loop_count t) l k

-- The loops around loop l that are not deeper than d are those below `upto`. So its header has its figure by all loops below `upto`.
pub record Standing (t : Routine) (heads : List ℤ) (d l : ℕ) : Type 0 where
  pub upto : ℕ
  pub few : upto ≤ loop_count t
  pub inner : (k : ℕ) → k < loop_count t → is_around t l k ≡ true → depth t.parents k ≤ d → k < upto
  pub outer : (k : ℕ) → k < loop_count t → is_around t l k ≡ true → d < depth t.parents k → upto ≤ k
  pub same : figure_of (get_or heads l (pos 0)) ≡ head_by t upto l

-- a routine with these tails and multipliers
module _ (t : Routine) (kept : List ℤ) (made : List ℕ) (weights : List ℤ) (h : AllHold (structure_rules t)) (M : MultipliedOf t false made weights kept)
    (low : (l : ℕ) → l < loop_count t → get_or made l 0 ≤ 2 ^ 40) where
  abbrev t' : Routine
  t' = remultiplied t

  N : Nested t
  N = nested t h

  N' : Nested t'
  N' = nested_too t [] (remade_multipliers t) N (loop0_multiplier t N)

  P : Parents t.parents
  P = (headed t h).ranged.parents

  few_loops : loop_count t ≤ most_loops
  few_loops = (headed t h).ranged.sized.few_loops

  same_multiplier : (l : ℕ) → l < loop_count t → get_or made l 0 ≡ multiplier t' l
  same_multiplier = M.same refl

  multiplier_low : (l : ℕ) → l < loop_count t → multiplier t' l ≤ 2 ^ 40
  multiplier_low l b = rw (same_multiplier l b) at (low l b)

  -- a figure takes one multiplier off for each turn at most
  figure_low : (u l : ℕ) → u ≤ loop_count t → l < loop_count t → Least (head_by t u l)
  figure_low u l m b f e =
      let p : pos 0 ≤ℤ (f +ℤ pos (2 ^ 40 * u)) = figure_least t' N' (tails t') (2 ^ 40) multiplier_low u (header t l) f m (N.header_block l b) e in
      omega (ints, few_loops, sum f (pos (2 ^ 40 * u)))

  inside_around : (l k : ℕ) → l < loop_count t → inside t (header t l) k ≡ is_around t l k
  unfolding inside
  inside_around l k b = rw (N.own l b)

  inside_around' : (l k : ℕ) → l < loop_count t → inside t' (header t l) k ≡ is_around t l k
  unfolding inside
  inside_around' l k b = rw (N.own l b)

  -- no two loops have one header
  same_own : (l j : ℕ) → l < loop_count t → j < loop_count t → eqb l j ≡ eqb (header t l) (header t j)
  same_own l j b c = go (ℕ_discrete l j)
    where
      go : Dec (l ≡ j) → eqb l j ≡ eqb (header t l) (header t j)
      go (yes q) = eq-eqb l j q ∙ sym (eq-eqb (header t l) (header t j) (ap (λ (k : ℕ). header t k) q))
      go (no ne) = ne_eqb l j ne ∙ sym (ne_eqb (header t l) (header t j) (λ q. ne (sym (N.own l b) ∙ ap (λ (x : ℕ). loop_of t x) q ∙ N.own j c)))

  stands_first : (heads : List ℤ) → ((l : ℕ) → l < most_loops → get_or heads l (pos 0) ≡ no_figure) → (l : ℕ) → l < loop_count t → Standing t heads 0 l
  unfolding figure_by
  stands_first heads e l b = record {
    upto = 0;
    few = omega arith;
    inner = λ k m i h. absurd (omega (arith, depth_least t.parents P k));
    outer = λ k m i h. omega arith;
    same = ap figure_of (e l (omega (arith, few_loops))) ∙ no_figure_lem no_figure (omega ints);
  }

  module _ (heads : List ℤ) (d : ℕ) (each : (l : ℕ) → l < loop_count t → Standing t heads d l) where
    module _ (level : List ℕ) (L : Level t.parents (suc d) level) where
      abbrev filled : ℕ → Option ℤ
      filled l = filled_by kept made level (suc d) heads l

      -- what the words give to the figure of l's header: nothing, where l is inside no loop of the level
      module _ (l : ℕ) (b : l < loop_count t) where
        abbrev j : ℕ
        j = get_or level l 0

        abbrev head : Option ℤ
        head = head_by t j j

        abbrev before : Option ℤ
        before = head_by t j l

        abbrev given : Option ℤ
        given = turn_of (eqb j 0) (eqb (header t l) (header t j)) (multiplier t' j) (cap most_tail (tails t' j (header t l))) head

        not_filled : j ≡ no_loop → filled l ≡ figure_of (get_or heads l (pos 0))
        unfolding filled_by
        not_filled e = rw (eq-eqb j no_loop e) (best_none lt_z (figure_of (get_or heads l (pos 0))))

        module _ (there : j ≡ no_loop → ⊥) where
          chosen : (j < loop_count t) × (is_around t l j ≡ true) × (depth t.parents j ≡ suc d)
          chosen = L.chosen l b there

          -- the header of a loop inside j has its figure by all loops below j: those of them around it are less deep
          at_turn : (y : ℕ) → y < loop_count t → is_around t y j ≡ true → figure_of (get_or heads y (pos 0)) ≡ head_by t j y
          at_turn y c i =
              S.same ∙ sym (skip t' (tails t') (header t y) S.upto j (S.outer j chosen.0 i (omega (arith, chosen.2))) (λ k a h. inside_around' y k c ∙ go k a h (is_around t y k) refl))
            where
              S : Standing t heads d y
              S = each y c

              go : (k : ℕ) → S.upto ≤ k → k < j → (o : Bool) → is_around t y k ≡ o → o ≡ false
              go k a h false o = refl
              go k a h true o = absurd (less (ltb (depth t.parents k) (suc d)) refl)
                where
                  less : (r : Bool) → ltb (depth t.parents k) (suc d) ≡ r → ⊥
                  less true r = omega (arith, S.inner k (omega (arith, chosen.0)) o (omega (arith, ltb-true (depth t.parents k) (suc d) r)))
                  less false r = omega (arith, deeper_above t.parents P y j k c i o (omega (arith, ltb-false (depth t.parents k) (suc d) r, chosen.2)))

          kept_word : word_of (get_or kept (kept_at l (suc d)) (pos 0)) ≡ cap most_tail (tails t' j (header t l))
          kept_word = rw chosen.2 at (M.kept_tails refl l j b chosen.0 (inside_around l j b ∙ chosen.1))

          by_words : filled l ≡ best lt_z before given
          unfolding filled_by
          by_words =
              rw (ne_eqb j no_loop there, at_turn l b chosen.1, at_turn j chosen.0 (around_own t.parents (loop_count t) j), kept_word, same_multiplier j chosen.0, same_own l j b chosen.0)

          least : Least head
          least = figure_low j j (omega (arith, chosen.0)) chosen.0

      module _ (new : List ℤ) where
        module _ (U : Turned kept made level (suc d) (loop_count t) heads false new) (l : ℕ) (b : l < loop_count t) where
          abbrev value : ℤ
          value = get_or new l (pos 0)

          stands_kept : get_or level l 0 ≡ no_loop → Standing t new (suc d) l
          stands_kept e =
              let S = each l b in
              record {
                upto = S.upto;
                few = S.few;
                inner = λ k m i h.
                    let ne : (depth t.parents k ≡ suc d → ⊥) = level_none t.parents P L few_loops l b e k m i in
                    S.inner k m i (omega arith);
                outer = λ k m i h. S.outer k m i (omega arith);
                same = U.same refl l b ∙ not_filled l b e ∙ S.same;
              }

          stands_turned : (get_or level l 0 ≡ no_loop → ⊥) → Standing t new (suc d) l
          unfolding figure_by
          stands_turned there = record {
            upto = suc (j l b);
            few = omega (arith, C.0);
            inner = λ k m i h. omega (arith, deeper_above t.parents P l k (j l b) b i C.1 (omega (arith, C.2)));
            outer = λ k m i h. omega (arith, deeper_strict t.parents P l (j l b) k b C.1 i (omega (arith, C.2)));
            same = e ∙ ap (best lt_z (before l b)) (turn_same (multiplier t' (j l b)) (multiplier_low (j l b) C.0) (head l b) (least l b there) (eqb (j l b) 0) (eqb (header t l) (header t (j l b))) (tails t' (j l b) (header t l)) small ∙ turn_inside t' (tails t') (header t l) (j l b) (head l b) (inside_around' l (j l b) b ∙ C.1));
          }
            where
              C : (j l b < loop_count t) × (is_around t l (j l b) ≡ true) × (depth t.parents (j l b) ≡ suc d)
              C = chosen l b there

              e : figure_of value ≡ best lt_z (before l b) (given l b)
              e = U.same refl l b ∙ by_words l b there

              small : (f : ℤ) → given l b ≡ some f → f ≤ℤ pos (2 ^ 60)
              small f p =
                  let a : AtLeast ◌≤ℤ◌ (best lt_z (before l b) (some f)) f = best_right lt_z ◌≤ℤ◌ integers (before l b) f in
                  let q : value ≡ a.0 = figure_same value a.0 (e ∙ ap (best lt_z (before l b)) p ∙ a.1) in
                  omega (ints, a.2, (U.bounded refl l b).most)

        stands_next : Turned kept made level (suc d) (loop_count t) heads false new → (l : ℕ) → l < loop_count t → Standing t new (suc d) l
        stands_next U l b = go (ℕ_discrete (get_or level l 0) no_loop)
          where
            go : Dec (get_or level l 0 ≡ no_loop) → Standing t new (suc d) l
            go (yes e) = stands_kept U l b e
            go (no there) = stands_turned U l b there

        stands_over : ((l : ℕ) → l < loop_count t → get_or heads l (pos 0) ≤ℤ pos (2 ^ 60)) → Turned kept made level (suc d) (loop_count t) heads true new → HeadsFigured t true new
        stands_over old-most U = record { same = λ q. absurd (true≢false q); high = λ q. (l, b, go (ℕ_discrete (j l b) no_loop)) }
          where
            H : (l : ℕ) × (l < loop_count t) × ((f : ℤ) × (filled l ≡ some f) × (pos (2 ^ 60) <ℤ f))
            H = U.high refl

            l : ℕ
            l = H.0

            b : l < loop_count t
            b = H.1

            f : ℤ
            f = H.2.0

            -- a figure over the limit is new
            not_old : figure_of (get_or heads l (pos 0)) ≡ some f → ⊥
            not_old p = let q : get_or heads l (pos 0) ≡ f = figure_same (get_or heads l (pos 0)) f p in omega (ints, old-most l b, H.2.2)

            go : Dec (j l b ≡ no_loop) → (f : ℤ) × (head_by t (loop_count t) l ≡ some f) × (pos (2 ^ 60) <ℤ f)
            go (yes e) = absurd (not_old (sym (not_filled l b e) ∙ H.2.1))
            go (no there) = (a.0, a.1, omega (ints, a.2, g.2, H.2.2))
              where
                C : (j l b < loop_count t) × (is_around t l (j l b) ≡ true) × (depth t.parents (j l b) ≡ suc d)
                C = chosen l b there

                is_given : (before l b ≡ some f) ⊎ (given l b ≡ some f) → given l b ≡ some f
                is_given (inl p) = absurd (not_old (at_turn l b there l b C.1 ∙ p))
                is_given (inr p) = p

                g : (g : ℤ) × (turn_of (eqb (j l b) 0) (eqb (header t l) (header t (j l b))) (multiplier t' (j l b)) (tails t' (j l b) (header t l)) (head l b) ≡ some g) × (f ≤ℤ g)
                g = turn_more (multiplier t' (j l b)) (multiplier_low (j l b) C.0) (head l b) (least l b there) (eqb (j l b) 0) (eqb (header t l) (header t (j l b))) (tails t' (j l b) (header t l)) f (is_given (best_one lt_z (before l b) (given l b) f (sym (by_words l b there) ∙ H.2.1)))

                a : AtLeast ◌≤ℤ◌ (head_by t (loop_count t) l) g.0
                a = over t' (tails t') (loop_count t) (j l b) (header t l) g.0 C.0 (sym (turn_inside t' (tails t') (header t l) (j l b) (head l b) (inside_around' l (j l b) b ∙ C.1)) ∙ g.1)

    stands_all : (depths : List ℕ) → Deep t.parents depths d → HeadsFigured t false heads
    stands_all depths D = record {
      same = λ q l b. let S = each l b in S.same ∙ sym (skip t' (tails t') (header t l) S.upto (loop_count t) S.few (λ k a h. inside_around' l k b ∙ go l b k a h (is_around t l k) refl));
      high = λ q. absurd (true≢false (sym q));
    }
      where
        go : (l : ℕ) (b : l < loop_count t) (k : ℕ) → (each l b).upto ≤ k → k < loop_count t → (o : Bool) → is_around t l k ≡ o → o ≡ false
        go l b k a h false o = refl
        go l b k a h true o = absurd (omega (arith, (each l b).inner k h o (D.most k h)))

-- ---- of every such routine

-- the loops that are not deeper than d have had their turns
pub record Filling (parents : List ℕ) (kept : List ℤ) (made : List ℕ) (heads : List ℤ) (d : ℕ) : Type 0 where
  pub size : length heads ≡ most_loops
  pub bounded : (l : ℕ) → l < length parents → Bounded (2 ^ 40 * d) (get_or heads l (pos 0))
  pub each : (t : Routine) (weights : List ℤ) → t.parents ≡ parents → AllHold (structure_rules t) → MultipliedOf t false made weights kept → (l : ℕ) → l < loop_count t → Standing t heads d l

module _ (parents : List ℕ) (kept : List ℤ) (made depths : List ℕ) (deepest : ℕ) (R : HeadsReadied parents kept made depths deepest) where
  lows : (t : Routine) → t.parents ≡ parents → (l : ℕ) → l < loop_count t → get_or made l 0 ≤ 2 ^ 40
  lows t e l b = R.multiplier_most l (rw e at b)

  pub filling_first : (heads : List ℤ) → length heads ≡ most_loops → ((l : ℕ) → l < most_loops → get_or heads l (pos 0) ≡ no_figure) → Filling parents kept made heads 0
  filling_first heads s e = record {
    size = s;
    bounded = λ l b. rw (e l (omega (arith, R.few_loops))) (record { most = omega ints; least = omega ints; figure_least = λ p. absurd (omega (ints, p)) });
    each = λ t weights q h M. stands_first t kept made weights h M (lows t q) heads e;
  }

  module _ (heads : List ℤ) (d : ℕ) (F : Filling parents kept made heads d) where
    module _ (level : List ℕ) (L : Level parents (suc d) level) where
      pub filling_turnable : d < deepest → Turnable made level (suc d) (length parents) heads
      filling_turnable b = record {
        few = R.few_loops;
        deep = (omega arith, omega (arith, R.few_depths));
        size = F.size;
        chosen = λ l b there. (L.chosen l b there).0;
        own = λ l b there. let C = L.chosen l b there in level_own parents R.parents_below L (get_or level l 0) C.0 C.2;
        multiplier_most = R.multiplier_most;
        bounded = λ l b. let e : suc d - 1 ≡ d = omega arith in rw e (F.bounded l b);
      }

      module _ (new : List ℤ) where
        pub filling_next : Turned kept made level (suc d) (length parents) heads false new → Filling parents kept made new (suc d)
        filling_next U = record {
          size = U.size;
          bounded = U.bounded refl;
          each = λ t weights q h M. stands_next t kept made weights h M (lows t q) heads d (F.each t weights q h M) level (rw q L) new (rw q U);
        }

        pub filling_over : Turned kept made level (suc d) (length parents) heads true new → HeadsOf parents kept made true new
        filling_over U = record {
          size = U.size;
          bounded = λ q. absurd (true≢false q);
          says = λ t weights q h M. stands_over t kept made weights h M (lows t q) heads d (F.each t weights q h M) level (rw q L) new (λ l b. (F.bounded l (rw q at b)).most) (rw q U);
        }

  pub filling_all : (heads : List ℤ) → Filling parents kept made heads deepest → HeadsOf parents kept made false heads
  filling_all heads F = record {
    size = F.size;
    bounded = λ q l b. bounded_more (2 ^ 40 * deepest) (2 ^ 40 * most_depth) (get_or heads l (pos 0)) (omega (arith, R.few_depths)) (F.bounded l b);
    says = λ t weights q h M. stands_all t kept made weights h M (lows t q) heads deepest (F.each t weights q h M) depths (rw q R.deep);
  }
