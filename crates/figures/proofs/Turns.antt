-- The turn of a level's loops, header by header, with the figures changed in place. Other headers read the figure of a chosen loop's header in this
-- turn: it is known throughout (`header_known`), and what they read is the same before and after its own place (`header_same`). Assumes nothing.
use Rattle.std.proofs.Common.{◌≡◌, refl, sym, ◌∙◌, ap, Bool, true, false, true≢false, List, ◌⊎◌, inl, inr, ℕ, ◌+◌, ◌*◌, ◌-◌, ◌^◌, ◌≤◌, ◌<◌, arith, eqb, ltb, ℤ, pos, neg_ℤ, ◌+ℤ◌, ◌-ℤ◌, length, get_or, set, length-set, ◌≤ℤ◌, ◌<ℤ◌}
use mathlib.Core.Option.{Option, none, some}
use native.Mathlib.Decide.{ℕ_discrete}
use borrow.Author.Tests.{eq-eqb, ne_eqb, ltb-true, ltb-false}
use lib.Seq.{get_or-set_same, get_or-set_other}
use lib.Signed.{lt_z}
use Rattle.integers.proofs.Laws.{ints, sum, diff}
use Rattle.limits.specs.Limits.{most_loops}
use Rattle.lists.specs.Search.{when◌then◌else◌}
use Rattle.levels.specs.Levels.{no_loop}
use Rattle.optimum.specs.Tails.{best}
use Rattle.optimum.specs.Columns.{from_exit, from_header}
use Rattle.optimum.proofs.Tails.{none_some, best_none, best_one}
use Rattle.tails.specs.Words.{word_of}
use Rattle.multipliers.specs.Columns.{kept_at}
use Rattle.figures.specs.Figures.{no_figure, figure_of, Known, turn_of}
use Rattle.figures.specs.Columns.{turn_by, filled_by, Bounded, Turnable, Turned}
use Rattle.figures.proofs.Signs.{minus, is_figure, figure_same, figure_there}

pub bounded_known : (b : ℕ) (z : ℤ) → b ≤ 2 ^ 60 → Bounded b z → Known z
bounded_known b z h B = record { most_figure = B.most; least_figure = λ p. omega (ints, minus b, B.figure_least p) }

pub bounded_more : (b c : ℕ) (z : ℤ) → b ≤ c → Bounded b z → Bounded c z
bounded_more b c z h B = record { most = B.most; least = B.least; figure_least = λ p. omega (ints, minus b, minus c, B.figure_least p) }

-- a turn takes one multiplier off at most
module _ (b k : ℕ) (low : k ≤ 2 ^ 40) (y : ℤ) (B : Bounded b y) where
  from_least : (tail : Option ℕ) (f : ℤ) → from_header k tail (figure_of y) ≡ some f → neg_ℤ (pos (b + 2 ^ 40)) ≤ℤ f
  unfolding figure_of from_header
  from_least none f e = none_some e
  from_least (some a) f e = go (lt_z y (neg_ℤ (pos (2 ^ 61)))) refl e
    where
      go : (r : Bool) → lt_z y (neg_ℤ (pos (2 ^ 61))) ≡ r → from_header k (some a) (when r then none else some y) ≡ some f → neg_ℤ (pos (b + 2 ^ 40)) ≤ℤ f
      go true r e = none_some e
      go false r e =
          let q : (pos a -ℤ pos k +ℤ y) ≡ f = cc in
          let p : neg_ℤ (pos b) ≤ℤ y = B.figure_least (omega ints) in
          omega (ints, minus b, minus (b + 2 ^ 40), diff (pos a) (pos k), sum (pos a -ℤ pos k) y)

  turn_least : (whole own : Bool) (tail : Option ℕ) (f : ℤ) → turn_of whole own k tail (figure_of y) ≡ some f → neg_ℤ (pos (b + 2 ^ 40)) ≤ℤ f
  unfolding turn_of from_exit
  turn_least true own none f e = none_some e
  turn_least true own (some a) f e = let q : pos a ≡ f = cc in omega (ints, minus (b + 2 ^ 40))
  turn_least false true tail f e = none_some e
  turn_least false false tail f e = from_least tail f e

-- the headers of the loops below l have had their turn
pub record Turning (kept : List ℤ) (made level : List ℕ) (d : ℕ) (old new : List ℤ) (m l : ℕ) : Type 0 where
  pub size : length new ≡ most_loops
  pub done : (y : ℕ) → y < l → y < m → figure_of (get_or new y (pos 0)) ≡ filled_by kept made level d old y
  pub bounded : (y : ℕ) → y < l → y < m → Bounded (2 ^ 40 * d) (get_or new y (pos 0))
  pub rest : (y : ℕ) → l ≤ y → get_or new y (pos 0) ≡ get_or old y (pos 0)

module _ (kept : List ℤ) (made level : List ℕ) (d m : ℕ) (old : List ℤ) (A : Turnable made level d m old) where
  was : (y : ℕ) → y < m → Bounded (2 ^ 40 * d) (get_or old y (pos 0))
  was y b = bounded_more (2 ^ 40 * (d - 1)) (2 ^ 40 * d) (get_or old y (pos 0)) (omega (arith, A.deep.0)) (A.bounded y b)

  -- what is filled in is bounded
  filled_least : (l : ℕ) → l < m → (f : ℤ) → filled_by kept made level d old l ≡ some f → neg_ℤ (pos (2 ^ 40 * d)) ≤ℤ f
  unfolding filled_by
  filled_least l c f e = go (best_one lt_z _ _ f e)
    where
      j : ℕ
      j = get_or level l 0

      given : Dec (j ≡ no_loop) → turn_by kept made level d old l ≡ some f → neg_ℤ (pos (2 ^ 40 * d)) ≤ℤ f
      given (yes q) p = none_some (rw (eq-eqb j no_loop q) at p)
      given (no ne) p =
          let r : neg_ℤ (pos (2 ^ 40 * (d - 1) + 2 ^ 40)) ≤ℤ f = turn_least (2 ^ 40 * (d - 1)) (get_or made j 0) (A.multiplier_most j (A.chosen l c ne)) (get_or old j (pos 0)) (A.bounded j (A.chosen l c ne)) (eqb j 0) (eqb l j) (word_of (get_or kept (kept_at l d) (pos 0))) f (rw (ne_eqb j no_loop ne) at p) in
          omega (ints, minus (2 ^ 40 * (d - 1) + 2 ^ 40), minus (2 ^ 40 * d), r, A.deep.0)

      go : (figure_of (get_or old l (pos 0)) ≡ some f) ⊎ (turn_by kept made level d old l ≡ some f) → neg_ℤ (pos (2 ^ 40 * d)) ≤ℤ f
      go (inl p) = rw (figure_same (get_or old l (pos 0)) f p) at ((was l c).figure_least (figure_there (get_or old l (pos 0)) f p))
      go (inr p) = given (ℕ_discrete j no_loop) p

  module _ (new : List ℤ) (l : ℕ) (T : Turning kept made level d old new m l) where
    -- ---- the header of a loop of the level

    module _ (j : ℕ) (b : j < m) where
      header_known : Known (get_or new j (pos 0))
      header_known = go (ltb j l) refl
        where
          go : (r : Bool) → ltb j l ≡ r → Known (get_or new j (pos 0))
          go true r = bounded_known (2 ^ 40 * d) (get_or new j (pos 0)) (omega (arith, A.deep.1)) (T.bounded j (ltb-true j l r) b)
          go false r = rw (T.rest j (ltb-false j l r)) (bounded_known (2 ^ 40 * d) (get_or old j (pos 0)) (omega (arith, A.deep.1)) (was j b))

      module _ (own : get_or level j 0 ≡ j) where
        -- only loop 0 gives something to its own header
        header_filled : (j ≡ 0 → ⊥) → filled_by kept made level d old j ≡ figure_of (get_or old j (pos 0))
        unfolding filled_by turn_of
        header_filled nz = rw (own, ne_eqb j no_loop (λ e. omega (arith, A.few)), ne_eqb j 0 nz, eq-eqb j j refl) (best_none lt_z (figure_of (get_or old j (pos 0))))

        header_same : (head : Bool) (k : ℕ) (tail : Option ℕ)
            → turn_of (eqb j 0) head k tail (figure_of (get_or new j (pos 0))) ≡ turn_of (eqb j 0) head k tail (figure_of (get_or old j (pos 0)))
        unfolding turn_of
        header_same head k tail = go (ℕ_discrete j 0) (ltb j l) refl
          where
            go : Dec (j ≡ 0) → (r : Bool) → ltb j l ≡ r
                → turn_of (eqb j 0) head k tail (figure_of (get_or new j (pos 0))) ≡ turn_of (eqb j 0) head k tail (figure_of (get_or old j (pos 0)))
            go (yes z) r q = rw (eq-eqb j 0 z)
            go (no nz) true q =
                let kept : figure_of (get_or new j (pos 0)) ≡ figure_of (get_or old j (pos 0)) = T.done j (ltb-true j l q) b ∙ header_filled nz in
                rw kept
            go (no nz) false q = rw (T.rest j (ltb-false j l q))

    -- ---- the header of loop l

    module _ (c : l < m) where
      abbrev j : ℕ
      j = get_or level l 0

      -- inside no loop of the level
      pub turning_skip : j ≡ no_loop → Turning kept made level d old new m (l + 1)
      unfolding filled_by
      turning_skip e = record {
        size = T.size;
        done = λ y b h. done y b h (ℕ_discrete y l);
        bounded = λ y b h. bounded y b h (ℕ_discrete y l);
        rest = λ y b. T.rest y (omega arith);
      }
        where
          filled : figure_of (get_or new l (pos 0)) ≡ filled_by kept made level d old l
          filled = rw (eq-eqb j no_loop e, T.rest l (omega arith)) (sym (best_none lt_z (figure_of (get_or old l (pos 0)))))

          done : (y : ℕ) → y < l + 1 → y < m → Dec (y ≡ l) → figure_of (get_or new y (pos 0)) ≡ filled_by kept made level d old y
          done y b h (yes q) = rw q filled
          done y b h (no ne) = T.done y (omega arith) h

          bounded : (y : ℕ) → y < l + 1 → y < m → Dec (y ≡ l) → Bounded (2 ^ 40 * d) (get_or new y (pos 0))
          bounded y b h (yes q) = rw (q, T.rest l (omega arith)) (was l c)
          bounded y b h (no ne) = T.bounded y (omega arith) h

      module _ (there : j ≡ no_loop → ⊥) where
        module _ (given f : ℤ)
            (g : figure_of given ≡ turn_of (eqb j 0) (eqb l j) (get_or made j 0) (word_of (get_or kept (kept_at l d) (pos 0))) (figure_of (get_or new j (pos 0))))
            (e : figure_of f ≡ best lt_z (figure_of (get_or new l (pos 0))) (figure_of given)) where
          filled : figure_of f ≡ filled_by kept made level d old l
          unfolding filled_by
          filled =
              e ∙ rw (ne_eqb j no_loop there, T.rest l (omega arith))
              (ap (best lt_z (figure_of (get_or old l (pos 0)))) (g ∙ header_same j (A.chosen l c there) (A.own l c there) (eqb l j) (get_or made j 0) (word_of (get_or kept (kept_at l d) (pos 0)))))

          pub turning_next : get_or new l (pos 0) ≤ℤ f → f ≤ℤ pos (2 ^ 60) → Turning kept made level d old (set new l f) m (l + 1)
          turning_next a b = record {
            size = length-set new l f ∙ T.size;
            done = λ y i h. done y i h (ℕ_discrete y l);
            bounded = λ y i h. bounded y i h (ℕ_discrete y l);
            rest = λ y i. get_or-set_other new l y f (pos 0) (λ q. omega arith) ∙ T.rest y (omega arith);
          }
            where
              here : get_or (set new l f) l (pos 0) ≡ f
              here = get_or-set_same new l f (pos 0) (omega (arith, T.size, A.few))

              done : (y : ℕ) → y < l + 1 → y < m → Dec (y ≡ l) → figure_of (get_or (set new l f) y (pos 0)) ≡ filled_by kept made level d old y
              done y i h (yes q) = rw q (ap figure_of here ∙ filled)
              done y i h (no ne) = ap figure_of (get_or-set_other new l y f (pos 0) ne) ∙ T.done y (omega arith) h

              now : Bounded (2 ^ 40 * d) f
              now = record {
                most = b;
                least = let o : no_figure ≤ℤ get_or new l (pos 0) = rw (T.rest l (omega arith)) (was l c).least in omega (ints, o, a);
                figure_least = λ p. filled_least l c f (sym filled ∙ is_figure f p);
              }

              bounded : (y : ℕ) → y < l + 1 → y < m → Dec (y ≡ l) → Bounded (2 ^ 40 * d) (get_or (set new l f) y (pos 0))
              bounded y i h (yes q) = rw (q, here) now
              bounded y i h (no ne) = rw (get_or-set_other new l y f (pos 0) ne) (T.bounded y (omega arith) h)

          pub turning_over : pos (2 ^ 60) <ℤ f → Turned kept made level d m old true new
          turning_over high = record {
            size = T.size;
            same = λ q. absurd (true≢false q);
            bounded = λ q. absurd (true≢false q);
            high = λ q. (l, c, (f, sym filled ∙ is_figure f (omega ints), high));
          }
