-- The potential of a state: the figure of the present block, and for each loop around it its multiplier times the visits that are left of
-- its bound. No step of a run raises it (for an upper bound) or lowers it (for a lower one): which of the two is the direction R, and the
-- argument is the same. Assumes nothing.
use mathlib.Core.Path.{◌≡◌, refl, sym, ◌∙◌, ap, subst₂}
use mathlib.Core.Bool.{Bool, true, false, not, ◌&&◌, true≢false}
use mathlib.Core.List.{List}
use Prim.Native.Nat.{ℕ, zero, suc, ◌+◌, ◌*◌, ◌<◌}
use lib.Dec.{eqb}
use borrow.Author.Tests.{eqb-false, eq-eqb, ne_eqb}
use lib.IntN.{ℤ, pos, ◌+ℤ◌, ◌-ℤ◌, ◌*ℤ◌, +ℤ_idr, +ℤ_idl}
use Rattle.lists.specs.Search.{when◌then◌else◌}
use Rattle.integers.specs.Parts.{up, dn}
use Rattle.integers.proofs.Laws.{ints, sum, diff, times}
use Rattle.integers.proofs.Direction.{Direction, add}
use Rattle.integers.proofs.Sums.{sum_below, sum_mono, sum_but}
use Rattle.wcet.specs.Table.{Routine, loop_count, loop_of, header, around, inside, is_header}
use Rattle.wcet.specs.Run.{State, next_count, next}

-- multiplier k times the visits that are left of b after c
abbrev pub remaining : (k b c : ℕ) → ℤ
remaining k b c = pos k *ℤ (pos b -ℤ pos c)

-- one more visit takes one multiplier of it
remaining_next : (k b c : ℕ) → remaining k b (c + 1) +ℤ pos k ≡ remaining k b c
remaining_next k b c = omega (ints, sum (remaining k b (c + 1)) (pos k), times k (pos b -ℤ pos (c + 1)), times k (pos b -ℤ pos c), scaled)
  where
    one : up (pos b -ℤ pos (c + 1)) + 1 + dn (pos b -ℤ pos c) ≡ up (pos b -ℤ pos c) + dn (pos b -ℤ pos (c + 1))
    one = omega (ints, diff (pos b) (pos (c + 1)), diff (pos b) (pos c))

    scaled : k * (up (pos b -ℤ pos (c + 1)) + 1 + dn (pos b -ℤ pos c)) ≡ k * (up (pos b -ℤ pos c) + dn (pos b -ℤ pos (c + 1)))
    scaled = ap (λ (x : ℕ). k * x) one

-- loop l is around itself
around_self : (parents : List ℕ) (d l : ℕ) → around parents d l l ≡ true
unfolding around
around_self parents zero l = eq-eqb l l refl
around_self parents (suc d) l = rw (eq-eqb l l refl)

pub inside_own : (t : Routine) (v : ℕ) → inside t v (loop_of t v) ≡ true
unfolding inside
inside_own t v = around_self t.parents (loop_count t) (loop_of t v)

-- what a solver claims: a figure for each block, a multiplier and a number of visits per stay for each loop
pub record Certificate : Type 0 where
  pub figure : ℕ → ℤ
  pub multiplier : ℕ → ℕ
  pub visits : ℕ → ℕ

-- what is left of loop l, at block u and these counts: nothing, where u is outside of l
abbrev pub term : Routine → Certificate → ℕ → (ℕ → ℕ) → ℕ → ℤ
term t C u count l = when inside t u l then remaining (C.multiplier l) (C.visits l) (count l) else pos 0

unfoldable pub potential : Routine → Certificate → State → ℤ
potential t C s = C.figure s.block +ℤ sum_below (loop_count t) (term t C s.block s.count)

-- What one step asks, in direction R: from state s to block v, over an edge of weight w.
pub record Sound (t : Routine) (R : ℤ → ℤ → Type 0) (C : Certificate) (s : State) (v : ℕ) (w : ℤ) : Type 0 where
  -- v's innermost loop is a loop, and the header of each loop has that loop for its innermost (204)
  pub loop : loop_of t v < loop_count t
  pub own : (l : ℕ) → l < loop_count t → loop_of t (header t l) ≡ l
  -- a loop that the step enters is entered at its header (207)
  pub enters : (l : ℕ) → l < loop_count t → inside t v l ≡ true → inside t s.block l ≡ false → header t l ≡ v
  -- a loop that the step leaves has its visits on the right side of its bound
  pub leaves : (l : ℕ) → l < loop_count t → inside t s.block l ≡ true → inside t v l ≡ false → R (pos 0) (remaining (C.multiplier l) (C.visits l) (s.count l))
  -- the inequality of the edge, in its three cases (208)
  pub plain : is_header t v ≡ false → R w (C.figure s.block -ℤ C.figure v)
  pub back : is_header t v ≡ true → inside t s.block (loop_of t v) ≡ true → R w (C.figure s.block -ℤ C.figure v +ℤ pos (C.multiplier (loop_of t v)))
  pub entry : is_header t v ≡ true → inside t s.block (loop_of t v) ≡ false
      → R (w +ℤ remaining (C.multiplier (loop_of t v)) (C.visits (loop_of t v)) 1) (C.figure s.block -ℤ C.figure v)

module _ (R : ℤ → ℤ → Type 0) (O : Direction R) where
  -- the edge's inequality and the sums' order make the potential's
  combine : (w fu fv S S' a b : ℤ) → R (w +ℤ b) (fu -ℤ fv +ℤ a) → R (S' +ℤ a) (S +ℤ b) → R (w +ℤ (fv +ℤ S')) (fu +ℤ S)
  combine w fu fv S S' a b h k =
      subst₂ R left right
      (O.shift (w +ℤ b +ℤ (S' +ℤ a)) (fu -ℤ fv +ℤ a +ℤ (S +ℤ b)) z (add R O (w +ℤ b) (fu -ℤ fv +ℤ a) (S' +ℤ a) (S +ℤ b) h k))
    where
      z : ℤ
      z = fv -ℤ a -ℤ b

      left : w +ℤ b +ℤ (S' +ℤ a) +ℤ z ≡ w +ℤ (fv +ℤ S')
      left = omega (ints, sum w b, sum S' a, sum (w +ℤ b) (S' +ℤ a), diff fv a, diff (fv -ℤ a) b, sum (w +ℤ b +ℤ (S' +ℤ a)) z, sum fv S', sum w (fv +ℤ S'))

      right : fu -ℤ fv +ℤ a +ℤ (S +ℤ b) +ℤ z ≡ fu +ℤ S
      right = omega (ints, diff fu fv, sum (fu -ℤ fv) a, sum S b, sum (fu -ℤ fv +ℤ a) (S +ℤ b), diff fv a, diff (fv -ℤ a) b, sum (fu -ℤ fv +ℤ a +ℤ (S +ℤ b)) z, sum fu S)

  -- the next count, by the three tests that it goes by: u is inside, v is inside, v is the header
  abbrev counted : Bool → Bool → Bool → ℕ → ℕ
  counted iu iv eh c = when iu && not iv then 0 else when not eh then c else when iu then c + 1 else 1

  abbrev kept : Bool → ℤ → ℤ
  kept i x = when i then x else pos 0

  -- a loop of which v is not the header
  other_term : (k b c : ℕ) (iu iv eh : Bool) → eh ≡ false → (iv ≡ true → iu ≡ false → ⊥) → (iu ≡ true → iv ≡ false → R (pos 0) (remaining k b c))
      → R (kept iv (remaining k b (counted iu iv eh c))) (kept iu (remaining k b c))
  other_term k b c true true false e past left = O.same (remaining k b c)
  other_term k b c true true true e past left = absurd (true≢false e)
  other_term k b c false true eh e past left = absurd (past refl refl)
  other_term k b c true false eh e past left = left refl refl
  other_term k b c false false eh e past left = O.same (pos 0)

  module _ (t : Routine) (C : Certificate) (s : State) (v : ℕ) (w : ℤ) (S : Sound t R C s v w) where
    other : (l : ℕ) → l < loop_count t → (header t l ≡ v → ⊥) → R (term t C v (next t s v).count l) (term t C s.block s.count l)
    unfolding next next_count
    other l b ne =
        other_term (C.multiplier l) (C.visits l) (s.count l) (inside t s.block l) (inside t v l) (eqb (header t l) v) (ne_eqb (header t l) v ne)
        (λ p q. ne (S.enters l b p q)) (S.leaves l b)

    -- v is the header of no loop but its innermost
    only : (l : ℕ) → l < loop_count t → header t l ≡ v → l ≡ loop_of t v
    only l b e = sym (S.own l b) ∙ ap (loop_of t) e

    -- the header's own loop, from inside and from outside
    back_term : is_header t v ≡ true → inside t s.block (loop_of t v) ≡ true
        → R (term t C v (next t s v).count (loop_of t v) +ℤ pos (C.multiplier (loop_of t v))) (term t C s.block s.count (loop_of t v) +ℤ pos 0)
    unfolding next next_count
    back_term e i = rw (inside_own t v, i, e, +ℤ_idr, remaining_next) (O.same _)

    entry_term : is_header t v ≡ true → inside t s.block (loop_of t v) ≡ false
        → R (term t C v (next t s v).count (loop_of t v) +ℤ pos 0) (term t C s.block s.count (loop_of t v) +ℤ remaining (C.multiplier (loop_of t v)) (C.visits (loop_of t v)) 1)
    unfolding next next_count
    entry_term e i = rw (inside_own t v, i, e, +ℤ_idr, +ℤ_idl) (O.same _)

    pub step : R (w +ℤ potential t C (next t s v)) (potential t C s)
    unfolding potential next
    step = go (is_header t v) refl (inside t s.block (loop_of t v)) refl
      where
        m : ℕ
        m = loop_count t

        h : ℕ
        h = loop_of t v

        fu : ℤ
        fu = C.figure s.block

        fv : ℤ
        fv = C.figure v

        old : ℕ → ℤ
        old = term t C s.block s.count

        new : ℕ → ℤ
        new = term t C v (next t s v).count

        others : (l : ℕ) → l < m → (l ≡ h → ⊥) → R (new l) (old l)
        others l b ne = other l b (λ q. ne (only l b q))

        go : (e : Bool) → is_header t v ≡ e → (i : Bool) → inside t s.block h ≡ i → R (w +ℤ (fv +ℤ sum_below m new)) (fu +ℤ sum_below m old)
        go false e i j =
            combine w fu fv (sum_below m old) (sum_below m new) (pos 0) (pos 0) (O.shift w (fu -ℤ fv) (pos 0) (S.plain e))
            (O.shift (sum_below m new) (sum_below m old) (pos 0)
            (sum_mono R O m new old (λ l b. other l b (λ q. eqb-false (header t h) v e (ap (header t) (sym (only l b q)) ∙ q)))))
        go true e true i =
            combine w fu fv (sum_below m old) (sum_below m new) (pos (C.multiplier h)) (pos 0) (rw +ℤ_idr (S.back e i))
            (sum_but R O m new old h (pos (C.multiplier h)) (pos 0) S.loop others (back_term e i))
        go true e false i =
            combine w fu fv (sum_below m old) (sum_below m new) (pos 0) (remaining (C.multiplier h) (C.visits h) 1) (rw +ℤ_idr (S.entry e i))
            (sum_but R O m new old h (pos 0) (remaining (C.multiplier h) (C.visits h) 1) S.loop others (entry_term e i))
