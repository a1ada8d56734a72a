-- A path of any length, in either direction: the weight of its edges and the potential at its ends. Assumes nothing.
use mathlib.Core.Path.{◌≡◌, refl, subst₂}
use mathlib.Core.Bool.{Bool, true, false}
use mathlib.Core.List.{List, [], ◌∷◌}
use Prim.Native.Nat.{ℕ, zero, suc, ◌+◌, ◌≤◌, ◌<◌}
use native.Mathlib.Omega.{arith}
use lib.IntN.{ℤ, pos, ◌+ℤ◌, +ℤ_assoc, +ℤ_idl, +ℤ_idr}
use lib.ListN.{length, get_or, take}
use Rattle.lists.specs.Search.{when◌then◌else◌}
use Rattle.integers.proofs.Direction.{Direction, shift_left}
use Rattle.integers.proofs.Sums.{sum_below, sum_zero, sum_mono}
use Rattle.wcet.specs.Table.{Routine, loop_count, inside}
use Rattle.wcet.specs.Run.{State, next, after}
use Rattle.wcet.proofs.Potential.{Certificate, remaining, term, potential, Sound, step}

-- the weights of the edges from u along w
unfoldable pub path_weight : (ℕ → ℕ → ℕ) → ℕ → List ℕ → ℕ
path_weight weight u [] = 0
path_weight weight u (v ∷ w) = weight u v + path_weight weight v w

-- each step from s along w is sound
abbrev pub AllSound : Routine → (ℤ → ℤ → Type 0) → Certificate → (ℕ → ℕ → ℕ) → State → List ℕ → Type 0
AllSound t R C weight s [] = Unit {0}
AllSound t R C weight s (v ∷ w) = Sound t R C s v (pos (weight s.block v)) × AllSound t R C weight (next t s v) w

module _ (R : ℤ → ℤ → Type 0) (O : Direction R) (t : Routine) (C : Certificate) (weight : ℕ → ℕ → ℕ) where
  along : (w : List ℕ) (s : State) → AllSound t R C weight s w → R (pos (path_weight weight s.block w) +ℤ potential t C (after t s w)) (potential t C s)
  unfolding after path_weight next
  along [] s h = rw +ℤ_idl (O.same (potential t C s))
  along (v ∷ w) s h =
      O.trans (pos (a + b) +ℤ z) (pos a +ℤ potential t C (next t s v)) (potential t C s)
      (rw (+ℤ_assoc (pos a) (pos b) z) (shift_left R O (pos b +ℤ z) (potential t C (next t s v)) (pos a) (along w (next t s v) h.1)))
      (step R O t C s v (pos a) h.0)
    where
      a : ℕ
      a = weight s.block v

      b : ℕ
      b = path_weight weight v w

      z : ℤ
      z = potential t C (after t (next t s v) w)

  -- where the rest of each loop around the present block is on one side of 0, the potential is on that side of the figure
  pub at_end : (s : State) → ((l : ℕ) → l < loop_count t → inside t s.block l ≡ true → R (pos 0) (remaining (C.multiplier l) (C.visits l) (s.count l)))
      → R (C.figure s.block) (potential t C s)
  unfolding potential
  at_end s h = subst₂ R (+ℤ_idr f) refl (shift_left R O (pos 0) (sum_below (loop_count t) g) f left)
    where
      f : ℤ
      f = C.figure s.block

      g : ℕ → ℤ
      g = term t C s.block s.count

      go : (l : ℕ) → l < loop_count t → (i : Bool) → inside t s.block l ≡ i → R (pos 0) (when i then remaining (C.multiplier l) (C.visits l) (s.count l) else pos 0)
      go l b true e = h l b e
      go l b false e = O.same (pos 0)

      left : R (pos 0) (sum_below (loop_count t) g)
      left = rw (sum_zero (loop_count t) (λ _. pos 0) (λ l b. refl)) at (sum_mono R O (loop_count t) (λ _. pos 0) g (λ l b. go l b (inside t s.block l) refl))

  -- the whole run: the weights along w and the figure where it ends, against the potential where it starts
  pub whole_run : (w : List ℕ) (s : State) → AllSound t R C weight s w → R (C.figure (after t s w).block) (potential t C (after t s w))
      → R (pos (path_weight weight s.block w) +ℤ C.figure (after t s w).block) (potential t C s)
  whole_run w s h e =
      O.trans (c +ℤ f) (c +ℤ P) (potential t C s) (shift_left R O f P c e) (along w s h)
    where
      c : ℤ
      c = pos (path_weight weight s.block w)

      f : ℤ
      f = C.figure (after t s w).block

      P : ℤ
      P = potential t C (after t s w)

-- the block after the first k of w
pub after_block : (t : Routine) (w : List ℕ) (k : ℕ) (s : State) → k ≤ length w → (after t s (take k w)).block ≡ get_or (s.block ∷ w) k 0
unfolding after next
after_block t w zero s h = refl
after_block t [] (suc k) s h = absurd (omega arith)
after_block t (v ∷ w) (suc k) s h = after_block t w k (next t s v) (omega arith)
