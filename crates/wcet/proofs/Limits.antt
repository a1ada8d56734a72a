-- The limits along a list: a test at each block, and an order of each count and its limit; and a counted run by its parts. Assumes nothing.
use mathlib.Core.Path.{◌≡◌}
use mathlib.Core.Bool.{Bool, true, false, not, ◌&&◌}
use mathlib.Core.List.{List, [], ◌∷◌}
use Prim.Native.Nat.{ℕ, zero, suc, ◌≤◌, ◌<◌}
use native.Mathlib.Omega.{arith}
use lib.Dec.{eqb, ltb}
use borrow.Author.Tests.{eqb-true, eq-eqb, ltb-false, le-ltb, not-true}
use lib.ListN.{length, take}
use lib.Seq.{take-length}
use Rattle.lists.proofs.Tests.{and-true, both}
use Rattle.lists.proofs.Search.{none_of, any_none}
use Rattle.wcet.specs.Table.{Routine, loop_count, limit}
use Rattle.wcet.specs.Run.{path, run, State, start, next, after, passes_limit, keeps_limits, counted_run}

module _ (t : Routine) where
  abbrev pub WithinLimits : State → Type 0
  WithinLimits s = (l : ℕ) → l < loop_count t → s.count l ≤ limit t l

  pub limits_kept : (s : State) → passes_limit t s ≡ false → WithinLimits s
  unfolding passes_limit
  limits_kept s e l b = ltb-false (limit t l) (s.count l) (none_of (loop_count t) (λ l. ltb (limit t l) (s.count l)) e l b)

  pub kept_limits : (s : State) → WithinLimits s → passes_limit t s ≡ false
  unfolding passes_limit
  kept_limits s h = any_none (loop_count t) (λ l. ltb (limit t l) (s.count l)) (λ l b. le-ltb (limit t l) (s.count l) (h l b))

  negated : {b : Bool} → b ≡ false → not b ≡ true
  negated e = rw e

  -- a list keeps the limits exactly where each of its beginnings ends in a state within them
  pub keeps_each : (w : List ℕ) (s : State) → keeps_limits t s w ≡ true → (k : ℕ) → k ≤ length w → WithinLimits (after t s (take k w))
  unfolding keeps_limits after
  keeps_each [] s e zero h = limits_kept s (not-true _ e)
  keeps_each [] s e (suc k) h = absurd (omega arith)
  keeps_each (v ∷ w) s e zero h = limits_kept s (not-true _ (and-true _ _ e).0)
  keeps_each (v ∷ w) s e (suc k) h = keeps_each w (next t s v) (and-true (not (passes_limit t s)) _ e).1 k (omega arith)

  -- so one that keeps them ends within them
  pub within_after : (w : List ℕ) (s : State) → keeps_limits t s w ≡ true → WithinLimits (after t s w)
  within_after w s e = rw (take-length w) at (keeps_each w s e (length w) (omega arith))

  pub each_keeps : (w : List ℕ) (s : State) → ((k : ℕ) → k ≤ length w → WithinLimits (after t s (take k w))) → keeps_limits t s w ≡ true
  unfolding keeps_limits after
  each_keeps [] s h = negated (kept_limits s (h 0 (omega arith)))
  each_keeps (v ∷ w) s h = both (negated (kept_limits s (h 0 (omega arith)))) (each_keeps w (next t s v) (λ k b. h (suc k) (omega arith)))

-- a list that begins with v is a counted run exactly where v is block 0, edges lead on from it, and the limits are kept
pub record Counted (t : Routine) (v : ℕ) (w : List ℕ) : Type 0 where
  pub starts : v ≡ 0
  pub follows : path t v w ≡ true
  pub keeps : keeps_limits t start w ≡ true

pub counted_parts : (t : Routine) (v : ℕ) (w : List ℕ) → counted_run t (v ∷ w) ≡ true → Counted t v w
unfolding counted_run run
counted_parts t v w e =
    let p : ((eqb v 0 && path t v w) ≡ true) × (keeps_limits t start w ≡ true) = and-true _ _ e in
    let q : (eqb v 0 ≡ true) × (path t v w ≡ true) = and-true _ _ p.0 in
    record { starts = eqb-true v 0 q.0; follows = q.1; keeps = p.1 }

pub parts_counted : (t : Routine) (v : ℕ) (w : List ℕ) → Counted t v w → counted_run t (v ∷ w) ≡ true
unfolding counted_run run
parts_counted t v w C = both (both (eq-eqb v 0 C.starts) C.follows) C.keeps
