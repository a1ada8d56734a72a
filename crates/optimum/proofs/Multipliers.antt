-- The remade multipliers: one for each loop (`multiplier_count`), 0 for loop 0 (`loop0_multiplier`), and for each other loop the tail at its
-- header with all of them (`made_multiplier`): it reads those of the loops inside it only, which are above it. Assumes nothing.
use mathlib.Core.Path.{◌≡◌, refl, sym, ◌∙◌, ap}
use mathlib.Core.Bool.{true}
use mathlib.Core.List.{List, []}
use Prim.Native.Nat.{ℕ, zero, suc, ◌-◌, ◌≤◌, ◌<◌}
use native.Mathlib.Decide.{ℕ_discrete}
use native.Mathlib.Omega.{arith}
use lib.ListN.{length, get_or, set, replicate, length-set, length-replicate, get_or-replicate}
use lib.Seq.{get_or-set_same, get_or-set_other}
use Rattle.wcet.specs.Table.{Routine, loop_count, header, inside}
use Rattle.wcet.proofs.Nesting.{Nested}
use Rattle.wcet.proofs.Counts.{header_inside}
use Rattle.optimum.specs.Remade.{with_columns}
use Rattle.optimum.specs.Columns.{or_default, tails, multipliers_down, remade_multipliers, remultiplied}
use Rattle.optimum.proofs.Structure.{inside_highest}
use Rattle.optimum.proofs.Columns.{nested_too}
use Rattle.optimum.proofs.Steps.{tails_inner}

module _ (t : Routine) where
  -- the multiplier of loop l by the multipliers ks
  abbrev made : List ℕ → ℕ → ℕ
  made ks l = or_default 0 (tails (with_columns t [] ks) l (header t l))

  down_length : (l : ℕ) (ks : List ℕ) → length (multipliers_down t l ks) ≡ length ks
  unfolding multipliers_down
  down_length zero ks = refl
  down_length (suc l) ks = down_length l (set ks (suc l) (made ks (suc l))) ∙ length-set ks (suc l) (made ks (suc l))

  -- those of loop 0 and of loops above l stay
  down_kept : (l : ℕ) (ks : List ℕ) (j : ℕ) → (0 < j → l < j) → get_or (multipliers_down t l ks) j 0 ≡ get_or ks j 0
  unfolding multipliers_down
  down_kept zero ks j h = refl
  down_kept (suc l) ks j h =
      let v : ℕ = made ks (suc l) in
      down_kept l (set ks (suc l) v) j (λ z. omega (arith, h z)) ∙ get_or-set_other ks (suc l) j v 0 (λ e. omega (arith, h (omega arith)))

  -- and each of the others is the tail with those above it, and so with all of them
  down_made : Nested t → (l : ℕ) (ks : List ℕ) → length ks ≡ loop_count t → get_or ks 0 0 ≡ 0 → l < loop_count t → (j : ℕ) → 0 < j → j ≤ l
      → get_or (multipliers_down t l ks) j 0 ≡ made (multipliers_down t l ks) j
  unfolding multipliers_down inside
  down_made N zero ks c z m j p h = absurd (omega arith)
  down_made N (suc l) ks c z m j p h =
      go (ℕ_discrete j (suc l)) (down_made N l (set ks (suc l) v) (length-set ks (suc l) v ∙ c) (get_or-set_other ks (suc l) 0 v 0 (λ e. omega arith) ∙ z) (omega arith) j p)
    where
      v : ℕ
      v = made ks (suc l)

      all : List ℕ
      all = multipliers_down t l (set ks (suc l) v)

      inner : (k : ℕ) → k < loop_count t → inside t (header t k) (suc l) ≡ true → (k ≡ suc l → ⊥) → get_or ks k 0 ≡ get_or all k 0
      inner k b i ne =
          let a : suc l ≤ k = rw (N.own k b) at (inside_highest t N (header t k) (suc l) i) in
          sym (down_kept l (set ks (suc l) v) k (λ q. omega arith) ∙ get_or-set_other ks (suc l) k v 0 ne)

      go : Dec (j ≡ suc l) → (j ≤ l → get_or all j 0 ≡ made all j) → get_or all j 0 ≡ made all j
      go (yes q) rest =
          rw q
          (down_kept l (set ks (suc l) v) (suc l) (λ z. omega arith) ∙ get_or-set_same ks (suc l) v 0 (omega arith)
          ∙ ap (or_default 0) (tails_inner (with_columns t [] ks) (nested_too t [] ks N z) (suc l) m [] all inner _ (header t (suc l)) (N.header_block (suc l) m) (header_inside t N (suc l) m)))
      go (no ne) rest = rest (omega arith)

  pub multiplier_count : length (remade_multipliers t) ≡ loop_count t
  unfolding remade_multipliers
  multiplier_count = down_length (loop_count t - 1) (replicate (loop_count t) 0) ∙ length-replicate (loop_count t) 0

  pub loop0_multiplier : Nested t → get_or (remade_multipliers t) 0 0 ≡ 0
  unfolding remade_multipliers
  loop0_multiplier N = down_kept (loop_count t - 1) (replicate (loop_count t) 0) 0 (λ z. absurd (omega arith)) ∙ get_or-replicate (loop_count t) 0 0 0 N.some_loop

  pub made_multiplier : Nested t → (l : ℕ) → 0 < l → l < loop_count t → get_or (remade_multipliers t) l 0 ≡ or_default 0 (tails (remultiplied t) l (header t l))
  unfolding remade_multipliers
  made_multiplier N l z m =
      down_made N (loop_count t - 1) (replicate (loop_count t) 0) (length-replicate (loop_count t) 0) (get_or-replicate (loop_count t) 0 0 0 (omega arith)) (omega arith) l z (omega arith)
