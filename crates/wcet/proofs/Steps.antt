-- 313: of all limits only that of the loop whose header is visited can be passed by a step from a state within them. Assumes nothing.
use mathlib.Core.Path.{◌≡◌, refl, sym, ◌∙◌, ap}
use mathlib.Core.Bool.{Bool, true, false, not, ◌&&◌}
use Prim.Native.Nat.{ℕ, ◌≤◌, ◌<◌}
use native.Mathlib.Decide.{ℕ_discrete}
use native.Mathlib.Omega.{arith}
use lib.Dec.{ltb}
use borrow.Author.Tests.{eqb-false, ne_eqb, le-ltb}
use Rattle.lists.specs.Search.{when◌then◌else◌, any_below}
use Rattle.lists.proofs.Search.{any_at, any_none}
use Rattle.wcet.specs.Table.{Routine, block_count, loop_count, loop_of, header, limit, edge, inside, is_header}
use Rattle.wcet.specs.Run.{State, next_count, next, passes_limit}
use Rattle.wcet.proofs.Nesting.{Nested}
use Rattle.wcet.proofs.Limits.{WithinLimits}
use Rattle.wcet.proofs.Around.{header_of}

-- a loop whose header is not visited keeps its count or loses it
pub kept_count : (t : Routine) (s : State) (v l : ℕ) → (header t l ≡ v → ⊥) → {b : ℕ} → s.count l ≤ b → (next t s v).count l ≤ b
unfolding next next_count
kept_count t s v l ne {b} h = rw (ne_eqb (header t l) v ne) (go (inside t s.block l && not (inside t v l)))
  where
    go : (x : Bool) → (when x then 0 else s.count l) ≤ b
    go true = omega arith
    go false = h

pub limit_at_header : (t : Routine) → Nested t → (s : State) (v : ℕ) → s.block < block_count t → WithinLimits t s → edge t s.block v ≡ true
    → passes_limit t (next t s v) ≡ (is_header t v && ltb (limit t (loop_of t v)) ((next t s v).count (loop_of t v)))
unfolding passes_limit
limit_at_header t N s v b W e = go (is_header t v) refl (passes h) refl
  where
    h : ℕ
    h = loop_of t v

    passes : ℕ → Bool
    passes l = ltb (limit t l) ((next t s v).count l)

    others : (l : ℕ) → l < loop_count t → (header t l ≡ v → ⊥) → passes l ≡ false
    others l k ne = le-ltb (limit t l) ((next t s v).count l) (kept_count t s v l ne (W l k))

    go : (i : Bool) → is_header t v ≡ i → (p : Bool) → passes h ≡ p → any_below (loop_count t) passes ≡ (i && p)
    go true i true p = any_at (loop_count t) passes h (N.innermost v (N.target s.block v b e)) p
    go true i false p = any_none (loop_count t) passes (λ l k. at l k (ℕ_discrete l h))
      where
        at : (l : ℕ) → l < loop_count t → Dec (l ≡ h) → passes l ≡ false
        at l k (yes q) = rw q p
        at l k (no ne) = others l k (λ q. ne (header_of t N l v k q))
    go false i p q = any_none (loop_count t) passes (λ l k. others l k (λ r. eqb-false (header t h) v i (ap (header t) (sym (header_of t N l v k r)) ∙ r)))
