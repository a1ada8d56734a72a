-- The loops around a loop are itself and the loops around its parent (`around_parent`: so the loop sets are built). None of them is above it,
-- and a loop around one of them is one of them. An edge that enters a loop enters its target's innermost one (`entered_own`), and where it
-- keeps 207 no other (`enters_one`). Assumes nothing.
use mathlib.Core.Path.{◌≡◌, refl, sym, ◌∙◌, ap}
use mathlib.Core.Bool.{Bool, true, false, not, ◌&&◌, ◌||◌, or-true}
use mathlib.Core.List.{List}
use Prim.Native.Nat.{ℕ, zero, suc, ◌≤◌, ◌<◌}
use native.Mathlib.Decide.{ℕ_discrete}
use native.Mathlib.Omega.{arith}
use borrow.Author.Tests.{eqb-true, ne_eqb}
use lib.Dec.{eqb}
use lib.ListN.{length, get_or}
use Rattle.wcet.specs.Table.{Routine, block_count, loop_count, loop_of, header, edge, around, inside}
use Rattle.wcet.proofs.Nesting.{Nested}
use Rattle.wcet.proofs.Entry.{around_0}

-- loop 0 is its own parent, and any other loop's parent is below it
module _ (parents : List ℕ) (root : get_or parents 0 0 ≡ 0) (below : (l : ℕ) → 0 < l → get_or parents l 0 < l) where
  -- steps that are not needed change nothing
  around_steps : (d e l k : ℕ) → l ≤ d → l ≤ e → around parents d l k ≡ around parents e l k
  unfolding around
  around_steps zero e l k hd he = let z : l ≡ 0 = omega arith in rw z (sym (around_0 parents root e k))
  around_steps (suc d) zero l k hd he = let z : l ≡ 0 = omega arith in rw z (around_0 parents root (suc d) k)
  around_steps (suc d) (suc e) l k hd he = go (ℕ_discrete l 0) (λ a b. around_steps d e (get_or parents l 0) k a b)
    where
      go : Dec (l ≡ 0) → (get_or parents l 0 ≤ d → get_or parents l 0 ≤ e → around parents d (get_or parents l 0) k ≡ around parents e (get_or parents l 0) k)
          → (eqb l k || around parents d (get_or parents l 0) k) ≡ (eqb l k || around parents e (get_or parents l 0) k)
      go (yes z) rest = rw (z, root, around_0 parents root d k, around_0 parents root e k)
      go (no ne) rest =
          let b : get_or parents l 0 < l = below l (omega arith) in
          ap (λ (x : Bool). eqb l k || x) (rest (omega arith) (omega arith))

  pub around_parent : (l k : ℕ) → 0 < l → l < length parents
      → around parents (length parents) l k ≡ (eqb l k || around parents (length parents) (get_or parents l 0) k)
  unfolding around
  around_parent l k z h =
      let b : get_or parents l 0 < l = below l z in
      around_steps (length parents) (suc l) l k (omega arith) (omega arith)
      ∙ ap (λ (x : Bool). eqb l k || x) (around_steps l (length parents) (get_or parents l 0) k (omega arith) (omega arith))

  -- no loop above l is around it
  pub around_above : (d l k : ℕ) → l < k → around parents d l k ≡ false
  unfolding around
  around_above zero l k h = ne_eqb l k (λ e. omega arith)
  around_above (suc d) l k h = rw (ne_eqb l k (λ e. omega arith)) (go (ℕ_discrete l 0) (λ b. around_above d (get_or parents l 0) k b))
    where
      go : Dec (l ≡ 0) → (get_or parents l 0 < k → around parents d (get_or parents l 0) k ≡ false) → around parents d (get_or parents l 0) k ≡ false
      go (yes z) rest = rest (omega (arith, root, ap (λ (x : ℕ). get_or parents x 0) z))
      go (no ne) rest = rest (omega (arith, below l (omega arith)))

  -- what is around a loop that is around l is around l
  pub around_trans : (d l j k : ℕ) → l < length parents → around parents d l j ≡ true → around parents (length parents) j k ≡ true
      → around parents (length parents) l k ≡ true
  unfolding around
  around_trans zero l j k h a b = rw (eqb-true l j a) b
  around_trans (suc d) l j k h a b = go (eqb l j) refl a (ℕ_discrete l 0) (λ c e. around_trans d (get_or parents l 0) j k c e b)
    where
      go : (x : Bool) → eqb l j ≡ x → (x || around parents d (get_or parents l 0) j) ≡ true → Dec (l ≡ 0)
          → (get_or parents l 0 < length parents → around parents d (get_or parents l 0) j ≡ true → around parents (length parents) (get_or parents l 0) k ≡ true)
          → around parents (length parents) l k ≡ true
      go true x e z rest = rw (eqb-true l j x) b
      go false x e (yes z) rest =
          let p : get_or parents l 0 ≡ l = ap (λ (y : ℕ). get_or parents y 0) z ∙ root ∙ sym z in
          rw p at (rest (omega arith) e)
      go false x e (no ne) rest =
          let c : get_or parents l 0 < l = below l (omega arith) in
          rw (around_parent l k (omega arith) h, rest (omega arith) e) (or-true (eqb l k))

  -- an edge between blocks of loops u and v that enters any loop enters v's
  pub entered_own : (u v k : ℕ) → u < length parents → around parents (length parents) u v ≡ true
      → (around parents (length parents) v k && not (around parents (length parents) u k)) ≡ false
  entered_own u v k h e = go (around parents (length parents) v k) refl
    where
      go : (x : Bool) → around parents (length parents) v k ≡ x → (x && not (around parents (length parents) u k)) ≡ false
      go true x = rw (around_trans (length parents) u v k h e x)
      go false x = refl

module _ (t : Routine) (N : Nested t) where
  -- v is the header of loop l exactly where it is a header and l its innermost loop
  pub header_of : (l v : ℕ) → l < loop_count t → header t l ≡ v → l ≡ loop_of t v
  header_of l v h e = sym (N.own l h) ∙ ap (loop_of t) e

  pub enters_one : (u v l : ℕ) → u < block_count t → edge t u v ≡ true → l < loop_count t → inside t v l ≡ true → inside t u l ≡ false → l ≡ loop_of t v
  enters_one u v l b e h iv iu = header_of l v h (N.at_header u v l b e h iv iu)
