-- The depth of a loop is one more than its parent's (`depth_parent`), and an enclosing loop is less deep (`depth_inner`). The loops around a
-- loop are a chain (`around_both`), so among them the deeper is the greater; there are as many as its depth (`depth_count`), one of each
-- depth up to its own (`at_depth`), and by 205 at most 16 (`depth_most16`). Assumes nothing.
use Rattle.std.proofs.Common.{◌≡◌, refl, sym, ◌∙◌, ap, Bool, true, false, not, ◌&&◌, ◌||◌, true≢false, List, ℕ, zero, suc, ◌≤◌, ◌<◌, arith, eqb, ltb, length, get_or}
use mathlib.Core.Bool.{and-true, or-true}
use native.Mathlib.Decide.{ℕ_discrete, dec_le}
use borrow.Author.Tests.{ltb-true, ltb-false, eqb-true, eq-eqb, ne_eqb}
use lib.ListN.{get_or-eq_default}
use Rattle.limits.specs.Limits.{most_loops, most_depth}
use Rattle.lists.specs.Search.{when◌then◌else◌, count_below}
use Rattle.lists.proofs.Search.{count_ext, count_none, count_remove}
use Rattle.wcet.specs.Table.{Routine, loop_count, parent, around, inside}
use Rattle.wcet.specs.Rules.{too_deep, structure_rules}
use Rattle.wcet.specs.Claim.{AllHold}
use Rattle.wcet.proofs.Nesting.{Nested, nested}
use Rattle.wcet.proofs.Entry.{around_0}
use Rattle.wcet.proofs.Around.{around_parent, around_above}
use Rattle.loopsets.specs.Sets.{Parents}
use Rattle.levels.specs.Levels.{depth_by, depth, no_loop, Level}

-- a loop is around itself
pub around_own : (parents : List ℕ) (d l : ℕ) → around parents d l l ≡ true
unfolding around
around_own parents zero l = eq-eqb l l refl
around_own parents (suc d) l = rw (eq-eqb l l refl)

depth_by_root : (parents : List ℕ) (d : ℕ) → depth_by parents d 0 ≡ 1
unfolding depth_by
depth_by_root parents zero = refl
depth_by_root parents (suc d) = refl

depth_by_least : (parents : List ℕ) (d l : ℕ) → 1 ≤ depth_by parents d l
unfolding depth_by
depth_by_least parents zero l = omega arith
depth_by_least parents (suc d) l = go (eqb l 0)
  where
    go : (b : Bool) → 1 ≤ (when b then 1 else suc (depth_by parents d (get_or parents l 0)))
    go true = omega arith
    go false = omega arith

depth_by_most : (parents : List ℕ) (d l : ℕ) → depth_by parents d l ≤ suc d
unfolding depth_by
depth_by_most parents zero l = omega arith
depth_by_most parents (suc d) l = go (eqb l 0) (depth_by_most parents d (get_or parents l 0))
  where
    go : (b : Bool) → depth_by parents d (get_or parents l 0) ≤ suc d → (when b then 1 else suc (depth_by parents d (get_or parents l 0))) ≤ suc (suc d)
    go true h = omega arith
    go false h = omega arith

module _ (parents : List ℕ) (P : Parents parents) where
  -- steps that are not needed change nothing
  depth_steps : (d e l : ℕ) → l ≤ d → l ≤ e → depth_by parents d l ≡ depth_by parents e l
  unfolding depth_by
  depth_steps zero e l hd he = let z : l ≡ 0 = omega arith in rw z (sym (depth_by_root parents e))
  depth_steps (suc d) zero l hd he = let z : l ≡ 0 = omega arith in rw z (depth_by_root parents (suc d))
  depth_steps (suc d) (suc e) l hd he = go (ℕ_discrete l 0) (λ a b. depth_steps d e (get_or parents l 0) a b)
    where
      go : Dec (l ≡ 0) → (get_or parents l 0 ≤ d → get_or parents l 0 ≤ e → depth_by parents d (get_or parents l 0) ≡ depth_by parents e (get_or parents l 0))
          → (when eqb l 0 then 1 else suc (depth_by parents d (get_or parents l 0))) ≡ (when eqb l 0 then 1 else suc (depth_by parents e (get_or parents l 0)))
      go (yes z) rest = rw (eq-eqb l 0 z)
      go (no ne) rest =
          let b : get_or parents l 0 < l = P.below l (omega arith) in
          rw (rest (omega arith) (omega arith))

  pub depth_root : depth parents 0 ≡ 1
  depth_root = depth_by_root parents (length parents)

  pub depth_parent : (l : ℕ) → 0 < l → l < length parents → depth parents l ≡ suc (depth parents (get_or parents l 0))
  unfolding depth_by
  depth_parent l z h =
      let b : get_or parents l 0 < l = P.below l z in
      depth_steps (length parents) (suc l) l (omega arith) (omega arith)
      ∙ rw (ne_eqb l 0 (λ e. omega arith)) (ap suc (depth_steps l (length parents) (get_or parents l 0) (omega arith) (omega arith)))

  pub depth_least : (l : ℕ) → 1 ≤ depth parents l
  depth_least = depth_by_least parents (length parents)

  pub depth_most : (l : ℕ) → depth parents l ≤ suc (length parents)
  depth_most = depth_by_most parents (length parents)

  pub depth_one : (l : ℕ) → l < length parents → depth parents l ≡ 1 → l ≡ 0
  depth_one l h e = go (ℕ_discrete l 0)
    where
      go : Dec (l ≡ 0) → l ≡ 0
      go (yes z) = z
      go (no ne) = absurd (omega (arith, depth_parent l (omega arith) h, depth_least (get_or parents l 0)))

  -- a loop around j is j or around its parent
  pub around_cases : {A : Type 0} → (j l : ℕ) → j < length parents → around parents (length parents) j l ≡ true → (j ≡ l → A)
      → (0 < j → get_or parents j 0 < j → around parents (length parents) (get_or parents j 0) l ≡ true → A) → A
  around_cases {A} j l h a own up = go (ℕ_discrete j l) (ℕ_discrete j 0)
    where
      go : Dec (j ≡ l) → Dec (j ≡ 0) → A
      go (yes e) z = own e
      go (no ne) (yes z) = own (z ∙ eqb-true 0 l (sym (around_0 parents P.root (length parents) l) ∙ rw z at a))
      go (no ne) (no nz) = up (omega arith) (P.below j (omega arith)) (rw (ne_eqb j l ne) at (sym (around_parent parents P.root P.below j l (omega arith) h) ∙ a))

  -- the loops around k have every depth up to k's
  depth_around : (n k d : ℕ) → k < n → k < length parents → 1 ≤ d → d ≤ depth parents k
      → (l : ℕ) × (l < length parents) × (around parents (length parents) k l ≡ true) × (depth parents l ≡ d)
  depth_around zero k d b h least le = absurd (omega arith)
  depth_around (suc n) k d b h least le = go (ℕ_discrete k 0) (ℕ_discrete (depth parents k) d) (λ z c. depth_around n (get_or parents k 0) d z c least)
    where
      go : Dec (k ≡ 0) → Dec (depth parents k ≡ d)
          → (get_or parents k 0 < n → get_or parents k 0 < length parents → d ≤ depth parents (get_or parents k 0)
          → (l : ℕ) × (l < length parents) × (around parents (length parents) (get_or parents k 0) l ≡ true) × (depth parents l ≡ d))
          → (l : ℕ) × (l < length parents) × (around parents (length parents) k l ≡ true) × (depth parents l ≡ d)
      go z (yes e) rest = (k, h, around_own parents (length parents) k, e)
      go (yes z) (no ne) rest = absurd (omega (arith, depth_root, ap (λ (x : ℕ). depth parents x) z))
      go (no nz) (no ne) rest =
          let c : get_or parents k 0 < k = P.below k (omega arith) in
          let r : (l : ℕ) × (l < length parents) × (around parents (length parents) (get_or parents k 0) l ≡ true) × (depth parents l ≡ d)
          = rest (omega arith) (omega arith) (omega (arith, depth_parent k (omega arith) h)) in
          (r.0, r.1, rw (around_parent parents P.root P.below k r.0 (omega arith) h, r.2) (or-true (eqb k r.0)), r.3)

  pub at_depth : (k d : ℕ) → k < length parents → 1 ≤ d → d ≤ depth parents k
      → (l : ℕ) × (l < length parents) × (around parents (length parents) k l ≡ true) × (depth parents l ≡ d)
  at_depth k d = depth_around (suc k) k d (omega arith)

  -- the loops around l are l and those that p counts
  count_own : (l : ℕ) (p : ℕ → Bool) → l < length parents
      → ((k : ℕ) → k < length parents → (around parents (length parents) l k && not (eqb k l)) ≡ p k)
      → count_below (length parents) (around parents (length parents) l) ≡ suc (count_below (length parents) p)
  count_own l p h same =
      count_remove (length parents) l (around parents (length parents) l) h (around_own parents (length parents) l)
      ∙ ap suc (count_ext (length parents) (λ k. around parents (length parents) l k && not (eqb k l)) p same)

  count_below_lem : (n l : ℕ) → l < n → l < length parents → depth parents l ≡ count_below (length parents) (around parents (length parents) l)
  count_below_lem zero l b h = absurd (omega arith)
  count_below_lem (suc n) l b h = go (ℕ_discrete l 0) (λ z c. count_below_lem n (get_or parents l 0) z c)
    where
      up : ℕ → Bool
      up = around parents (length parents) (get_or parents l 0)

      -- loop 0 is around itself only, and another loop is not around its parent
      root : (k : ℕ) → k < length parents → (around parents (length parents) 0 k && not (eqb k 0)) ≡ false
      root k c = rw (around_0 parents P.root (length parents) k) (at (ℕ_discrete k 0))
        where
          at : Dec (k ≡ 0) → (eqb 0 k && not (eqb k 0)) ≡ false
          at (yes z) = rw z
          at (no ne) = rw (ne_eqb 0 k (λ e. ne (sym e)))

      other : 0 < l → (k : ℕ) → k < length parents → (around parents (length parents) l k && not (eqb k l)) ≡ up k
      other z k c = rw (around_parent parents P.root P.below l k z h) (at (ℕ_discrete k l))
        where
          at : Dec (k ≡ l) → ((eqb l k || up k) && not (eqb k l)) ≡ up k
          at (yes e) =
              rw (e, eq-eqb l l refl) (sym (around_above parents P.root P.below (length parents) (get_or parents l 0) l (P.below l z)))
          at (no ne) = rw (ne_eqb l k (λ e. ne (sym e)), ne_eqb k l ne) (and-true (up k))

      go : Dec (l ≡ 0) → (get_or parents l 0 < n → get_or parents l 0 < length parents → depth parents (get_or parents l 0) ≡ count_below (length parents) up)
          → depth parents l ≡ count_below (length parents) (around parents (length parents) l)
      go (yes z) rest =
          let c : count_below (length parents) (around parents (length parents) 0) ≡ suc (count_below (length parents) (λ _. false)) = count_own 0 (λ _. false) (omega arith) root in
          rw z (depth_root ∙ sym (c ∙ ap suc (count_none (length parents) (λ _. false) (λ k c. refl))))
      go (no nz) rest =
          let c : get_or parents l 0 < l = P.below l (omega arith) in
          depth_parent l (omega arith) h ∙ ap suc (rest (omega arith) (omega arith)) ∙ sym (count_own l up h (other (omega arith)))

  -- a loop's depth is how many loops are around it
  pub depth_count : (l : ℕ) → l < length parents → depth parents l ≡ count_below (length parents) (λ k. around parents (length parents) l k)
  depth_count l = count_below_lem (suc l) l (omega arith)

  -- a loop around j is not above j
  pub around_low : (j l : ℕ) → around parents (length parents) j l ≡ true → l ≤ j
  around_low j l a = go (ltb j l) refl
    where
      go : (b : Bool) → ltb j l ≡ b → l ≤ j
      go true q = absurd (true≢false (sym a ∙ around_above parents P.root P.below (length parents) j l (ltb-true j l q)))
      go false q = ltb-false j l q

  inner_below : (n k l : ℕ) → k < n → k < length parents → around parents (length parents) k l ≡ true → (k ≡ l → ⊥) → depth parents l < depth parents k
  inner_below zero k l b h a ne = absurd (omega arith)
  inner_below (suc n) k l b h a ne = around_cases k l h a (λ e. absurd (ne e)) (λ z c up. go (depth_parent k z h) (ℕ_discrete (get_or parents k 0) l) (λ ne. inner_below n (get_or parents k 0) l (omega arith) (omega arith) up ne))
    where
      go : depth parents k ≡ suc (depth parents (get_or parents k 0)) → Dec (get_or parents k 0 ≡ l)
          → ((get_or parents k 0 ≡ l → ⊥) → depth parents l < depth parents (get_or parents k 0)) → depth parents l < depth parents k
      go e (yes q) rest = omega (arith, ap (λ (x : ℕ). depth parents x) q)
      go e (no ne) rest = omega (arith, rest ne)

  -- an enclosing loop is less deep
  pub depth_inner : (k l : ℕ) → k < length parents → l < length parents → around parents (length parents) k l ≡ true → (k ≡ l → ⊥)
      → depth parents l < depth parents k
  depth_inner k l hk hl a ne = inner_below (suc k) k l (omega arith) hk a ne

  both_below : (n j k l : ℕ) → j < n → j < length parents → around parents (length parents) j k ≡ true → around parents (length parents) j l ≡ true → l ≤ k
      → around parents (length parents) k l ≡ true
  both_below zero j k l b h ak al le = absurd (omega arith)
  both_below (suc n) j k l b h ak al le =
      around_cases j k h ak (λ e. rw e at al) (λ z c up.
      around_cases j l h al (λ e. absurd (omega (arith, around_low (get_or parents j 0) k up))) (λ y i over. both_below n (get_or parents j 0) k l (omega arith) (omega arith) up over le))

  -- the loops around a loop are a chain
  pub around_both : (j k l : ℕ) → j < length parents → around parents (length parents) j k ≡ true → around parents (length parents) j l ≡ true → l ≤ k
      → around parents (length parents) k l ≡ true
  around_both j k l h ak al le = both_below (suc j) j k l (omega arith) h ak al le

  -- the deeper of two of them is the greater
  pub deeper_above : (j k l : ℕ) → j < length parents → around parents (length parents) j k ≡ true → around parents (length parents) j l ≡ true
      → depth parents k ≤ depth parents l → k ≤ l
  deeper_above j k l h ak al le = go (ltb l k) refl
    where
      go : (b : Bool) → ltb l k ≡ b → k ≤ l
      go true q =
          let b : l < k = ltb-true l k q in
          let low : k ≤ j = around_low j k ak in
          absurd (omega (arith, depth_inner k l (omega arith) (omega arith) (around_both j k l h ak al (omega arith)) (λ e. omega arith)))
      go false q = ltb-false l k q

  pub deeper_strict : (j k l : ℕ) → j < length parents → around parents (length parents) j k ≡ true → around parents (length parents) j l ≡ true
      → depth parents k < depth parents l → k < l
  deeper_strict j k l h ak al lt = go (ℕ_discrete k l) (deeper_above j k l h ak al (omega arith))
    where
      go : Dec (k ≡ l) → k ≤ l → k < l
      go (yes e) le = absurd (omega (arith, ap (λ (x : ℕ). depth parents x) e))
      go (no ne) le = omega arith

module _ (parents : List ℕ) (P : Parents parents) {d : ℕ} {level : List ℕ} (L : Level parents d level) where
  -- a loop of that depth is chosen for itself, and no other is
  pub level_own : (l : ℕ) → l < length parents → depth parents l ≡ d → get_or level l 0 ≡ l
  level_own l h e = L.each l l h h (around_own parents (length parents) l) e

  -- where no loop is chosen there is none
  pub level_none : length parents ≤ most_loops → (k : ℕ) → k < length parents → get_or level k 0 ≡ no_loop → (l : ℕ) → l < length parents
      → around parents (length parents) k l ≡ true → (depth parents l ≡ d → ⊥)
  level_none few k hk none l hl a e = omega (arith, L.each k l hk hl a e)

-- ---- the loops of a routine

-- 202
pub nested_parents : (t : Routine) → Nested t → Parents t.parents
nested_parents t N = record { root = N.loop0_parent; below = λ l z. go l z (dec_le (loop_count t) l) }
  where
    go : (l : ℕ) → 0 < l → Dec (loop_count t ≤ l) → parent t l < l
    go l z (yes h) = rw (get_or-eq_default t.parents 0 h) z
    go l z (no h) = N.parent_below l z (omega arith)

-- 205: no loop is deeper than that
pub depth_most16 : (t : Routine) → AllHold (structure_rules t) → (l : ℕ) → l < loop_count t → depth t.parents l ≤ most_depth
unfolding structure_rules too_deep inside
depth_most16 t h l b =
    let N : Nested t = nested t h in
    let deep : ltb most_depth (count_below (loop_count t) (around t.parents (loop_count t) l)) ≡ false
    = ap (λ (x : ℕ). ltb most_depth (count_below (loop_count t) (around t.parents (loop_count t) x))) (sym (N.own l b)) ∙ h.1.1.1.1.0 l b in
    rw (depth_count t.parents (nested_parents t N) l b) (ltb-false most_depth _ deep)
