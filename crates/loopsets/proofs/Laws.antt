-- How the sets of the loops around each loop are filled, from loop 0 up, and what they have. Assumes nothing.
use mathlib.Core.Path.{◌≡◌, refl, sym, ◌∙◌, ap}
use mathlib.Core.Bool.{Bool, true, false, ◌||◌}
use mathlib.Core.List.{List}
use Prim.Native.Nat.{ℕ, zero, suc, ◌+◌, ◌-◌, ◌^◌, ◌≤◌, ◌<◌}
use native.Mathlib.Decide.{ℕ_discrete}
use native.Mathlib.Omega.{arith}
use lib.Dec.{eqb, ltb}
use borrow.Author.Tests.{lt-ltb, le-ltb, ltb-true, ltb-false}
use lib.ListN.{length, get_or, set, replicate, length-set, get_or-replicate}
use lib.Seq.{get_or-set_same, get_or-set_other}
use Rattle.limits.specs.Limits.{most_loops}
use Rattle.lists.specs.Search.{when◌then◌else◌}
use Rattle.lists.proofs.Search.{tabulate-at, tabulated}
use Rattle.bits.specs.Digits.{has, set_of}
use Rattle.bits.proofs.Laws.{has_pow, has_set, set_is}
use Rattle.wcet.specs.Table.{around}
use Rattle.wcet.proofs.Entry.{around_0}
use Rattle.wcet.proofs.Around.{around_parent}
use Rattle.loopsets.specs.Sets.{member, set_at, Parents, sets_around}
use Rattle.loopsets.specs.declared.LoopSet.{LoopSet}

-- the set of loop l
abbrev word : List ℕ → ℕ → ℕ
word parents l = set_of most_loops (around parents (length parents) l)

-- the sets of the loops below i are filled, and the others empty
pub record Filled (parents sets : List ℕ) (i : ℕ) : Type 0 where
  pub size : length sets ≡ most_loops
  pub each : (l : ℕ) → l < most_loops → get_or sets l 0 ≡ (when ltb l i then word parents l else 0)

pub filled_first : (parents : List ℕ) → Parents parents → Filled parents (set (replicate most_loops 0) 0 1) 1
filled_first parents P = record { size = refl; each = at }
  where
    at : (l : ℕ) → l < most_loops → get_or (set (replicate most_loops 0) 0 1) l 0 ≡ (when ltb l 1 then word parents l else 0)
    at zero h = set_is most_loops 1 (around parents (length parents) 0) (omega arith) (λ k b. has_pow 0 k ∙ sym (around_0 parents P.root (length parents) k))
    at (suc l) h = rw (le-ltb (suc l) 1 (omega arith)) (get_or-replicate (most_loops - 1) l 0 0 (omega arith))

-- s is the set of l's parent with l in it
pub filled_next : (parents sets : List ℕ) → Parents parents → (l : ℕ) → 1 ≤ l → l < length parents → length parents ≤ most_loops → Filled parents sets l
    → (s : LoopSet) → s.word < 2 ^ most_loops → ((k : ℕ) → member s k ≡ (eqb l k || member (set_at sets (get_or parents l 0)) k))
    → Filled parents (set sets l s.word) (l + 1)
unfolding member set_at
filled_next parents sets P l low high few F s fits e = record { size = length-set sets l s.word ∙ F.size; each = λ j h. at j h (ℕ_discrete j l) }
  where
    p : ℕ
    p = get_or parents l 0

    p_below : p < l
    p_below = P.below l (omega arith)

    parent_word : get_or sets p 0 ≡ word parents p
    parent_word = F.each p (omega (arith, p_below)) ∙ rw (lt-ltb p l p_below)

    own : s.word ≡ word parents l
    own =
        set_is most_loops s.word (around parents (length parents) l) fits (λ k b.
        e k
        ∙ ap (λ (x : Bool). eqb l k || x) (ap (λ (x : ℕ). has x k) parent_word ∙ has_set most_loops (around parents (length parents) p) k b)
        ∙ sym (around_parent parents P.root P.below l k (omega arith) high))

    at : (j : ℕ) → j < most_loops → Dec (j ≡ l) → get_or (set sets l s.word) j 0 ≡ (when ltb j (l + 1) then word parents j else 0)
    at j h (yes q) = rw (q, get_or-set_same sets l s.word 0 (omega (arith, F.size)), lt-ltb l (l + 1) (omega arith)) own
    at j h (no ne) = get_or-set_other sets l j s.word 0 ne ∙ F.each j h ∙ ap (λ (b : Bool). when b then word parents j else 0) (same (ltb j l) refl)
      where
        same : (b : Bool) → ltb j l ≡ b → ltb j l ≡ ltb j (l + 1)
        same true q = q ∙ sym (lt-ltb j (l + 1) (omega (arith, ltb-true j l q)))
        same false q = q ∙ sym (le-ltb j (l + 1) (omega (arith, ltb-false j l q, ne)))

pub filled_all : (parents sets : List ℕ) → Filled parents sets (length parents) → sets ≡ sets_around parents
unfolding sets_around
filled_all parents sets F = tabulated sets most_loops _ 0 F.size F.each

-- what a set has: the loops around its loop
pub member_around : (parents sets : List ℕ) → sets ≡ sets_around parents → length parents ≤ most_loops → (l k : ℕ) → l < length parents → k < most_loops
    → member (set_at sets l) k ≡ around parents (length parents) l k
unfolding member set_at sets_around
member_around parents sets e few l k b h =
    ap (λ (x : ℕ). has x k)
    (ap (λ (s : List ℕ). get_or s l 0) e ∙ tabulate-at most_loops (λ j. when ltb j (length parents) then word parents j else 0) 0 l (omega arith) ∙ rw (lt-ltb l (length parents) b))
    ∙ has_set most_loops (around parents (length parents) l) k h
