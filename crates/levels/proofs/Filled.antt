-- How the depths of the loops and the loops of one depth around each loop are filled, from loop 0 up: the value of a loop follows from its
-- parent's. Assumes nothing.
use Rattle.std.proofs.Common.{◌≡◌, refl, sym, ◌∙◌, ap, Bool, true, false, List, ℕ, zero, suc, ◌+◌, ◌≤◌, ◌<◌, max, arith, length, get_or, set, replicate, eqb, ltb, length-set}
use native.Mathlib.Decide.{ℕ_discrete}
use mathlib.Core.Bool.{or-true}
use borrow.Author.Tests.{ltb-true, ltb-false}
use lib.ListN.{get_or-replicate}
use lib.Seq.{get_or-set_same, get_or-set_other}
use Rattle.limits.specs.Limits.{most_loops}
use Rattle.wcet.specs.Table.{around}
use Rattle.wcet.proofs.Around.{around_parent}
use Rattle.loopsets.specs.Sets.{Parents}
use Rattle.levels.specs.Levels.{depth, no_loop, Level, DepthsOf}
use Rattle.levels.proofs.Laws.{depth_root, depth_parent, depth_least, depth_most, depth_inner, around_own, around_cases}

-- the depths of the loops below i are filled, and most is the greatest of them
pub record Filled (parents each : List ℕ) (most i : ℕ) : Type 0 where
  pub size : length each ≡ most_loops
  pub same : (l : ℕ) → l < i → get_or each l 0 ≡ depth parents l
  pub below : (l : ℕ) → l < i → depth parents l ≤ most
  pub attained : (l : ℕ) × (l < i) × (depth parents l ≡ most)

-- x is the loop of depth d around loop k, and `no_loop` where there is none
record Chosen (parents : List ℕ) (d k x : ℕ) : Type 0 where
  there : (x ≡ no_loop → ⊥) → (x < length parents) × (around parents (length parents) k x ≡ true) × (depth parents x ≡ d)
  only : (l : ℕ) → l < length parents → around parents (length parents) k l ≡ true → depth parents l ≡ d → x ≡ l

-- the loops of depth d around the loops below i are filled, and no other
pub record Levelled (parents : List ℕ) (d : ℕ) (level : List ℕ) (i : ℕ) : Type 0 where
  pub size : length level ≡ most_loops
  each : (k : ℕ) → k < i → Chosen parents d k (get_or level k 0)
  rest : (k : ℕ) → k < most_loops → i ≤ k → get_or level k 0 ≡ no_loop

module _ (parents : List ℕ) (P : Parents parents) where
  pub parent_low : (l : ℕ) → get_or parents l 0 ≤ l
  parent_low zero = omega (arith, P.root)
  parent_low (suc l) = omega (arith, P.below (suc l) (omega arith))

  pub filled_first : Filled parents (replicate most_loops 1) 1 1
  filled_first =
      record {
        size = refl;
        same = λ l b. only l b (λ z. rw z (sym (depth_root parents P)));
        below = λ l b. only l b (λ z. rw (z, depth_root parents P) (omega arith));
        attained = (0, omega arith, depth_root parents P);
      }
    where
      only : {A : Type 0} → (l : ℕ) → l < 1 → (l ≡ 0 → A) → A
      only l b f = f (omega arith)

  -- the depth of a parent is small
  pub filled_small : (each : List ℕ) (most l : ℕ) → 0 < l → Filled parents each most l → get_or each (get_or parents l 0) 0 ≤ suc (length parents)
  filled_small each most l z F = rw (F.same (get_or parents l 0) (P.below l z)) (depth_most parents P (get_or parents l 0))

  -- one loop more: next is the greatest depth after it
  pub filled_next : (each : List ℕ) (most l next : ℕ) → 0 < l → l < length parents → length parents ≤ most_loops → Filled parents each most l
      → next ≡ max most (get_or each (get_or parents l 0) 0 + 1) → Filled parents (set each l (get_or each (get_or parents l 0) 0 + 1)) next (l + 1)
  filled_next each most l next z h few F e =
      record {
        size = length-set each l x ∙ F.size;
        same = λ k b. at k b (ℕ_discrete k l);
        below = λ k b. under k b (ℕ_discrete k l);
        attained = reached (ltb most x) refl F.attained;
      }
    where
      x : ℕ
      x = get_or each (get_or parents l 0) 0 + 1

      own : x ≡ depth parents l
      own = omega (arith, F.same (get_or parents l 0) (P.below l z), depth_parent parents P l z h)

      at : (k : ℕ) → k < l + 1 → Dec (k ≡ l) → get_or (set each l x) k 0 ≡ depth parents k
      at k b (yes q) = rw (q, get_or-set_same each l x 0 (omega (arith, F.size))) own
      at k b (no ne) = get_or-set_other each l k x 0 ne ∙ F.same k (omega arith)

      under : (k : ℕ) → k < l + 1 → Dec (k ≡ l) → depth parents k ≤ next
      under k b (yes q) = omega (arith, e, own, ap (λ (y : ℕ). depth parents y) q)
      under k b (no ne) = omega (arith, e, F.below k (omega arith))

      reached : (t : Bool) → ltb most x ≡ t → (k : ℕ) × (k < l) × (depth parents k ≡ most) → (k : ℕ) × (k < l + 1) × (depth parents k ≡ next)
      reached true t a = (l, omega arith, omega (arith, e, own, ltb-true most x t))
      reached false t (k, b, q) = (k, omega arith, omega (arith, e, q, ltb-false most x t))

  pub filled_all : (each : List ℕ) (most : ℕ) → Filled parents each most (length parents) → DepthsOf parents (record { each = each; most = most })
  filled_all each most F = record { size = F.size; same = F.same; most = F.below; attained = F.attained }

  pub levelled_first : (d : ℕ) → Levelled parents d (replicate most_loops no_loop) 0
  levelled_first d = record { size = refl; each = λ k b. absurd (omega arith); rest = λ k b h. get_or-replicate most_loops k no_loop 0 b }

  -- a loop of that depth is chosen for itself
  chosen_own : (d l : ℕ) → l < length parents → depth parents l ≡ d → Chosen parents d l l
  chosen_own d l h e = record { there = λ some. (h, around_own parents (length parents) l, e); only = λ k b a q. same k b a q (ℕ_discrete l k) }
    where
      same : (k : ℕ) → k < length parents → around parents (length parents) l k ≡ true → depth parents k ≡ d → Dec (l ≡ k) → l ≡ k
      same k b a q (yes y) = y
      same k b a q (no ne) = absurd (omega (arith, depth_inner parents P l k h b a ne))

  -- for a deeper loop the one of its parent is chosen; loop 0 is deeper only than depth 0, which no loop has
  chosen_up : (d l x : ℕ) → l < length parents → d < depth parents l → (l ≡ 0 → x ≡ no_loop) → (0 < l → Chosen parents d (get_or parents l 0) x) → Chosen parents d l x
  chosen_up d l x h lt first up = go (ℕ_discrete l 0)
    where
      go : Dec (l ≡ 0) → Chosen parents d l x
      go (yes z) =
          record {
            there = λ some. absurd (some (first z));
            only = λ k b a e. absurd (omega (arith, depth_root parents P, ap (λ (y : ℕ). depth parents y) z, depth_least parents P k));
          }
      go (no nz) =
          let z : 0 < l = omega arith in
          record {
            there = λ some. let t = (up z).there some in (t.0, rw (around_parent parents P.root P.below l x z h, t.1) (or-true (eqb l x)), t.2);
            only = λ k b a e. around_cases parents P l k h a (λ q. absurd (omega (arith, ap (λ (y : ℕ). depth parents y) q))) (λ y c over. (up z).only k b over e);
          }

  -- for a loop that is less deep none is chosen
  chosen_none : (d l : ℕ) → l < length parents → depth parents l < d → Chosen parents d l no_loop
  chosen_none d l h lt = record { there = λ some. absurd (some refl); only = λ k b a e. absurd (no_such k b a e (ℕ_discrete l k)) }
    where
      no_such : (k : ℕ) → k < length parents → around parents (length parents) l k ≡ true → depth parents k ≡ d → Dec (l ≡ k) → ⊥
      no_such k b a e (yes q) = omega (arith, ap (λ (y : ℕ). depth parents y) q)
      no_such k b a e (no ne) = omega (arith, depth_inner parents P l k h b a ne)

  levelled_set : (d : ℕ) (level : List ℕ) (l x : ℕ) → l < most_loops → Levelled parents d level l → Chosen parents d l x → Levelled parents d (set level l x) (l + 1)
  levelled_set d level l x h F C =
      record {
        size = length-set level l x ∙ F.size;
        each = λ k b. at k b (ℕ_discrete k l);
        rest = λ k b up. get_or-set_other level l k x 0 (λ e. omega arith) ∙ F.rest k b (omega arith);
      }
    where
      at : (k : ℕ) → k < l + 1 → Dec (k ≡ l) → Chosen parents d k (get_or (set level l x) k 0)
      at k b (yes q) = rw (q, get_or-set_same level l x 0 (omega (arith, F.size))) C
      at k b (no ne) = rw (get_or-set_other level l k x 0 ne) (F.each k (omega arith))

  -- one loop more, of that depth, deeper or less deep
  pub levelled_own : (d : ℕ) (level : List ℕ) (l : ℕ) → l < length parents → length parents ≤ most_loops → Levelled parents d level l → depth parents l ≡ d
      → Levelled parents d (set level l l) (l + 1)
  levelled_own d level l h few F e = levelled_set d level l l (omega arith) F (chosen_own d l h e)

  pub levelled_up : (d : ℕ) (level : List ℕ) (l : ℕ) → l < length parents → length parents ≤ most_loops → Levelled parents d level l → d < depth parents l
      → Levelled parents d (set level l (get_or level (get_or parents l 0) 0)) (l + 1)
  levelled_up d level l h few F lt =
      levelled_set d level l (get_or level (get_or parents l 0) 0) (omega arith) F
      (chosen_up d l (get_or level (get_or parents l 0) 0) h lt (λ z. rw (z, P.root) (F.rest 0 (omega arith) (omega arith))) (λ z. F.each (get_or parents l 0) (P.below l z)))

  pub levelled_keep : (d : ℕ) (level : List ℕ) (l : ℕ) → l < length parents → length parents ≤ most_loops → Levelled parents d level l → depth parents l < d
      → Levelled parents d level (l + 1)
  levelled_keep d level l h few F lt = record { size = F.size; each = λ k b. at k b (ℕ_discrete k l); rest = λ k b up. F.rest k b (omega arith) }
    where
      at : (k : ℕ) → k < l + 1 → Dec (k ≡ l) → Chosen parents d k (get_or level k 0)
      at k b (yes q) = rw (q, F.rest l (omega arith) (omega arith)) (chosen_none d l h lt)
      at k b (no ne) = F.each k (omega arith)

  pub levelled_all : (d : ℕ) (level : List ℕ) → Levelled parents d level (length parents) → Level parents d level
  levelled_all d level F = record { size = F.size; chosen = λ k b. (F.each k b).there; each = λ k l b h a e. (F.each k b).only l h a e }
