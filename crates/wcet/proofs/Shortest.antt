-- Document 02, §10: no finished run with at least the least visits in every stay costs less than an accepted lower bound (`shortest_bound`),
-- so this holds of a checker whose reply is that of the rules (`shortest_checked`). The argument over a run is that of demand 3 (`Account`) in
-- the other direction. Where one such run is counted, the shortest time is at most the longest (`in_order`). Assumes nothing.
use mathlib.Core.Path.{◌≡◌, refl, sym, ◌∙◌}
use mathlib.Core.Bool.{Bool, true, false, not, ◌&&◌, false≢true}
use mathlib.Core.List.{List, [], ◌∷◌}
use Prim.Native.Nat.{ℕ, suc, ◌≤◌, ◌<◌}
use native.Mathlib.Nat.{mul-le-mul_left}
use native.Mathlib.Omega.{arith}
use lib.Dec.{eqb, ltb}
use borrow.Author.Tests.{eqb-true, ltb-true, ltb-false, le-ltb, not-true, not-false}
use lib.IntN.{ℤ, pos, ◌+ℤ◌, ◌-ℤ◌}
use lib.ListN.{length, get_or, take}
use lib.Seq.{take-length}
use lib.Signed.{◌≤ℤ◌, le_z}
use Rattle.lists.specs.Search.{any_below}
use Rattle.lists.proofs.Tests.{and-true, both}
use Rattle.lists.proofs.Search.{none_of, any_none}
use Rattle.integers.specs.Parts.{up, dn}
use Rattle.integers.proofs.Laws.{ints, sum, diff, times, le_z_le}
use Rattle.integers.proofs.Direction.{AtLeast, at_least}
use Rattle.wcet.specs.Table.{Routine, block_count, loop_count, exit, cost, edge, inside}
use Rattle.wcet.specs.Rules.{Reply, accepted, inequality, structure_rules, undeclared_rule}
use Rattle.wcet.specs.Run.{path, run, start, after, counted_run, run_cost}
use Rattle.wcet.specs.Stays.{stay_visits}
use Rattle.wcet.specs.Shortest.{LowCertificate, low_figure, low_multiplier, least, Finished, stay_ends, too_few_visits, keeps_least, ge_z, inequality_by, low_edge_holds, low_loop_wrong, low_inequality_broken, low_rules, shortest_rules, low_bound, shortest_reply}
use Rattle.wcet.specs.Claim.{AllHold, FinishedRun, ShortestBound, ShortestChecked, ShortestExactly, LeastCounted, LeastExactly, InOrder}
use Rattle.wcet.proofs.Replies.{all_append, accepted_exactly, refused_exactly}
use Rattle.wcet.proofs.Nesting.{no_edge, Nested, nested}
use Rattle.wcet.proofs.Potential.{Certificate, remaining}
use Rattle.wcet.proofs.Path.{after_block}
use Rattle.wcet.proofs.Account.{Ended, account}
use Rattle.wcet.proofs.Counts.{count_is}
use Rattle.wcet.proofs.Bound.{finished_bounded}
use Rattle.wcet.proofs.Walks.{last_block}

-- ---- the visits

-- the test, by each stay that ends
module _ (t : Routine) (c : LowCertificate) (w : List ℕ) where
  pub least_each : keeps_least t c w ≡ true → (l k : ℕ) → l < loop_count t → k < length w → stay_ends t l w k ≡ true → least c l ≤ stay_visits t l (take (suc k) w)
  unfolding keeps_least too_few_visits
  least_each e l k b h s =
      ltb-false (stay_visits t l (take (suc k) w)) (least c l)
      (rw s at (none_of (length w) (too_few_visits t c w l) (none_of (loop_count t) (λ j. any_below (length w) (too_few_visits t c w j)) (not-true _ e) l b) k h))

  pub each_least : ((l k : ℕ) → l < loop_count t → k < length w → stay_ends t l w k ≡ true → least c l ≤ stay_visits t l (take (suc k) w)) → keeps_least t c w ≡ true
  unfolding keeps_least too_few_visits
  each_least h = rw (any_none (loop_count t) (λ l. any_below (length w) (too_few_visits t c w l)) (λ l b. any_none (length w) (too_few_visits t c w l) (λ k i. enough l k b i (stay_ends t l w k) refl)))
    where
      enough : (l k : ℕ) → l < loop_count t → k < length w → (s : Bool) → stay_ends t l w k ≡ s → too_few_visits t c w l k ≡ false
      enough l k b i true s = rw s (le-ltb (stay_visits t l (take (suc k) w)) (least c l) (h l k b i s))
      enough l k b i false s = rw s

-- a stay that the next block leaves, or that the list ends with, ends there
ends : (t : Routine) (l : ℕ) (w : List ℕ) (k : ℕ) → inside t (get_or w k 0) l ≡ true → (suc k < length w → inside t (get_or w (suc k) 0) l ≡ false) → stay_ends t l w k ≡ true
unfolding stay_ends
ends t l w k i o = rw i (go (ltb (suc k) (length w)) refl)
  where
    go : (z : Bool) → ltb (suc k) (length w) ≡ z → not (z && inside t (get_or w (suc k) 0) l) ≡ true
    go true z = rw (o (ltb-true (suc k) (length w) z))
    go false z = refl

-- what is left of the least visits, where they are made, is not positive
remaining_over : (k b c : ℕ) → b ≤ c → remaining k b c ≤ℤ pos 0
remaining_over k b c h = omega (ints, times k (pos b -ℤ pos c), mul-le-mul_left k less)
  where
    less : up (pos b -ℤ pos c) ≤ dn (pos b -ℤ pos c)
    less = omega (ints, diff (pos b) (pos c))

-- ---- the bound

-- the second certificate, with the least visits for the visits of a stay
abbrev certificate : LowCertificate → Certificate
certificate c = record { figure = low_figure c; multiplier = low_multiplier c; visits = least c }

-- what acceptance gives: 201 to 207 by name, loop 0's multiplier, and each edge's inequality
record Facts (t : Routine) (c : LowCertificate) : Type 0 where
  nesting : Nested t
  loop0 : low_multiplier c 0 ≡ 0
  holds : (u v : ℕ) → u < block_count t → edge t u v ≡ true → low_edge_holds t c u v ≡ true

facts : (t : Routine) (c : LowCertificate) → AllHold (shortest_rules t c) → Facts t c
unfolding shortest_rules low_loop_wrong low_inequality_broken
facts t c h =
    let q : AllHold (structure_rules t) × AllHold (undeclared_rule t ∷ low_rules t c) = all_append (structure_rules t) (undeclared_rule t ∷ low_rules t c) h.1 in
    let N : Nested t = nested t q.0 in
    record {
      nesting = N;
      loop0 = eqb-true (low_multiplier c 0) 0 (and-true _ _ (not-false _ (q.1.1.0 0 N.some_loop))).0;
      holds = λ u v b e. not-false (low_edge_holds t c u v) (no_edge t u v (λ x. not (low_edge_holds t c u x)) (q.1.1.1.1.0 u b) e);
    }

module _ (t : Routine) (c : LowCertificate) where
  -- the visits in each stay, as the list has them and as the steps count them
  enough : Nested t → (w : List ℕ) → keeps_least t c (0 ∷ w) ≡ true → Ended t AtLeast (certificate c) start w
  unfolding start
  enough N w K k l b m i o =
      remaining_over (low_multiplier c l) (least c l) ((after t start (take k w)).count l)
      (rw (count_is t N l m (take k w)) (least_each t c (0 ∷ w) K l k m (omega arith) (ends t l (0 ∷ w) k (rw (after_block t w k start b) at i) (λ q. o (omega arith)))))

  -- the claim, of a list that starts at block 0
  from_entry : Facts t c → (w : List ℕ) → path t 0 w ≡ true → (after t start w).block ≡ exit t → keeps_least t c (0 ∷ w) ≡ true
      → low_bound t c ≤ℤ pos (run_cost t (0 ∷ w))
  unfolding run_cost low_bound low_edge_holds
  from_entry F w h e K =
      omega (ints, all, sum (pos (run_cost t w)) x, sum (pos (cost t 0)) (low_figure c 0), diff (pos (cost t 0) +ℤ low_figure c 0) x)
    where
      x : ℤ
      x = low_figure c (exit t)

      all : low_figure c 0 ≤ℤ (pos (run_cost t w) +ℤ x)
      all = rw e at (account t F.nesting AtLeast at_least ge_z (λ a b. le_z_le b a) (certificate c) F.holds F.loop0 w h (enough F.nesting w K))

pub shortest_exactly : (t : Routine) (c : LowCertificate) → ShortestExactly t c
unfolding shortest_reply
shortest_exactly t c = record { accepts = accepted_exactly (shortest_rules t c) (low_bound t c); refuses = refused_exactly (shortest_rules t c) (low_bound t c) }

pub shortest_bound : (t : Routine) (c : LowCertificate) (b : ℤ) → shortest_reply t c ≡ accepted b → ShortestBound t c b
unfolding run
shortest_bound t c b e [] f K = absurd (false≢true f.runs)
shortest_bound t c b e (v ∷ w) f K =
    let a : AllHold (shortest_rules t c) × (low_bound t c ≡ b) = ((shortest_exactly t c).accepts b).0 e in
    let q : (eqb v 0 ≡ true) × (path t v w ≡ true) = and-true _ _ f.runs in
    let z : v ≡ 0 = eqb-true v 0 q.0 in
    rw (← a.1, z) (from_entry t c (facts t c a.0) w (rw z at q.1) (sym (last_block t w) ∙ rw z at f.at_exit) (rw z at K))

-- the claim holds of a checker whose reply is that of the rules
pub shortest_checked : (t : Routine) (c : LowCertificate) (r : Reply ℤ) → r ≡ shortest_reply t c → ShortestChecked t c r
shortest_checked t c r e = record { replied = e; bounded = λ b q. shortest_bound t c b (sym e ∙ q) }

-- ---- the counts, and the two bounds

-- a stay that a step leaves ends before it, and one that is under way at the end of the list ends with it
module _ (t : Routine) (c : LowCertificate) (N : Nested t) (w : List ℕ) where
  counted_each : keeps_least t c (0 ∷ w) ≡ true → LeastCounted t c w
  unfolding start
  counted_each K = record {
    left = λ l k m b e.
        let p : (inside t (after t start (take k w)).block l ≡ true) × (not (inside t (get_or w k 0) l) ≡ true) = and-true _ _ e in
        enough_visits l k m (omega arith) (ends t l (0 ∷ w) k (rw (after_block t w k start (omega arith)) at p.0) (λ q. not-true _ p.1));
    finished = λ l m i. rw (take-length w) at (enough_visits l (length w) m (omega arith) (ends t l (0 ∷ w) (length w) (at_end l i) (λ q. absurd (omega arith))));
  }
    where
      enough_visits : (l k : ℕ) → l < loop_count t → k ≤ length w → stay_ends t l (0 ∷ w) k ≡ true → least c l ≤ (after t start (take k w)).count l
      enough_visits l k m b s = rw (count_is t N l m (take k w)) (least_each t c (0 ∷ w) K l k m (omega arith) s)

      at_end : (l : ℕ) → inside t (after t start w).block l ≡ true → inside t (get_or (0 ∷ w) (length w) 0) l ≡ true
      at_end l i = rw (after_block t w (length w) start (omega arith)) at (rw (← take-length w) at i)

  each_counted : LeastCounted t c w → keeps_least t c (0 ∷ w) ≡ true
  unfolding start stay_ends
  each_counted L = each_least t c (0 ∷ w) (λ l k m b s.
      let p : (inside t (get_or (0 ∷ w) k 0) l ≡ true) × (not (ltb (suc k) (suc (length w)) && inside t (get_or w k 0) l) ≡ true) = and-true _ _ s in
      rw (← count_is t N l m (take k w)) (go l k m (omega arith) (rw (← after_block t w k start (omega arith)) at p.0) (ltb (suc k) (suc (length w))) refl p.1))
    where
      go : (l k : ℕ) → l < loop_count t → k ≤ length w → inside t (after t start (take k w)).block l ≡ true → (z : Bool) → ltb (suc k) (suc (length w)) ≡ z
          → not (z && inside t (get_or w k 0) l) ≡ true → least c l ≤ (after t start (take k w)).count l
      go l k m b i true z o = L.left l k m (omega (arith, ltb-true (suc k) (suc (length w)) z)) (both i o)
      go l k m b i false z o =
          let e : k ≡ length w = omega (arith, ltb-false (suc k) (suc (length w)) z) in
          rw (e, take-length w) (L.finished l m (rw (e, take-length w) at i))

pub least_exactly : (t : Routine) (c : LowCertificate) → LeastExactly t c
least_exactly t c h w = (counted_each t c (nested t h) w, each_counted t c (nested t h) w)

counted_finished : (t : Routine) (w : List ℕ) → FinishedRun t w → Finished t w
unfolding counted_run
counted_finished t [] f = absurd (false≢true f.counted)
counted_finished t (v ∷ w) f = record { runs = (and-true _ _ f.counted).0; at_exit = f.at_exit }

-- where both are accepted, and some finished counted run keeps the least visits
pub in_order : (t : Routine) (c : LowCertificate) → InOrder t c
in_order t c lo hi e q w f K = omega (ints, shortest_bound t c lo e w (counted_finished t w f) K, finished_bounded t hi q w f)

-- ---- the two directions

-- by ≤, the inequality of either direction is that of document 01
pub by_le : (headed inner : Bool) (c : ℕ) (from to : ℤ) (k b : ℕ) → inequality_by le_z headed inner c from to k b ≡ inequality headed inner c from to k b
unfolding inequality inequality_by
by_le headed inner c from to k b = refl
