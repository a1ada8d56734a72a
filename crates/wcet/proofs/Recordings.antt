-- Document 02, §7: with the greatest numbers of a recording as limits, 1 in place of 0, the same walk is accepted, and with one of 2 or more
-- lowered, not below 1, it is refused with 313 (`limits_seen`); loop 0 gets 1 and 1, a loop never entered 0 and 0 (`numbers_seen`); and but for 313 a recording is refused as a walk is
-- (`refused_as_walks`). Assumes nothing.
use mathlib.Core.Path.{◌≡◌, refl, sym, ◌∙◌, ap, ap₂}
use mathlib.Core.Bool.{Bool, true, false, not, ◌&&◌, ◌||◌, or-true}
use mathlib.Core.Logic.{◌⊎◌, inl, inr, ⊎_elim}
use mathlib.Core.List.{List, [], ◌∷◌, ◌++◌}
use Rattle.std.specs.Prelude.{Option, Some, None}
use Prim.Native.Nat.{ℕ, zero, suc, ◌+◌, ◌-◌, ◌≤◌, ◌<◌, max}
use native.Mathlib.Decide.{ℕ_discrete}
use native.Mathlib.Omega.{arith}
use lib.Dec.{eqb, ltb}
use borrow.Author.Tests.{eqb-true, ltb-false, lt-ltb, le-ltb, eq-eqb, ne_eqb, not-false}
use lib.ListN.{length, get_or, take, set, length-set}
use lib.Seq.{get_or-set_same, get_or-set_other}
use Rattle.limits.specs.Limits.{longest_walk}
use Rattle.lists.specs.Search.{when◌then◌else◌, first_below, tabulate}
use Rattle.lists.proofs.Search.{not_found, tabulate-at, tabulate-length, tabulate_map}
use Rattle.lists.proofs.Tests.{or_false, and-true, both, neither}
use Rattle.wcet.specs.Table.{Routine, block_count, loop_count, exit, loop_of, header, edge, around, inside}
use Rattle.wcet.specs.Rules.{Reply, accepted, refused, Rule, refused_at, check, out_of_range, structure_rules}
use Rattle.wcet.specs.Run.{path, run, State, start, next, after, passes_limit, keeps_limits, counted_run}
use Rattle.wcet.specs.Walk.{Walked, walked, length_rule, walk_from, walk_blocks, walk_reply}
use Rattle.wcet.specs.Claim.{Holds, AllHold}
use Rattle.wcet.specs.Stays.{all_inside, current_stay, visits, stay_visits}
use Rattle.wcet.specs.Tally.{begins_inside, stays, greatest, columns_rule, recording_from, recording_blocks, tally_reply, by_loop, with_limits, as_limits, LimitsSeen, NumbersSeen, steps_of, RefusedAsWalks}
use Rattle.wcet.proofs.Replies.{hands_on, passes, all_append, append_all, all_pass, behind}
use Rattle.wcet.proofs.Nesting.{Nested, nested}
use Rattle.wcet.proofs.Walks.{unrefused, finishes, start_kept, walks_exactly}
use Rattle.wcet.proofs.Counts.{counts_exactly}
use Rattle.wcet.proofs.Tallies.{each_most, most_each, never_seen}
use Rattle.wcet.proofs.OtherNumbers.{same_path, same_visits, same_cost, LimitsFit, fitting, rules_kept}

-- ---- an accepted recording

recording_path : (t : Routine) (w : List ℕ) (u i : ℕ) (passed : Reply ℕ) (k : ℕ) → recording_from t u i w passed ≡ accepted k → (path t u w ≡ true) × (get_or (u ∷ w) (length w) 0 ≡ exit t)
unfolding recording_from path
recording_path t [] u i passed k e = (refl, eqb-true u (exit t) (finishes (eqb u (exit t)) 314 i passed k e).0)
recording_path t (v ∷ w) u i passed k e =
    let a = unrefused (not (ltb v (block_count t))) 302 i _ k e in
    let b = unrefused (eqb u (exit t)) 311 i _ k a.1 in
    let c = unrefused (not (edge t u v)) 312 i (recording_from t v (suc i) w passed) k b.1 in
    let f : (path t v w ≡ true) × (get_or (v ∷ w) (length w) 0 ≡ exit t) = recording_path t w v (suc i) passed k c.1 in
    (both (not-false (edge t u v) c.0) f.0, f.1)

-- w is a run from block 0 to the exit, within the length limit, over tables that keep 201 to 207
record Recording (t : Routine) (w : List ℕ) : Type 0 where
  pub rules : AllHold (structure_rules t)
  pub short : length w ≤ longest_walk
  pub rest : List ℕ
  pub whole : w ≡ 0 ∷ rest
  pub follows : path t 0 rest ≡ true
  pub at_exit : get_or (0 ∷ rest) (length rest) 0 ≡ exit t

recording : (t : Routine) (w stayed visited : List ℕ) (k : ℕ) → tally_reply t w stayed visited ≡ accepted k → Recording t w
unfolding tally_reply recording_blocks
recording t w stayed visited k e = go w (q.1.1.0 0 (omega arith)) p.1
  where
    p : AllHold (structure_rules t ++ columns_rule t stayed visited ∷ length_rule w ∷ []) × (recording_blocks t w (accepted (length w - 1)) ≡ accepted k)
    p = passes (structure_rules t ++ columns_rule t stayed visited ∷ length_rule w ∷ []) (recording_blocks t w (accepted (length w - 1))) k e

    q : AllHold (structure_rules t) × AllHold (columns_rule t stayed visited ∷ length_rule w ∷ [])
    q = all_append (structure_rules t) (columns_rule t stayed visited ∷ length_rule w ∷ []) p.0

    go : (w : List ℕ) → out_of_range 1 longest_walk (length w) ≡ false → recording_blocks t w (accepted (length w - 1)) ≡ accepted k → Recording t w
    go [] h e = absurd (omega (arith, ltb-false 0 1 (or_false (ltb 0 1) (ltb longest_walk 0) h).0))
    go (v ∷ w) h e =
        let a = unrefused (not (ltb v (block_count t))) 302 0 _ k e in
        let b = unrefused (not (eqb v 0)) 303 0 (recording_from t 0 1 w (accepted (length (v ∷ w) - 1))) k a.1 in
        let f = recording_path t w 0 1 (accepted (length (v ∷ w) - 1)) k b.1 in
        record {
          rules = q.0;
          short = ltb-false longest_walk (length (v ∷ w)) (or_false (ltb (length (v ∷ w)) 1) (ltb longest_walk (length (v ∷ w))) h).1;
          rest = w;
          whole = ap (λ (x : ℕ). x ∷ w) (eqb-true v 0 (not-false (eqb v 0) b.0));
          follows = f.0;
          at_exit = f.1;
        }

-- ---- loop 0

visits_stay : (t : Routine) (l h : ℕ) (w : List ℕ) → visits h (current_stay t l w) ≤ visits h w
unfolding current_stay visits
visits_stay t l h [] = omega arith
visits_stay t l h (v ∷ w) = go (all_inside t l (v ∷ w)) (visits_stay t l h w)
  where
    go : (b : Bool) → visits h (current_stay t l w) ≤ visits h w → visits h (when b then v ∷ w else current_stay t l w) ≤ (when eqb h v then 1 else 0) + visits h w
    go true r = omega arith
    go false r = omega arith

visits_take : (h k : ℕ) (w : List ℕ) → visits h (take k w) ≤ visits h w
unfolding visits
visits_take h zero w = omega arith
visits_take h (suc k) [] = omega arith
visits_take h (suc k) (v ∷ w) = let r = visits_take h k w in omega arith

module _ (t : Routine) (N : Nested t) where
  some_block : 0 < block_count t
  some_block = omega (arith, N.two_blocks)

  -- no edge leads back to block 0 (206)
  entry_once : (w : List ℕ) (u : ℕ) → u < block_count t → path t u w ≡ true → visits 0 w ≡ 0
  unfolding path visits
  entry_once [] u h p = refl
  entry_once (v ∷ w) u h p =
      let q : (edge t u v ≡ true) × (path t v w ≡ true) = and-true _ _ p in
      rw (ne_eqb 0 v (λ z. N.entry_starts u h (rw (← z) at q.0)), entry_once w v (N.target u v h q.0) q.1)

  root_once : (w : List ℕ) → path t 0 w ≡ true → greatest t 0 (0 ∷ w) ≤ 1
  root_once w p = most_each t 0 (0 ∷ w) 1 (λ k b. omega (arith, visits_stay t 0 (header t 0) (take (suc k) (0 ∷ w)), visits_take (header t 0) (suc k) (0 ∷ w), once))
    where
      once : visits (header t 0) (0 ∷ w) ≤ 1
      once = rw N.loop0_header (unfold visits in omega (arith, entry_once w 0 some_block p))

  -- loop 0 is around every loop
  around_root : (d l : ℕ) → l ≤ d → l < loop_count t → around t.parents d l 0 ≡ true
  unfolding around
  around_root zero l h b = eq-eqb l 0 (omega arith)
  around_root (suc d) l h b = go (ℕ_discrete l 0) (λ c e. around_root d (get_or t.parents l 0) c e)
    where
      go : Dec (l ≡ 0) → (get_or t.parents l 0 ≤ d → get_or t.parents l 0 < loop_count t → around t.parents d (get_or t.parents l 0) 0 ≡ true)
          → (eqb l 0 || around t.parents d (get_or t.parents l 0) 0) ≡ true
      go (yes z) rest = rw (eq-eqb l 0 z)
      go (no ne) rest = let p : get_or t.parents l 0 < l = N.parent_below l (omega arith) b in rw (rest (omega arith) (omega arith)) (or-true (eqb l 0))

  inside_root : (u : ℕ) → u < block_count t → inside t u 0 ≡ true
  unfolding inside
  inside_root u b = let c : loop_of t u < loop_count t = N.innermost u b in around_root (loop_count t) (loop_of t u) (omega arith) c

  one_stay : (w : List ℕ) (u : ℕ) → u < block_count t → path t u w ≡ true → stays t 0 (u ∷ w) ≡ 1
  unfolding stays path begins_inside
  one_stay [] u b p = rw (inside_root u b)
  one_stay (v ∷ w) u b p =
      let q : (edge t u v ≡ true) × (path t v w ≡ true) = and-true _ _ p in
      let v_block : v < block_count t = N.target u v b q.0 in
      let rest : stays t 0 (v ∷ w) ≡ 1 = one_stay w v v_block q.1 in
      let here : ◌≡◌ {A = ℕ} (when inside t u 0 && not (inside t v 0) then 1 else 0) 0 = rw (inside_root u b, inside_root v v_block) in
      ap₂ (λ (x y : ℕ). x + y) here rest

  -- ---- a run to the exit is accepted, or refused for a limit

  over_limit : (w : List ℕ) (s : State) (i : ℕ) (passed : Reply Walked) → passes_limit t s ≡ false → s.block < block_count t → path t s.block w ≡ true
      → (keeps_limits t s w ≡ true) ⊎ ((k : ℕ) × (walk_from t s i w passed ≡ refused 313 k))
  unfolding walk_from path keeps_limits next
  over_limit [] s i passed kept b p = inl (rw kept)
  over_limit (v ∷ w) s i passed kept b p = go (passes_limit t (next t s v)) refl (λ k. over_limit w (next t s v) (suc i) passed k v_block q.1)
    where
      q : (edge t s.block v ≡ true) × (path t v w ≡ true)
      q = and-true _ _ p

      v_block : v < block_count t
      v_block = N.target s.block v b q.0

      on : s.block ≡ exit t → ⊥
      on z = N.exit_ends v (rw z at q.0)

      -- 302, 311 and 312 do not occur
      step : (r : Reply Walked) → (when not (ltb v (block_count t)) then refused 302 i else when eqb s.block (exit t) then refused 311 i else when not (edge t s.block v) then refused 312 i else r) ≡ r
      step r = rw (lt-ltb v (block_count t) v_block, ne_eqb s.block (exit t) on, q.0)

      rest : Reply Walked
      rest = walk_from t (next t s v) (suc i) w passed

      go : (b : Bool) → passes_limit t (next t s v) ≡ b
          → (passes_limit t (next t s v) ≡ false → (keeps_limits t (next t s v) w ≡ true) ⊎ ((k : ℕ) × (rest ≡ refused 313 k)))
          → ((not (passes_limit t s) && keeps_limits t (next t s v) w) ≡ true) ⊎ ((k : ℕ) × (walk_from t s i (v ∷ w) passed ≡ refused 313 k))
      go true e rests = inr (i, step _ ∙ rw e)
      go false e rests = ⊎_elim (λ k. inl (rw kept k)) (λ r. inr (r.0, step _ ∙ rw e r.1)) (rests e)

-- ---- the limits seen

module _ (t : Routine) (rules : AllHold (structure_rules t)) (w : List ℕ) (short : length (0 ∷ w) ≤ longest_walk) (follows : path t 0 w ≡ true)
    (at_exit : get_or (0 ∷ w) (length w) 0 ≡ exit t) where
  abbrev limits : List ℕ
  limits = as_limits (by_loop t (λ l. greatest t l (0 ∷ w)))

  one_for_0 : ℕ → ℕ
  one_for_0 g = when eqb g 0 then 1 else g

  at_least : (g : ℕ) → one_for_0 g ≡ max 1 g
  unfolding one_for_0
  at_least g = go (ℕ_discrete g 0)
    where
      go : Dec (g ≡ 0) → (when eqb g 0 then 1 else g) ≡ max 1 g
      go (yes z) = rw z
      go (no ne) = rw (ne_eqb g 0 ne) (omega arith)

  limits_are : limits ≡ tabulate (loop_count t) (λ l. one_for_0 (greatest t l (0 ∷ w)))
  unfolding one_for_0
  limits_are = tabulate_map (λ g. when eqb g 0 then 1 else g) (loop_count t) (λ l. greatest t l (0 ∷ w))

  limit_at : (l : ℕ) → l < loop_count t → get_or limits l 0 ≡ max 1 (greatest t l (0 ∷ w))
  limit_at l b = ap (λ (ls : List ℕ). get_or ls l 0) limits_are ∙ tabulate-at (loop_count t) (λ l. one_for_0 (greatest t l (0 ∷ w))) 0 l b ∙ at_least (greatest t l (0 ∷ w))

  sized_limits : length limits ≡ loop_count t
  sized_limits = ap (λ (ls : List ℕ). length ls) limits_are ∙ tabulate-length (loop_count t) (λ l. one_for_0 (greatest t l (0 ∷ w)))

  some_loop : 0 < loop_count t
  some_loop = (nested t rules).some_loop

  -- the limit of loop 0
  root_limit : get_or limits 0 0 ≡ 1
  root_limit = limit_at 0 some_loop ∙ omega (arith, root_once t (nested t rules) w follows)

  is_path : (ls : List ℕ) → path (with_limits t ls) 0 w ≡ true
  is_path ls = same_path t t.costs t.figures ls t.multipliers w 0 ∙ follows

  is_run : (ls : List ℕ) → run (with_limits t ls) (0 ∷ w) ≡ true
  unfolding run
  is_run ls = is_path ls

  visits_are : (ls : List ℕ) (l : ℕ) (w : List ℕ) → stay_visits (with_limits t ls) l w ≡ stay_visits t l w
  visits_are ls = same_visits t t.costs t.figures ls t.multipliers

  -- other limits in their range
  limited_rules : (ls : List ℕ) → LimitsFit t ls → AllHold (structure_rules (with_limits t ls))
  limited_rules ls L =
      let own = fitting t rules in
      rules_kept t rules t.costs t.figures ls t.multipliers (record { costs = own.costs; figures = own.figures; limits = L; multipliers = own.multipliers })

  module _ (most : (l : ℕ) → l < loop_count t → greatest t l (0 ∷ w) ≤ 65535) where
    pub enough : walk_reply (with_limits t limits) (0 ∷ w) ≡ accepted (walked t (0 ∷ w))
    enough = (walks_exactly (with_limits t limits) (0 ∷ w) kept short (walked t (0 ∷ w))).1 (record { counted = counted; at_exit = at_end }, rw (same_cost t t.figures limits t.multipliers (0 ∷ w)))
      where
        kept : AllHold (structure_rules (with_limits t limits))
        kept = limited_rules limits (record { count = sized_limits; loop0 = root_limit; range = λ l z b. (omega (arith, limit_at l b), omega (arith, limit_at l b, most l b)) })

        at_end : get_or (0 ∷ w) (length (0 ∷ w) - 1) 0 ≡ exit t
        at_end = let last : length (0 ∷ w) - 1 ≡ length w = omega arith in rw last at_exit

        counted : counted_run (with_limits t limits) (0 ∷ w) ≡ true
        counted =
            ((counts_exactly (with_limits t limits) kept).counted (0 ∷ w)).1
            (is_run limits, λ k l b c. omega (arith, visits_are limits l (take (suc k) (0 ∷ w)), each_most t l (0 ∷ w) k b, limit_at l c))

    module _ (l c : ℕ) (below : l < loop_count t) (some : 1 ≤ c) (less : c < greatest t l (0 ∷ w)) where
      abbrev lowered : List ℕ
      lowered = set limits l c

      lower_at : get_or lowered l 0 ≡ c
      lower_at = get_or-set_same limits l c 0 (omega (arith, sized_limits))

      lowered_rules : AllHold (structure_rules (with_limits t lowered))
      lowered_rules = limited_rules lowered (record { count = length-set limits l c ∙ sized_limits; loop0 = first; range = range })
        where
          not_0 : l ≡ 0 → ⊥
          not_0 z = omega (arith, root_once t (nested t rules) w follows, ap (λ (x : ℕ). greatest t x (0 ∷ w)) z)

          first : get_or lowered 0 0 ≡ 1
          first = get_or-set_other limits l 0 c 0 (λ z. not_0 (sym z)) ∙ root_limit

          range : (j : ℕ) → 0 < j → j < loop_count t → (1 ≤ get_or lowered j 0) × (get_or lowered j 0 ≤ 65535)
          range j z b = go (ℕ_discrete j l)
            where
              go : Dec (j ≡ l) → (1 ≤ get_or lowered j 0) × (get_or lowered j 0 ≤ 65535)
              go (yes e) = rw (e, lower_at) (some, omega (arith, most l below))
              go (no ne) = rw (get_or-set_other limits l j c 0 ne, limit_at j b) (omega arith, omega (arith, most j b))

      not_kept : counted_run (with_limits t lowered) (0 ∷ w) ≡ true → ⊥
      not_kept e =
          let visited : (k : ℕ) → k < length (0 ∷ w) → stay_visits t l (take (suc k) (0 ∷ w)) ≤ c
          = λ k b. omega (arith, (((counts_exactly (with_limits t lowered) lowered_rules).counted (0 ∷ w)).0 e).1 k l b below, visits_are lowered l (take (suc k) (0 ∷ w)), lower_at) in
          omega (arith, less, most_each t l (0 ∷ w) c visited)

      pub needed : (i : ℕ) × (walk_reply (with_limits t lowered) (0 ∷ w) ≡ refused 313 i)
      unfolding walk_reply walk_blocks counted_run start
      needed = ⊎_elim (λ k. absurd (not_kept (both (is_run lowered) k))) (λ r. (r.0, checked ∙ rw (lt-ltb 0 (block_count t) (some_block t (nested t rules))) r.1))
          (over_limit (with_limits t lowered) M w start 1 (accepted (walked (with_limits t lowered) (0 ∷ w))) (start_kept (with_limits t lowered) M) (some_block t (nested t rules)) (is_path lowered))
        where
          M : Nested (with_limits t lowered)
          M = nested (with_limits t lowered) lowered_rules

          length_rule_lem : (p : ℕ) → p < 1 → (length_rule (0 ∷ w)).broken p ≡ false
          length_rule_lem p b = neither (le-ltb (length (0 ∷ w)) 1 (omega arith)) (le-ltb longest_walk (length (0 ∷ w)) short)

          reply : Reply Walked
          reply = walk_blocks (with_limits t lowered) (0 ∷ w) (accepted (walked (with_limits t lowered) (0 ∷ w)))

          checked : walk_reply (with_limits t lowered) (0 ∷ w) ≡ reply
          checked = all_pass (structure_rules (with_limits t lowered) ++ length_rule (0 ∷ w) ∷ []) reply (append_all (structure_rules (with_limits t lowered)) (length_rule (0 ∷ w) ∷ []) lowered_rules (length_rule_lem, tt))

module _ (t : Routine) (w stayed visited : List ℕ) (k : ℕ) (e : tally_reply t w stayed visited ≡ accepted k) where
  R : Recording t w
  R = recording t w stayed visited k e

  N : Nested t
  N = nested t R.rules

  short : length (0 ∷ R.rest) ≤ longest_walk
  short = rw R.whole at R.short

  pub limits_seen : ((l : ℕ) → l < loop_count t → greatest t l w ≤ 65535) → LimitsSeen t w (by_loop t (λ l. greatest t l w))
  limits_seen most =
      rw R.whole (record {
        enough = enough t R.rules R.rest short R.follows R.at_exit most';
        needed = λ l c b some less. needed t R.rules R.rest short R.follows R.at_exit most' l c b some (omega (arith, less, tabulate-at (loop_count t) (λ l. greatest t l (0 ∷ R.rest)) 0 l b));
      })
    where
      most' : (l : ℕ) → l < loop_count t → greatest t l (0 ∷ R.rest) ≤ 65535
      most' = rw R.whole at most

  pub numbers_seen : NumbersSeen t w
  unfolding start after
  numbers_seen = record { root = rw R.whole (one_stay t N R.rest 0 (some_block t N) R.follows, omega (arith, root_once t N R.rest R.follows, least)); never = λ l b o. never_seen t l w o }
    where
      least : 1 ≤ greatest t 0 (0 ∷ R.rest)
      least = omega (arith, (counts_exactly t R.rules).stepped [] 0 N.some_loop, each_most t 0 (0 ∷ R.rest) 0 (omega arith))

-- ---- refusals

-- a refusal of a recording is that of the walk, unless the walk's is 313
module _ (t : Routine) where
  as_walk : (w : List ℕ) (s : State) (i : ℕ) (passed : Reply Walked) → ((k : ℕ) → walk_from t s i w passed ≡ refused 313 k → ⊥)
      → recording_from t s.block i w (steps_of passed) ≡ steps_of (walk_from t s i w passed)
  unfolding recording_from walk_from next
  as_walk [] s i passed never = go (eqb s.block (exit t))
    where
      go : (b : Bool) → (when b then steps_of passed else refused 314 i) ≡ steps_of (when b then passed else refused 314 i)
      go true = refl
      go false = refl
  as_walk (v ∷ w) s i passed never =
      go (ltb v (block_count t)) (eqb s.block (exit t)) (edge t s.block v) (passes_limit t (next t s v)) never (λ h. as_walk w (next t s v) (suc i) passed h)
    where
      rest : Reply Walked
      rest = walk_from t (next t s v) (suc i) w passed

      go : (a b c d : Bool)
          → ((k : ℕ) → (when not a then refused 302 i else when b then refused 311 i else when not c then refused 312 i else when d then refused 313 i else rest) ≡ refused 313 k → ⊥)
          → (((k : ℕ) → rest ≡ refused 313 k → ⊥) → recording_from t v (suc i) w (steps_of passed) ≡ steps_of rest)
          → (when not a then refused 302 i else when b then refused 311 i else when not c then refused 312 i else recording_from t v (suc i) w (steps_of passed))
          ≡ steps_of (when not a then refused 302 i else when b then refused 311 i else when not c then refused 312 i else when d then refused 313 i else rest)
      go false b c d never same = refl
      go true true c d never same = refl
      go true false false d never same = refl
      go true false true true never same = absurd (never i refl)
      go true false true false never same = same never

  blocks_as_walk : (w : List ℕ) (passed : Reply Walked) → ((k : ℕ) → walk_blocks t w passed ≡ refused 313 k → ⊥) → recording_blocks t w (steps_of passed) ≡ steps_of (walk_blocks t w passed)
  unfolding recording_blocks walk_blocks start
  blocks_as_walk [] passed never = refl
  blocks_as_walk (v ∷ w) passed never = go (ltb v (block_count t)) (eqb v 0) never
    where
      rest : Reply Walked
      rest = walk_from t start 1 w passed

      go : (a b : Bool) → ((k : ℕ) → (when not a then refused 302 0 else when not b then refused 303 0 else rest) ≡ refused 313 k → ⊥)
          → (when not a then refused 302 0 else when not b then refused 303 0 else recording_from t 0 1 w (steps_of passed)) ≡ steps_of (when not a then refused 302 0 else when not b then refused 303 0 else rest)
      go false b never = refl
      go true false never = refl
      go true true never = as_walk w start 1 passed never

  check_steps : (rs : List Rule) (passed : Reply Walked) → check rs (steps_of passed) ≡ steps_of (check rs passed)
  unfolding check
  check_steps [] passed = refl
  check_steps (r ∷ rs) passed = go (first_below r.places r.broken) (check_steps rs passed)
    where
      go : (o : Option ℕ) → check rs (steps_of passed) ≡ steps_of (check rs passed) → refused_at r.number o (check rs (steps_of passed)) ≡ steps_of (refused_at r.number o (check rs passed))
      go (Some p) rest = refl
      go None rest = rest

  -- what comes after the rules counts where they hold
  after_rules : {A : Type 0} (rs : List Rule) (x y : Reply A) → (AllHold rs → x ≡ y) → check rs x ≡ check rs y
  unfolding check
  after_rules [] x y same = same tt
  after_rules {A} (r ∷ rs) x y same = go (first_below r.places r.broken) refl (λ holds. after_rules rs x y (λ h. same (holds, h)))
    where
      go : (o : Option ℕ) → first_below r.places r.broken ≡ o → (Holds r → check rs x ≡ check rs y) → refused_at r.number o (check rs x) ≡ refused_at r.number o (check rs y)
      go (Some p) e rest = refl
      go None e rest = rest (not_found r.places r.broken e)

pub refused_as_walks : (t : Routine) → RefusedAsWalks t
unfolding tally_reply walk_reply
refused_as_walks t w stayed visited e e' never =
    behind (structure_rules t) (columns_rule t stayed visited ∷ length_rule w ∷ []) (length_rule w ∷ []) (recording_blocks t w (accepted (length w - 1)))
    (hands_on (columns_rule t stayed visited) (length_rule w ∷ []) (recording_blocks t w (accepted (length w - 1))) (λ p h. rw (eq-eqb (length stayed) (loop_count t) e, eq-eqb (length visited) (loop_count t) e')))
    ∙ after_rules t (structure_rules t ++ length_rule w ∷ []) (recording_blocks t w (accepted (length w - 1))) (steps_of blocks)
    (λ h. blocks_as_walk t w (accepted (walked t w)) (λ k q. never k (all_pass (structure_rules t ++ length_rule w ∷ []) blocks h ∙ q)))
    ∙ check_steps t (structure_rules t ++ length_rule w ∷ []) blocks
  where
    blocks : Reply Walked
    blocks = walk_blocks t w (accepted (walked t w))
