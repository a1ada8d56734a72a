-- The counts that the steps of a run keep are the visits to the headers in the present stays, counted over the list; and a run is counted
-- exactly where at each of its blocks no present stay has more visits than the loop's limit (`counts_exactly`). So "visits to its header ..
-- within one stay" is stated without steps, for every pair of tables that keeps 201 to 207. Assumes nothing.
use mathlib.Core.Path.{◌≡◌, refl, sym, ◌∙◌, ap}
use mathlib.Core.Logic.{◌↔◌}
use mathlib.Core.Bool.{Bool, true, false, not, ◌&&◌, false≢true}
use mathlib.Core.List.{List, [], ◌∷◌, ◌++◌}
use Prim.Native.Nat.{ℕ, zero, suc, ◌+◌, ◌≤◌, ◌<◌}
use native.Mathlib.Omega.{arith}
use lib.Dec.{eqb, eqb-suc-zero, eqb-zero-suc}
use borrow.Author.Tests.{eqb-true}
use lib.ListN.{length, take}
use Rattle.lists.specs.Search.{when◌then◌else◌}
use Rattle.lists.proofs.Tests.{and-true, both}
use Rattle.wcet.specs.Table.{Routine, loop_count, header, limit, inside}
use Rattle.wcet.specs.Rules.{structure_rules}
use Rattle.wcet.specs.Run.{path, run, State, start, next_count, next, after, keeps_limits, counted_run}
use Rattle.wcet.specs.Claim.{AllHold}
use Rattle.wcet.specs.Stays.{all_inside, current_stay, visits, stay_visits, CountsExactly}
use Rattle.wcet.proofs.Nesting.{Nested, nested}
use Rattle.wcet.proofs.Potential.{inside_own}
use Rattle.wcet.proofs.Entry.{inside_0}
use Rattle.wcet.proofs.Limits.{keeps_each, each_keeps}

-- ---- a list after another, and one block more at the end of a list

pub inside_append : (t : Routine) (l : ℕ) (w w' : List ℕ) → all_inside t l (w ++ w') ≡ (all_inside t l w && all_inside t l w')
unfolding all_inside
inside_append t l [] w' = refl
inside_append t l (u ∷ w) w' = rw (inside_append t l w w') (sym (mathlib.Core.Bool.and_assoc (inside t u l) (all_inside t l w) (all_inside t l w')))

pub visits_append : (h : ℕ) (w w' : List ℕ) → visits h (w ++ w') ≡ visits h w + visits h w'
unfolding visits
visits_append h [] w' = omega arith
visits_append h (u ∷ w) w' = let rest = visits_append h w w' in omega arith

all_snoc : (t : Routine) (l : ℕ) (w : List ℕ) (v : ℕ) → all_inside t l (w ++ v ∷ []) ≡ (all_inside t l w && inside t v l)
unfolding all_inside
all_snoc t l w v = inside_append t l w (v ∷ []) ∙ ap (λ (x : Bool). all_inside t l w && x) (mathlib.Core.Bool.and-true (inside t v l))

stay_snoc : (t : Routine) (l : ℕ) (w : List ℕ) (v : ℕ) → current_stay t l (w ++ v ∷ []) ≡ (when inside t v l then current_stay t l w ++ v ∷ [] else [])
unfolding current_stay all_inside
stay_snoc t l [] v = go (inside t v l)
  where
    go : (i : Bool) → (when i && true then v ∷ [] else []) ≡ (when i then [] ++ v ∷ [] else [])
    go true = refl
    go false = refl
stay_snoc t l (u ∷ w) v = rw (all_snoc t l w v, stay_snoc t l w v) (go (inside t u l) (all_inside t l w) (inside t v l))
  where
    go : (a b c : Bool) → (when a && (b && c) then u ∷ (w ++ v ∷ []) else when c then current_stay t l w ++ v ∷ [] else [])
        ≡ (when c then (when a && b then u ∷ w else current_stay t l w) ++ v ∷ [] else [])
    go true true true = refl
    go true true false = refl
    go true false true = refl
    go true false false = refl
    go false b true = refl
    go false b false = refl

visits_snoc : (h : ℕ) (w : List ℕ) (v : ℕ) → visits h (w ++ v ∷ []) ≡ visits h w + (when eqb h v then 1 else 0)
unfolding visits
visits_snoc h w v = omega (arith, visits_append h w (v ∷ []))

snoc_assoc : (q w : List ℕ) (v : ℕ) → (q ++ v ∷ []) ++ w ≡ q ++ v ∷ w
snoc_assoc [] w v = refl
snoc_assoc (x ∷ q) w v = ap (λ (s : List ℕ). x ∷ s) (snoc_assoc q w v)

-- ---- the counts

module _ (t : Routine) (N : Nested t) where
  -- a header is inside its own loop (204)
  pub header_inside : (l : ℕ) → l < loop_count t → inside t (header t l) l ≡ true
  header_inside l b = rw (N.own l b) at (inside_own t (header t l))

  module _ (l : ℕ) (below : l < loop_count t) where
    h : ℕ
    h = header t l

    -- a list whose last block is outside of l
    none_outside : (w : List ℕ) (u : ℕ) → inside t u l ≡ false → stay_visits t l (w ++ u ∷ []) ≡ 0
    unfolding visits
    none_outside w u o = rw (stay_snoc t l w u, o)

    -- one step, by its tests: u and v inside l, v the header
    stepped : (iu iv eh : Bool) (c : ℕ) → (eh ≡ true → iv ≡ true) → (iu ≡ false → c ≡ 0)
        → (when iu && not iv then 0 else when not eh then c else when iu then c + 1 else 1) ≡ (when iv then c + (when eh then 1 else 0) else 0)
    stepped true true true c p q = refl
    stepped true true false c p q = omega arith
    stepped true false eh c p q = refl
    stepped false true true c p q = omega (arith, q refl)
    stepped false true false c p q = omega arith
    stepped false false true c p q = absurd (false≢true (p refl))
    stepped false false false c p q = q refl

    pub step_visits : (w : List ℕ) (u v : ℕ) → next_count t u v l (stay_visits t l (w ++ u ∷ [])) ≡ stay_visits t l ((w ++ u ∷ []) ++ v ∷ [])
    unfolding next_count
    step_visits w u v =
        stepped (inside t u l) (inside t v l) (eqb (header t l) v) (stay_visits t l (w ++ u ∷ []))
        (λ e. ap (λ (x : ℕ). inside t x l) (sym (eqb-true (header t l) v e)) ∙ header_inside l below)
        (none_outside w u)
        ∙ counted (inside t v l) refl
      where
        counted : (i : Bool) → inside t v l ≡ i
            → (when i then stay_visits t l (w ++ u ∷ []) + (when eqb (header t l) v then 1 else 0) else 0) ≡ stay_visits t l ((w ++ u ∷ []) ++ v ∷ [])
        counted true e = rw (stay_snoc t l (w ++ u ∷ []) v, e) (sym (visits_snoc (header t l) (current_stay t l (w ++ u ∷ [])) v))
        counted false e = unfold visits in rw (stay_snoc t l (w ++ u ∷ []) v, e)

    -- from a state whose count is the visits in the last stay so far
    along : (w q : List ℕ) (s : State) → s.count l ≡ stay_visits t l (q ++ s.block ∷ []) → (after t s w).count l ≡ stay_visits t l (q ++ s.block ∷ w)
    unfolding after next
    along [] q s e = e
    along (v ∷ w) q s e =
        along w (q ++ s.block ∷ []) (next t s v) (ap (next_count t s.block v l) e ∙ step_visits q s.block v)
        ∙ ap (stay_visits t l) (snoc_assoc q (v ∷ w) s.block)

    at_start : start.count l ≡ stay_visits t l (0 ∷ [])
    unfolding start current_stay all_inside visits
    at_start = rw (inside_0 t N l) (go l N.loop0_header)
      where
        go : (k : ℕ) → header t 0 ≡ 0 → (when eqb k 0 then 1 else 0) ≡ visits (header t k) (when eqb 0 k && true then 0 ∷ [] else [])
        go zero e = rw e
        go (suc k) e = rw (eqb-suc-zero k, eqb-zero-suc k)

    pub count_is : (w : List ℕ) → (after t start w).count l ≡ stay_visits t l (0 ∷ w)
    unfolding start
    count_is w = along w [] start at_start

  -- each beginning of a list from block 0, by its counts and by its stays
  counted_run_lem : (w : List ℕ)
      → (counted_run t w ≡ true) ↔ ((run t w ≡ true) × ((k l : ℕ) → k < length w → l < loop_count t → stay_visits t l (take (suc k) w) ≤ limit t l))
  unfolding counted_run run
  counted_run_lem [] = (λ e. absurd (false≢true e), λ h. absurd (false≢true h.0))
  counted_run_lem (v ∷ w) = (
    λ e.
        let p : ((eqb v 0 && path t v w) ≡ true) × (keeps_limits t start w ≡ true) = and-true _ _ e in
        let z : v ≡ 0 = zero_of p.0 in
        (p.0, λ k l b c. rw (z, ← count_is l c (take k w)) (keeps_each t w start p.1 k (omega arith) l c)),
    λ h.
        let z : v ≡ 0 = zero_of h.0 in
        both h.0 (each_keeps t w start (λ k b l c. rw (count_is l c (take k w)) (rw z at (h.1 k l (omega arith) c)))),
  )
    where
      zero_of : (eqb v 0 && path t v w) ≡ true → v ≡ 0
      zero_of e = eqb-true v 0 (and-true _ _ e).0

pub counts_exactly : (t : Routine) → AllHold (structure_rules t) → CountsExactly t
counts_exactly t h = record { stepped = λ w l b. count_is t (nested t h) l b w; counted = counted_run_lem t (nested t h) }
