-- How the number of stays and the greatest number of visits change at one block more (`stays_snoc`, `greatest_snoc`), and that a loop that is
-- never entered has neither (`never_seen`). Assumes nothing.
use mathlib.Core.Path.{◌≡◌, refl, ◌∙◌, ap}
use mathlib.Core.Bool.{Bool, true, false, not, ◌&&◌}
use mathlib.Core.List.{List, [], ◌∷◌, ◌++◌}
use Prim.Native.Nat.{ℕ, zero, suc, ◌+◌, ◌≤◌, ◌<◌, max}
use native.Mathlib.Omega.{arith}
use lib.ListN.{length, get_or, take, length-append}
use lib.Seq.{take_all, take-append-le}
use Rattle.lists.specs.Search.{when◌then◌else◌, greatest_below}
use Rattle.lists.proofs.Search.{greatest_ext, below_greatest, greatest_below_lem}
use Rattle.wcet.specs.Table.{Routine, inside}
use Rattle.wcet.specs.Stays.{all_inside, current_stay, visits, stay_visits}
use Rattle.wcet.specs.Tally.{begins_inside, stays, greatest}

-- ---- the number of stays

module _ (t : Routine) (l : ℕ) where
  begins_snoc : (w : List ℕ) (u v : ℕ) → begins_inside t l ((w ++ u ∷ []) ++ v ∷ []) ≡ begins_inside t l (w ++ u ∷ [])
  unfolding begins_inside
  begins_snoc [] u v = refl
  begins_snoc (x ∷ w) u v = refl

  pub stays_first : (v : ℕ) → stays t l (v ∷ []) ≡ (when inside t v l then 1 else 0)
  unfolding stays begins_inside
  stays_first v = go (inside t v l)
    where
      go : (b : Bool) → (when b && true then 1 else 0) + 0 ≡ (when b then 1 else 0)
      go true = refl
      go false = refl

  -- a block inside l begins a stay where the one before it is outside
  pub stays_snoc : (w : List ℕ) (u v : ℕ) → stays t l ((w ++ u ∷ []) ++ v ∷ []) ≡ stays t l (w ++ u ∷ []) + (when inside t v l && not (inside t u l) then 1 else 0)
  unfolding stays begins_inside
  stays_snoc [] u v = go (inside t u l) (inside t v l)
    where
      go : (a b : Bool) → (when a && not b then 1 else 0) + ((when b && true then 1 else 0) + 0) ≡ (when a && true then 1 else 0) + 0 + (when b && not a then 1 else 0)
      go true true = refl
      go true false = refl
      go false true = refl
      go false false = refl
  stays_snoc (x ∷ w) u v = rw (begins_snoc w u v) (let rest = stays_snoc w u v in omega arith)

  pub stays_most : (w : List ℕ) → stays t l w ≤ length w
  unfolding stays
  stays_most [] = omega arith
  stays_most (v ∷ w) = let r = stays_most w in omega (arith, one (inside t v l && not (begins_inside t l w)))
    where
      one : (b : Bool) → (when b then 1 else 0) ≤ 1
      one true = omega arith
      one false = omega arith

  -- ---- the greatest number

  pub greatest_snoc : (w : List ℕ) (v : ℕ) → greatest t l (w ++ v ∷ []) ≡ max (greatest t l w) (stay_visits t l (w ++ v ∷ []))
  unfolding greatest
  greatest_snoc w v =
      ap (λ (n : ℕ). greatest_below n (λ k. stay_visits t l (take (suc k) (w ++ v ∷ [])))) one_more
      ∙ unfold greatest_below in rw (greatest_ext (length w) (λ k. stay_visits t l (take (suc k) (w ++ v ∷ []))) (λ k. stay_visits t l (take (suc k) w)) (λ k h. ap (stay_visits t l) (take-append-le (suc k) w (v ∷ []) h)), take_all (suc (length w)) (w ++ v ∷ []) (omega (arith, one_more)))
    where
      one_more : length (w ++ v ∷ []) ≡ suc (length w)
      one_more = omega (arith, length-append w (v ∷ []))

  pub greatest_first : (v : ℕ) → greatest t l (v ∷ []) ≡ stay_visits t l (v ∷ [])
  greatest_first v = greatest_snoc [] v ∙ (unfold greatest greatest_below in omega arith)

  -- the visits in the stay under way at the end are not more
  pub last_most : (w : List ℕ) (v : ℕ) → stay_visits t l (w ++ v ∷ []) ≤ greatest t l (w ++ v ∷ [])
  last_most w v = omega (arith, greatest_snoc w v)

  -- the visits in the stay under way at the end of any beginning are not more
  pub each_most : (w : List ℕ) (k : ℕ) → k < length w → stay_visits t l (take (suc k) w) ≤ greatest t l w
  unfolding greatest
  each_most w k h = below_greatest (length w) (λ k. stay_visits t l (take (suc k) w)) k h

  pub most_each : (w : List ℕ) (c : ℕ) → ((k : ℕ) → k < length w → stay_visits t l (take (suc k) w) ≤ c) → greatest t l w ≤ c
  unfolding greatest
  most_each w c h = greatest_below_lem (length w) c (λ k. stay_visits t l (take (suc k) w)) h

  -- ---- a loop that is never entered

  Outside : List ℕ → Type 0
  Outside w = (k : ℕ) → k < length w → inside t (get_or w k 0) l ≡ false

  later : (v : ℕ) (w : List ℕ) → Outside (v ∷ w) → Outside w
  unfolding Outside
  later v w o k h = o (suc k) (omega arith)

  never_stays : (w : List ℕ) → Outside w → stays t l w ≡ 0
  unfolding stays Outside
  never_stays [] o = refl
  never_stays (v ∷ w) o = let here : inside t v l ≡ false = o 0 (omega arith) in rw here (omega (arith, never_stays w (later v w o)))

  no_stay : (w : List ℕ) → Outside w → current_stay t l w ≡ []
  unfolding current_stay all_inside Outside
  no_stay [] o = refl
  no_stay (v ∷ w) o = let here : inside t v l ≡ false = o 0 (omega arith) in rw here (no_stay w (later v w o))

  begun : (w : List ℕ) (k : ℕ) → Outside w → Outside (take k w)
  unfolding Outside
  begun [] zero o j h = absurd (omega arith)
  begun [] (suc k) o j h = absurd (omega arith)
  begun (v ∷ w) zero o j h = absurd (omega arith)
  begun (v ∷ w) (suc k) o zero h = o 0 (omega arith)
  begun (v ∷ w) (suc k) o (suc j) h = begun w k (later v w o) j (omega arith)

  never_visits : (w : List ℕ) → Outside w → greatest t l w ≤ 0
  unfolding visits
  never_visits w o = most_each w 0 (λ k h. rw (no_stay (take (suc k) w) (begun w (suc k) o)) (omega arith))

  pub never_seen : (w : List ℕ) → ((k : ℕ) → k < length w → inside t (get_or w k 0) l ≡ false) → (stays t l w ≡ 0) × (greatest t l w ≡ 0)
  unfolding Outside
  never_seen w o = (never_stays w o, omega (arith, never_visits w o))
