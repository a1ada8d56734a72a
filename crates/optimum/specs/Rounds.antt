-- Document 02, §3: "A loop's multiplier is the greatest cost of one round from its header back to it, staying inside, inner limits kept, the
-- header counted once; it is 0 if no round exists."
use Rattle.std.specs.Prelude.{ℕ, ◌≤◌, ◌≡◌, Bool, true, not, ◌&&◌, List, [], ◌∷◌, ◌++◌, ◌⊎◌, eqb, ltb}
use Rattle.lists.specs.Search.{when◌then◌else◌, any_below}
use Rattle.wcet.specs.Table.{Routine, loop_count, header, limit}
use Rattle.wcet.specs.Run.{State, next, path, run_cost}
use Rattle.wcet.specs.Stays.{all_inside, visits}

-- Where a round of loop l begins: at its header, with no inner loop under way. Loops around l stand at 0 here, unlike in a run, and are never
-- touched.
unfoldable pub round_start : Routine → ℕ → State
round_start t l = record { block = header t l; count = λ k. when eqb k l then 1 else 0 }

-- Some loop other than l is over its limit. Within a round these are the inner loops: a walk inside l comes to no header but l's own and those
-- of loops inside l (204).
unfoldable pub passes_inner : Routine → ℕ → State → Bool
passes_inner t l s = any_below (loop_count t) (λ k. not (eqb k l) && ltb (limit t k) (s.count k))

-- "inner limits kept", in state s and at each later block of w
unfoldable pub keeps_inner : Routine → ℕ → State → List ℕ → Bool
keeps_inner t l s [] = not (passes_inner t l s)
keeps_inner t l s (v ∷ w) = not (passes_inner t l s) && keeps_inner t l (next t s v) w

-- "one round from its header back to it, staying inside, inner limits kept": from the header along the blocks of w, of which none is the
-- header, and to the header again
pub record Round (t : Routine) (l : ℕ) (w : List ℕ) : Type 0 where
  pub follows : path t (header t l) (w ++ header t l ∷ []) ≡ true
  pub stays : all_inside t l w ≡ true
  pub first_return : visits (header t l) w ≡ 0
  pub kept : keeps_inner t l (round_start t l) (w ++ header t l ∷ []) ≡ true

-- "the header counted once": at the end and not at the start
abbrev pub round_cost : Routine → ℕ → List ℕ → ℕ
round_cost t l w = run_cost t (w ++ header t l ∷ [])

-- k is "the greatest cost of one round ..; it is 0 if no round exists"
pub record GreatestRound (t : Routine) (l k : ℕ) : Type 0 where
  pub most : (w : List ℕ) → Round t l w → round_cost t l w ≤ k
  pub attained : ((w : List ℕ) × Round t l w × (round_cost t l w ≡ k)) ⊎ ((k ≡ 0) × ((w : List ℕ) → Round t l w → ⊥))
