-- Document 02, §7, "Limits seen in recordings": what a recorded walk shows of each loop, by the list of its blocks as a whole and with no state;
-- the reply and the two lent columns; and what is claimed of the numbers.
use Rattle.std.specs.Prelude.{ℕ, suc, ◌+◌, ◌-◌, ◌≤◌, ◌<◌, ◌≡◌, Bool, false, not, ◌&&◌, List, [], ◌∷◌, ◌++◌, map, eqb, length, get_or, take, set}
use Rattle.lists.specs.Search.{when◌then◌else◌, greatest_below, tabulate}
use Rattle.wcet.specs.Table.{Routine, with_numbers, loop_count, exit, edge, inside}
use Rattle.wcet.specs.Rules.{Reply, accepted, refused, Rule, check, sized, structure_rules}
use Rattle.wcet.specs.Walk.{Walked, walked, length_rule, at_block, walk_reply}
use Rattle.wcet.specs.Stays.{stay_visits}

-- ---- the two numbers of a loop

-- the first block of the list w is inside loop l; not where w is empty
unfoldable pub begins_inside : Routine → ℕ → List ℕ → Bool
begins_inside t l [] = false
begins_inside t l (v ∷ w) = inside t v l

-- "the number of stays": a stay is a maximal stretch of the list inside loop l. Each is counted at its last block, where the list ends or goes
-- on outside l, so a stay under way at the end counts.
unfoldable pub stays : Routine → ℕ → List ℕ → ℕ
stays t l [] = 0
stays t l (v ∷ w) = (when inside t v l && not (begins_inside t l w) then 1 else 0) + stays t l w

-- "the greatest number of header visits in one stay": over all beginnings of w, the greatest number of visits in the stay under way at their
-- end. The visits of a stay only grow, so they are greatest where it ends.
unfoldable pub greatest : Routine → ℕ → List ℕ → ℕ
greatest t l w = greatest_below (length w) (λ k. stay_visits t l (take (suc k) w))

-- ---- the reply

-- 421: "when either lent column has a length other than m"
abbrev pub columns_rule : Routine → (stayed visited : List ℕ) → Rule
columns_rule t stayed visited = record { number = 421; places = 1; broken = λ _. not (sized (loop_count t) stayed && sized (loop_count t) visited) }

-- The blocks w that are left, the next of them at index i, after block u: 302, 311, 312 and 314 as for a walk (`walk_from`). "Limits in the
-- table play no part here", so 313 does not occur.
unfoldable pub recording_from : Routine → ℕ → ℕ → List ℕ → Reply ℕ → Reply ℕ
recording_from t u i [] passed = when eqb u (exit t) then passed else refused 314 i
recording_from t u i (v ∷ w) passed =
    at_block t i v (
    when eqb u (exit t) then refused 311 i else
    when not (edge t u v) then refused 312 i else
    recording_from t v (suc i) w passed)

-- the first block, at index 0, and then the others, as for a walk (`walk_blocks`)
unfoldable pub recording_blocks : Routine → List ℕ → Reply ℕ → Reply ℕ
recording_blocks t [] passed = passed
recording_blocks t (v ∷ w) passed = at_block t 0 v (when not (eqb v 0) then refused 303 0 else recording_from t 0 1 w passed)

-- "tables and walks are refused as in document 01 except that 208, 209 and 313 never occur; 421, place 0, .. after 207 and before 301", and
-- "the reply is the walk's step count". `stayed` and `visited` are the lent columns before the call.
unfoldable pub tally_reply : Routine → List ℕ → (stayed visited : List ℕ) → Reply ℕ
tally_reply t w stayed visited = check (structure_rules t ++ columns_rule t stayed visited ∷ length_rule w ∷ []) (recording_blocks t w (accepted (length w - 1)))

-- ---- the lent columns after the call

-- a number for each loop
abbrev pub by_loop : Routine → (ℕ → ℕ) → List ℕ
by_loop t f = tabulate (loop_count t) f

-- "report for each loop the number of stays and the greatest number of header visits in one stay, in two lent columns", "refusals write nothing"
abbrev pub stays_after : Routine → List ℕ → List ℕ → Reply ℕ → List ℕ
stays_after t w before (accepted k) = by_loop t (λ l. stays t l w)
stays_after t w before (refused number place) = before

abbrev pub greatest_after : Routine → List ℕ → List ℕ → Reply ℕ → List ℕ
greatest_after t w before (accepted k) = by_loop t (λ l. greatest t l w)
greatest_after t w before (refused number place) = before

-- ---- what is claimed of the numbers, and proved in proofs/

-- the tables with other limits
abbrev pub with_limits : Routine → List ℕ → Routine
with_limits t limits = with_numbers t t.costs t.figures limits t.multipliers

-- "put in as limits, with 1 in place of 0"
abbrev pub as_limits : List ℕ → List ℕ
as_limits gs = map (λ g. when eqb g 0 then 1 else g) gs

-- Of the walk w and the column gs that the tally wrote: "When the greatest numbers are at most 65,535 and are put in as limits, with 1 in place
-- of 0, the same walk is accepted" (with the same cost and steps); "lowering any one that is 2 or more, not below 1, makes it 313."
pub record LimitsSeen (t : Routine) (w gs : List ℕ) : Type 0 where
  pub enough : walk_reply (with_limits t (as_limits gs)) w ≡ accepted (walked t w)
  pub needed : (l c : ℕ) → l < loop_count t → 1 ≤ c → c < get_or gs l 0 → (i : ℕ) × (walk_reply (with_limits t (set (as_limits gs) l c)) w ≡ refused 313 i)

-- "loop 0 gets 1 and 1"; a loop that no block of w is inside gets 0 and 0
pub record NumbersSeen (t : Routine) (w : List ℕ) : Type 0 where
  pub root : (stays t 0 w ≡ 1) × (greatest t 0 w ≡ 1)
  pub never : (l : ℕ) → l < loop_count t → ((k : ℕ) → k < length w → inside t (get_or w k 0) l ≡ false) → (stays t l w ≡ 0) × (greatest t l w ≡ 0)

-- What the tally ensures of its reply r to the walk w over t and of the lent columns, by what they were before: the reply, both columns, and
-- what the numbers are good for.
pub record Tallied (t : Routine) (w stayed visited : List ℕ) (r : Reply ℕ) (ss gs : List ℕ) : Type 0 where
  pub replied : r ≡ tally_reply t w stayed visited
  pub stays_column : ss ≡ stays_after t w stayed r
  pub greatest_column : gs ≡ greatest_after t w visited r
  pub numbers : (k : ℕ) → r ≡ accepted k → NumbersSeen t w
  pub limits : (k : ℕ) → r ≡ accepted k → ((l : ℕ) → l < loop_count t → get_or gs l 0 ≤ 65535) → LimitsSeen t w gs

-- ---- "refused as in document 01"

-- of an accepted walk its step count alone
abbrev pub steps_of : Reply Walked → Reply ℕ
steps_of (accepted x) = accepted x.steps
steps_of (refused number place) = refused number place

-- with lent columns of m places, the reply is that to the walk, its step count where it is accepted, unless that reply is 313
abbrev pub RefusedAsWalks : Routine → Type 0
RefusedAsWalks t = (w stayed visited : List ℕ) → length stayed ≡ loop_count t → length visited ≡ loop_count t
    → ((i : ℕ) → walk_reply t w ≡ refused 313 i → ⊥) → tally_reply t w stayed visited ≡ steps_of (walk_reply t w)
