-- What is claimed of the definitions, and proved in proofs/: demand 3, acceptance in other words, accepted walks, negative bounds, trimmed
-- tables, the shortest time.
use Rattle.std.specs.Prelude.{ℕ, suc, ◌-◌, ◌≤◌, ◌<◌, ◌≡◌, ◌↔◌, true, false, List, [], ◌∷◌, ◌++◌, ℤ, pos, ◌+ℤ◌, length, get_or, take, ◌≤ℤ◌, ◌<ℤ◌}
use Rattle.limits.specs.Limits.{longest_walk}
use Rattle.wcet.specs.Table.{Routine, loop_count, exit, cost, figure, inside}
use Rattle.wcet.specs.Cycles.{ClosedWalk, undeclared_loop}
use Rattle.wcet.specs.Rules.{Reply, accepted, refused, Rule, structure_rules, table_rules, bound, table_reply}
use Rattle.wcet.specs.Run.{start, leaves, after, counted_run, run_cost}
use Rattle.wcet.specs.Walk.{Walked, walked, walk_reply}
use Rattle.wcet.specs.Trimming.{Trimmed}
use Rattle.wcet.specs.Shortest.{LowCertificate, least, Finished, keeps_least, shortest_rules, low_bound, shortest_reply}

-- ---- demand 3

-- Demand 3: "cost so far + the block's figure ≤ entry's cost + entry's figure; and where that block is the exit, the cost so far ≤ the accepted
-- bound", at the block with index k of the list w. "The cost so far at a block of the list is the cost of the run that ends with that block."
pub record BoundedAt (t : Routine) (b : ℤ) (w : List ℕ) (k : ℕ) : Type 0 where
  pub so_far : (pos (run_cost t (take (suc k) w)) +ℤ figure t (get_or w k 0)) ≤ℤ (pos (cost t 0) +ℤ figure t 0)
  pub finished : get_or w k 0 ≡ exit t → pos (run_cost t (take (suc k) w)) ≤ℤ b

-- Demand 3: "every list of block numbers of any length: at each block up to which the list is a counted run, that block included": one claim
-- about the whole list. "A list that breaks one of these rules is a counted run up to the block before the first break".
abbrev pub WcetBound : Routine → ℤ → Type 0
WcetBound t b = (w : List ℕ) (k : ℕ) → k < length w → counted_run t (take (suc k) w) ≡ true → BoundedAt t b w k

-- "When the checker of a pair of tables is delivered, demand 3 is delivered with it, undivided": what the checker ensures of its reply r
-- to t. The reply is the one that the rules give (demand 2), and demand 3 holds of an accepted bound.
pub record Checked (t : Routine) (r : Reply ℤ) : Type 0 where
  pub replied : r ≡ table_reply t
  pub bounded : (b : ℤ) → r ≡ accepted b → WcetBound t b

-- ---- acceptance in other words

-- the rule is broken at none of its places
abbrev pub Holds : Rule → Type 0
Holds r = (p : ℕ) → p < r.places → r.broken p ≡ false

abbrev pub AllHold : List Rule → Type 0
AllHold [] = Unit {0}
AllHold (r ∷ rs) = Holds r × AllHold rs

-- the rule with this number is broken at this place and at no lower one, and no rule before it is broken anywhere
pub record FirstBroken (rs : List Rule) (number place : ℕ) : Type 0 where
  pub before : List Rule
  pub rule : Rule
  pub later : List Rule
  pub order : rs ≡ before ++ rule ∷ later
  pub earlier : AllHold before
  pub named : rule.number ≡ number
  pub there : place < rule.places
  pub breaks : rule.broken place ≡ true
  pub lowest : (p : ℕ) → p < place → rule.broken p ≡ false

-- A pair of tables is accepted exactly where none of 201 to 209 is broken, and then with its bound; and refused exactly with the first
-- broken rule at its lowest place. Document 02, §2: "Refusal must come exactly when such a closed walk exists, by a definition that does not
-- sort anything": where 201 to 207 hold, the test of 209 holds exactly where there is a closed walk. By the order of §6 the reply is 209, at
-- place 0, exactly where 201 to 207 hold and there is one, whatever 208 says.
pub record RepliesExactly (t : Routine) : Type 0 where
  pub accepts : (b : ℤ) → (table_reply t ≡ accepted b) ↔ (AllHold (table_rules t) × (bound t ≡ b))
  pub refuses : (number place : ℕ) → (table_reply t ≡ refused number place) ↔ FirstBroken (table_rules t) number place
  pub closed : AllHold (structure_rules t) → (undeclared_loop t ≡ true) ↔ ClosedWalk t
  pub undeclared : (place : ℕ) → (table_reply t ≡ refused 209 place) ↔ ((place ≡ 0) × AllHold (structure_rules t) × ClosedWalk t)

-- ---- accepted walks

-- a counted run that "is finished at block n−1"
pub record FinishedRun (t : Routine) (w : List ℕ) : Type 0 where
  pub counted : counted_run t w ≡ true
  pub at_exit : get_or w (length w - 1) 0 ≡ exit t

-- Demand 2, of the reply r to the walk w over t: "A walk within the length limit, over tables that keep those ranges and rules, is accepted
-- exactly when it is a finished counted run, with its true cost", and its length less one for the step count
abbrev pub AcceptsExactly : Routine → List ℕ → Reply Walked → Type 0
AcceptsExactly t w r = AllHold (structure_rules t) → length w ≤ longest_walk → (x : Walked) → (r ≡ accepted x) ↔ (FinishedRun t w × (walked t w ≡ x))

-- what the checker of a walk ensures of its reply
pub record WalkChecked (t : Routine) (w : List ℕ) (r : Reply Walked) : Type 0 where
  pub replied : r ≡ walk_reply t w
  pub accepts : AcceptsExactly t w r

-- "It may be negative; then no finished counted run exists."
abbrev pub NegativeBound : Routine → Type 0
NegativeBound t = (b : ℤ) → table_reply t ≡ accepted b → b <ℤ pos 0 → (w : List ℕ) → FinishedRun t w → ⊥

-- ---- trimmed tables

-- Document 02, §9: "an accepted table stays accepted .., and .. its bound then is not greater. Every counted run of the trimmed table is a
-- counted run of the old one, at no lower cost there." And in replies: a walk that is accepted over the trimmed tables is accepted over the
-- old ones, where these keep 201 to 207, with as many steps and at no lower cost.
pub record StaysChecked (old new : Routine) : Type 0 where
  pub accepts : (b : ℤ) → table_reply old ≡ accepted b → (c : ℤ) × (table_reply new ≡ accepted c) × (c ≤ℤ b)
  pub runs : (w : List ℕ) → counted_run new w ≡ true → (counted_run old w ≡ true) × (run_cost new w ≤ run_cost old w)
  pub walks : AllHold (structure_rules old) → (w : List ℕ) (x : Walked) → walk_reply new w ≡ accepted x
      → (y : Walked) × (walk_reply old w ≡ accepted y) × (x.total ≤ y.total) × (x.steps ≡ y.steps)

-- the one claim: it holds of all tables and all their trimmed tables
abbrev pub TrimmedStaysChecked : Type 0
TrimmedStaysChecked = (old new : Routine) → Trimmed old new → StaysChecked old new

-- ---- the shortest time

-- Document 02, §10: "No finished run with at least those visits in every stay costs less than" b
abbrev pub ShortestBound : Routine → LowCertificate → ℤ → Type 0
ShortestBound t c b = (w : List ℕ) → Finished t w → keeps_least t c w ≡ true → b ≤ℤ pos (run_cost t w)

-- what the checker of a second certificate ensures of its reply r: it is the one that the rules give, and an accepted number is a lower bound
pub record ShortestChecked (t : Routine) (c : LowCertificate) (r : Reply ℤ) : Type 0 where
  pub replied : r ≡ shortest_reply t c
  pub bounded : (b : ℤ) → r ≡ accepted b → ShortestBound t c b

-- the replies in other words, as in `RepliesExactly`: accepted exactly where no rule is broken, refused exactly with the first broken one
pub record ShortestExactly (t : Routine) (c : LowCertificate) : Type 0 where
  pub accepts : (b : ℤ) → (shortest_reply t c ≡ accepted b) ↔ (AllHold (shortest_rules t c) × (low_bound t c ≡ b))
  pub refuses : (number place : ℕ) → (shortest_reply t c ≡ refused number place) ↔ FirstBroken (shortest_rules t c) number place

-- The least visits by the steps of a run (`Run.antt`), along the blocks of w after block 0: "A stay counts when it is left or when the run
-- finishes". Each loop that a step leaves, and each loop around the last block, has its count at the least or over.
pub record LeastCounted (t : Routine) (c : LowCertificate) (w : List ℕ) : Type 0 where
  pub left : (l k : ℕ) → l < loop_count t → k < length w → leaves t (after t start (take k w)).block (get_or w k 0) l ≡ true → least c l ≤ (after t start (take k w)).count l
  pub finished : (l : ℕ) → l < loop_count t → inside t (after t start w).block l ≡ true → least c l ≤ (after t start w).count l

-- for tables that keep 201 to 207, the test over the list says the same
abbrev pub LeastExactly : Routine → LowCertificate → Type 0
LeastExactly t c = AllHold (structure_rules t) → (w : List ℕ) → (keeps_least t c (0 ∷ w) ≡ true) ↔ LeastCounted t c w

-- where both certificates are accepted, and some finished counted run keeps the least visits, the lower bound is at most the upper one
abbrev pub InOrder : Routine → LowCertificate → Type 0
InOrder t c = (lo hi : ℤ) → shortest_reply t c ≡ accepted lo → table_reply t ≡ accepted hi → (w : List ℕ) → FinishedRun t w → keeps_least t c w ≡ true → lo ≤ℤ hi
