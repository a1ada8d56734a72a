-- The state of a run as the code has it, and what one block more makes of it. No limit plays a part.
use Rattle.std.specs.Prelude.{ℕ, ◌+◌, ◌-◌, ◌*◌, ◌≤◌, ◌<◌, ◌≡◌, Bool, not, ◌||◌, List, ◌∷◌, eqb, ltb, length, get_or, set, replicate, ℤ, Result, Ok, Err}
use Rattle.limits.specs.Limits.{most_loops, longest_walk}
use Rattle.lists.specs.Search.{when◌then◌else◌}
use Rattle.wcet.specs.Table.{Routine, block_count, exit, cost, loop_of, edge, inside, is_header}
use Rattle.wcet.specs.Rules.{Reply, refused, out_of_range, structure_rules}
use Rattle.wcet.specs.Run.{State, next}
use Rattle.wcet.specs.Claim.{AllHold}
use Rattle.nesting.specs.Columns.{routine, Ranged}
use Rattle.nesting.specs.declared.Tables.{Tables}
use Rattle.loopsets.specs.Sets.{sets_around}
use Rattle.nesting.specs.declared.Refusal.{Refusal}
use Rattle.stepping.specs.declared.Run.{Run}
use Rattle.stepping.specs.declared.RunFault.{RunFault}
use Rattle.stepping.specs.declared.RunFault.TheVariants.{Length, NoBlock, NotEntry, AfterExit, NoEdge, Unfinished}

-- the number and the place of each refusal
abbrev pub run_refusal_of : RunFault → Refusal
run_refusal_of Length = record { number = 301; place = 0 }
run_refusal_of (NoBlock i) = record { number = 302; place = i }
run_refusal_of NotEntry = record { number = 303; place = 0 }
run_refusal_of (AfterExit i) = record { number = 311; place = i }
run_refusal_of (NoEdge i) = record { number = 312; place = i }
run_refusal_of (Unfinished n) = record { number = 314; place = n }

abbrev pub run_refusal : {A : Type 0} → RunFault → Reply A
run_refusal f = refused (run_refusal_of f).number (run_refusal_of f).place

-- ---- the counts

-- the numbers at the first block: 1 for loop 0
abbrev pub first_numbers : List ℕ
first_numbers = 1 ∷ replicate (most_loops - 1) 0

-- the visits to a header in this stay after a step to it, where its count was this: one more, or 1 where the step comes from outside
abbrev pub visits_after : ℕ → Bool → ℕ
visits_after count inside = when inside then count + 1 else 1

-- the same of the loop that a step ends in, and 0 where the step ends at another block than its header
abbrev pub header_visits : ℕ → Bool → Bool → ℕ
header_visits count heading inside = when not heading then 0 else visits_after count inside

-- the counts after a step into loop l that ends with these visits to its header: 0 visits change nothing
abbrev pub counts_after : List ℕ → ℕ → ℕ → List ℕ
counts_after counts l visits = when eqb visits 0 then counts else set counts l visits

-- ---- the state and the step

-- the count of loop l where the run stands at block u: a loop that is not around u stands at 0
abbrev pub count_in : Routine → List ℕ → ℕ → ℕ → ℕ
count_in t counts u l = when inside t u l then get_or counts l 0 else 0

-- where the run stands, in the terms of document 01's definition: its block, and the count of every loop
abbrev pub state_of : Routine → List ℕ → Run → State
state_of t counts r = record { block = r.at; count = count_in t counts r.at }

-- the visits to the header at which a step from s to v ends, in this stay; 0 where v is no header
abbrev pub visits_to : Routine → State → ℕ → ℕ
visits_to t s v = header_visits (s.count (loop_of t v)) (is_header t v) (inside t s.block (loop_of t v))

-- a state, the cost of the run up to it, and the visits of the step that led to it
pub record Outcome : Type 0 where
  pub state : State
  pub spent : ℕ
  pub visits : ℕ

-- the run at the first block: its cost, and the first visit to the header of loop 0
abbrev pub first_run : ℕ → Run
first_run c = record { at = 0; cost = c; visits = 1 }

-- what a step answers, in those terms
abbrev pub outcome : Routine → List ℕ → Result Run RunFault → Result Outcome RunFault
outcome t counts (Ok r) = Ok (record { state = state_of t counts r; spent = r.cost; visits = r.visits })
outcome t counts (Err f) = Err f

-- the visits that a step ends with; a refused step visits nothing
abbrev pub visits_of : Result Run RunFault → ℕ
visits_of (Ok r) = r.visits
visits_of (Err f) = 0

-- What block v, at index i, makes of the state s, where the run's cost is c: "at one index 302, 303, 311, 312" (303 is about the first block,
-- which is no step).
unfoldable pub stepped : Routine → State → ℕ → ℕ → ℕ → Result Outcome RunFault
stepped t s c i v =
    when not (ltb v (block_count t)) then Err (NoBlock i) else
    when eqb s.block (exit t) then Err (AfterExit i) else
    when not (edge t s.block v) then Err (NoEdge i) else
    Ok (record { state = next t s v; spent = c + cost t v; visits = visits_to t s v })

-- ---- the tests of a step, of the first block and of the end

-- 302, 311 and 312 of a step from u, with these two successors, to v at index i, in a routine of n blocks
unfoldable pub edge_answer : ℕ → ℕ → ℕ → ℕ → ℕ → ℕ → Result Unit RunFault
edge_answer n first second u i v =
    when not (ltb v n) then Err (NoBlock i) else
    when eqb u (n - 1) then Err (AfterExit i) else
    when not (eqb first v || eqb second v) then Err (NoEdge i) else
    Ok tt

-- 301, 302 and 303 of the list w in a routine of n blocks
unfoldable pub entry_answer : ℕ → List ℕ → Result Unit RunFault
entry_answer n w =
    when out_of_range 1 longest_walk (length w) then Err Length else
    when not (ltb (get_or w 0 0) n) then Err (NoBlock 0) else
    when not (eqb (get_or w 0 0) 0) then Err NotEntry else
    Ok tt

-- 314 of a run over a list of this length, in a routine of n blocks
unfoldable pub end_answer : Run → ℕ → ℕ → Result Unit RunFault
end_answer r n length = when not (eqb r.at (n - 1)) then Err (Unfinished length) else Ok tt

-- ---- what a step may rely on, and what it ensures

-- the tables keep 201 to 207, with the lengths and ranges of 201 to 203 by name, and `sets` has the loops around each loop
pub record Walkable (t : Routine) (sets : List ℕ) : Type 0 where
  pub rules : AllHold (structure_rules t)
  pub ranged : Ranged t
  pub sets_around_lem : sets ≡ sets_around t.parents

-- the run stands at a block, has a count for each loop, and has room for the visits and the cost of the longest walk
pub record Standing (t : Routine) (counts : List ℕ) (r : Run) : Type 0 where
  pub sized : length counts ≡ most_loops
  pub at_block : r.at < block_count t
  pub few : (l : ℕ) → (state_of t counts r).count l ≤ longest_walk
  pub room : r.cost ≤ 1000000 * longest_walk

-- ---- the columns that a step does not read

pub record Unread : Type 0 where
  pub figures : List ℤ
  pub parents : List ℕ
  pub limits : List ℕ
  pub multipliers : List ℕ

-- the routine of the columns that a step reads, whatever the others are
abbrev pub step_columns : Tables → Unread → Routine
step_columns c x = routine c.cost.now c.loops.now c.first.now c.second.now x.figures x.parents c.header.now x.limits x.multipliers

-- what a step requires: there are such columns
pub record Stands (t : Unread → Routine) (sets counts : List ℕ) (r : Run) : Type 0 where
  pub unread : Unread
  pub walkable : Walkable (t unread) sets
  pub standing : Standing (t unread) counts r

-- the answer s to block v at index i is the step of the definition, and the count of the loop that the step ends in is the visits, if there are any
pub record Stepped (t : Routine) (counts : List ℕ) (r : Run) (i v : ℕ) (s : Result Run RunFault) (counts' : List ℕ) : Type 0 where
  pub counts_are : counts' ≡ counts_after counts (loop_of t v) (visits_of s)
  pub is_step : outcome t counts' s ≡ stepped t (state_of t counts r) r.cost i v

-- what a step ensures: that, with any such columns
pub record Steps (t : Unread → Routine) (sets counts : List ℕ) (r : Run) (i v : ℕ) (s : Result Run RunFault) (counts' : List ℕ) : Type 0 where
  pub counts_are : (x : Unread) → counts' ≡ counts_after counts (loop_of (t x) v) (visits_of s)
  pub is_step : (x : Unread) → Walkable (t x) sets → Standing (t x) counts r → Stepped (t x) counts r i v s counts'
