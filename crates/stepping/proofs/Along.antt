-- A run along a walk: where it stands before index i, and what a step that goes on makes of it. Assumes nothing.
use Rattle.std.proofs.Common.{◌≡◌, refl, sym, ◌∙◌, ap, Bool, true, false, not, List, ℕ, suc, ◌+◌, ◌*◌, ◌≤◌, ◌<◌, add-one, arith, eqb, ltb, eqb-true, ltb-true, ltb-false, length, get_or, drop, set, length-set, drop-cons, Result, Ok, Err}
use Rattle.lists.specs.Search.{when◌then◌else◌}
use Rattle.lists.proofs.Tests.{or_false}
use Rattle.wcet.specs.Table.{Routine, block_count, exit, cost, loop_of, header, edge, inside}
use Rattle.wcet.specs.Rules.{Reply, refused, out_of_range}
use Rattle.wcet.specs.Run.{State, start, leaves, next_count, next, run_cost}
use Rattle.limits.specs.Limits.{most_loops, longest_walk}
use Rattle.nesting.specs.Answers.{StructureChecked}
use Rattle.nesting.proofs.Stages.{headed}
use Rattle.nesting.proofs.Chain.{sound_holds, sound_sets}
use Rattle.nesting.specs.Columns.{routine_of}
use Rattle.nesting.specs.declared.Tables.{Tables}
use Rattle.stepping.specs.declared.Run.{Run}
use Rattle.stepping.specs.declared.RunFault.{RunFault}
use Rattle.stepping.specs.declared.RunFault.TheVariants.{Length, NoBlock, NotEntry, AfterExit, NoEdge}
use Rattle.stepping.proofs.Counts.{start_is}
use Rattle.stepping.specs.Step.{run_refusal, first_numbers, first_run, visits_of, state_of, visits_to, Outcome, stepped, entry_answer, Walkable, Standing, Unread, step_columns, Stepped, Steps}

-- what a walk is given by the structure check
pub sound_walkable : (t : Routine) (sets : List ℕ) → StructureChecked t (Ok sets) → Walkable t sets
sound_walkable t sets checked = let rules = sound_holds t sets checked in record { rules = rules; ranged = (headed t rules).ranged; sets_around_lem = sound_sets t sets checked }

-- what an answer of the code makes of the reply: the rest is asked where it refuses nothing
abbrev pub decided : {X A : Type 0} → Result X RunFault → Reply A → Reply A
decided (Ok x) rest = rest
decided (Err f) rest = run_refusal f

-- ---- the first block

-- 301 does not apply
pub in_length : (w : List ℕ) → out_of_range 1 longest_walk (length w) ≡ false → (1 ≤ length w) × (length w ≤ longest_walk)
in_length w e = let q = or_false (ltb (length w) 1) (ltb longest_walk (length w)) e in (ltb-false (length w) 1 q.0, ltb-false longest_walk (length w) q.1)

-- the list starts at block 0
pub starts : (n : ℕ) (w : List ℕ) (a : Result Unit RunFault) → a ≡ entry_answer n w → (u : Unit {0}) → a ≡ Ok u → (0 < length w) × (length w ≤ longest_walk) × (get_or w 0 0 ≡ 0)
unfolding entry_answer
starts n w a found u entered = go (out_of_range 1 longest_walk (length w)) refl (ltb (get_or w 0 0) n) (eqb (get_or w 0 0) 0) refl (sym found ∙ entered)
  where
    go : (x : Bool) → out_of_range 1 longest_walk (length w) ≡ x → (b d : Bool) → eqb (get_or w 0 0) 0 ≡ d
        → (when x then Err Length else when not b then Err (NoBlock 0) else when not d then Err NotEntry else Ok (tt {0})) ≡ Ok u
        → (0 < length w) × (length w ≤ longest_walk) × (get_or w 0 0 ≡ 0)
    go false p true true q e = ((in_length w p).0, (in_length w p).1, eqb-true (get_or w 0 0) 0 q)
    go true p b d q e = cc
    go false p false d q e = cc
    go false p true false q e = cc

-- ---- one step

-- 302, 311 and 312 as the step answers them
pub step_decides : {A : Type 0} (t : Routine) (s : State) (c i v : ℕ) (rest : Reply A)
    → (when not (ltb v (block_count t)) then refused 302 i else when eqb s.block (exit t) then refused 311 i else when not (edge t s.block v) then refused 312 i else rest)
    ≡ decided (stepped t s c i v) rest
unfolding stepped
step_decides t s c i v rest = go (not (ltb v (block_count t))) (eqb s.block (exit t)) (not (edge t s.block v))
  where
    on : Outcome
    on = record { state = next t s v; spent = c + cost t v; visits = visits_to t s v }

    go : (a b d : Bool) → (when a then refused 302 i else when b then refused 311 i else when d then refused 312 i else rest)
        ≡ decided (when a then Err (NoBlock i) else when b then Err (AfterExit i) else when d then Err (NoEdge i) else Ok on) rest
    go true b d = refl
    go false true d = refl
    go false false true = refl
    go false false false = refl

-- what a step along an edge has passed, and where it leads
pub record Moves (t : Routine) (s : State) (c v : ℕ) (o : Outcome) : Type 0 where
  pub block : v < block_count t
  pub there : edge t s.block v ≡ true
  pub state : o.state ≡ next t s v
  pub spent : o.spent ≡ c + cost t v
  pub visits : o.visits ≡ visits_to t s v

moves : (t : Routine) (s : State) (c i v : ℕ) (o : Outcome) → Ok o ≡ stepped t s c i v → Moves t s c v o
unfolding stepped
moves t s c i v o e = go (ltb v (block_count t)) refl (eqb s.block (exit t)) (edge t s.block v) refl e
  where
    go : (a : Bool) → ltb v (block_count t) ≡ a → (b d : Bool) → edge t s.block v ≡ d
        → Ok o ≡ (when not a then Err (NoBlock i) else when b then Err (AfterExit i) else when not d then Err (NoEdge i) else Ok (record { state = next t s v; spent = c + cost t v; visits = visits_to t s v }))
        → Moves t s c v o
    go true p false true q e =
        let same : o ≡ record { state = next t s v; spent = c + cost t v; visits = visits_to t s v } = cc in
        record {
          block = ltb-true v (block_count t) p;
          there = q;
          state = ap (λ (x : Outcome). x.state) same;
          spent = ap (λ (x : Outcome). x.spent) same;
          visits = ap (λ (x : Outcome). x.visits) same;
        }
    go false p b d q e = cc
    go true p true d q e = cc
    go true p false false q e = cc

-- a step adds one visit at most
next_most : (t : Routine) (u v l c : ℕ) → next_count t u v l c ≤ c + 1
unfolding next_count
next_most t u v l c = go (leaves t u v l) (not (eqb (header t l) v)) (inside t u l)
  where
    go : (a b d : Bool) → (when a then 0 else when b then c else when d then c + 1 else 1) ≤ c + 1
    go true b d = omega arith
    go false true d = omega arith
    go false false true = omega arith
    go false false false = omega arith

-- ---- the walk

spent_next : (t : Routine) (w : List ℕ) (i : ℕ) → i < length w → run_cost t (drop i w) ≡ cost t (get_or w i 0) + run_cost t (drop (suc i) w)
unfolding run_cost
spent_next t w i h = ap (run_cost t) (drop-cons w i 0 h)

-- The run r stands before index i of the walk w.
pub record Along (t : Routine) (w counts : List ℕ) (r : Run) (i : ℕ) : Type 0 where
  pub sized : length counts ≡ most_loops
  pub some : 0 < i
  pub in_walk : i ≤ length w
  pub at_block : r.at < block_count t
  pub few : (l : ℕ) → (state_of t counts r).count l ≤ i
  pub room : r.cost ≤ i * 1000000
  pub spent : r.cost + run_cost t (drop i w) ≡ run_cost t w

pub standing : {t : Routine} {w counts : List ℕ} {r : Run} {i : ℕ} → Along t w counts r i → i ≤ longest_walk → Standing t counts r
standing A h = record { sized = A.sized; at_block = A.at_block; few = λ l. omega (arith, A.few l); room = omega (arith, A.room) }

-- the tables' own columns that a step does not read
abbrev pub unread_of : Tables → Unread
unread_of c = record { figures = c.figure.now; parents = c.parent.now; limits = c.limit.now; multipliers = c.multiplier.now }

-- the step with them
pub own_step : (c : Tables) (sets : List ℕ) → Walkable (routine_of c) sets → (w counts : List ℕ) (r : Run) (i : ℕ) → Along (routine_of c) w counts r i → i < length w → length w ≤ longest_walk
    → {v : ℕ} {s : Result Run RunFault} {counts' : List ℕ} → Steps (step_columns c) sets counts r i v s counts' → Stepped (routine_of c) counts r i v s counts'
own_step c sets W w counts r i A h k P = P.is_step (unread_of c) W (standing A (omega arith))

module _ (t : Routine) (sets : List ℕ) (S : Walkable t sets) (w : List ℕ) where
  -- the first block
  pub started : (counts : List ℕ) (r : Run) → counts ≡ first_numbers → r ≡ first_run (cost t 0) → state_of t counts r ≡ start
  started counts r e f = rw e (start_is t S.rules r (ap (λ (x : Run). x.at) f))

  pub along_first : (counts : List ℕ) (r : Run) → (0 < length w) → (get_or w 0 0 ≡ 0) → counts ≡ first_numbers → r ≡ first_run (cost t 0) → Along t w counts r 1
  unfolding start
  along_first counts r some first e f = record {
    sized = ap (λ (xs : List ℕ). length xs) e;
    some = omega arith;
    in_walk = some;
    at_block = omega (arith, S.ranged.sized.some_block, ap (λ (x : Run). x.at) f);
    few = λ l. rw (ap (λ (s : State). s.count l) (started counts r e f)) (one (eqb l 0));
    room = omega (arith, S.ranged.cost_most 0 (omega (arith, S.ranged.sized.some_block)), ap (λ (x : Run). x.cost) f);
    spent = rw (ap (λ (x : Run). x.cost) f, ap (cost t) (sym first)) (sym (spent_next t w 0 some));
  }
    where
      one : (b : Bool) → (when b then 1 else 0) ≤ 1
      one true = omega arith
      one false = omega arith

  module _ (counts : List ℕ) (r : Run) (i : ℕ) (A : Along t w counts r i) (h : i < length w)
      (counts' : List ℕ) (a : Result Run RunFault) (P : Stepped t counts r i (get_or w i 0) a counts') (s : Run) (on : a ≡ Ok s) where
    pub moved : Moves t (state_of t counts r) r.cost (get_or w i 0) (record { state = state_of t counts' s; spent = s.cost; visits = s.visits })
    moved = moves t (state_of t counts r) r.cost i (get_or w i 0) _ (rw on at P.is_step)

    -- there are as many counts after a step as before
    still_sized : length counts' ≡ most_loops
    still_sized = ap (λ (xs : List ℕ). length xs) P.counts_are ∙ go (eqb (visits_of a) 0)
      where
        go : (b : Bool) → length (when b then counts else set counts (loop_of t (get_or w i 0)) (visits_of a)) ≡ most_loops
        go true = A.sized
        go false = length-set counts (loop_of t (get_or w i 0)) (visits_of a) ∙ A.sized

    pub along_next : Along t w counts' s (i + 1)
    unfolding next
    along_next = record {
      sized = still_sized;
      some = omega arith;
      in_walk = omega arith;
      at_block = omega (arith, moved.block, ap (λ (x : State). x.block) moved.state);
      few = λ l. omega (arith, ap (λ (x : State). x.count l) moved.state, next_most t r.at (get_or w i 0) l ((state_of t counts r).count l), A.few l);
      room = omega (arith, A.room, moved.spent, S.ranged.cost_most (get_or w i 0) moved.block);
      spent = rw add-one (omega (arith, A.spent, moved.spent, spent_next t w i h));
    }
