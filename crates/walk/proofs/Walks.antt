-- The loop over the blocks of a walk: from each index on, the blocks that are left give the whole walk's reply. Assumes nothing.
use Rattle.std.proofs.Common.{◌≡◌, refl, sym, ◌∙◌, ap, Bool, true, false, not, ◌&&◌, List, ℕ, suc, ◌+◌, ◌-◌, ◌≤◌, ◌<◌, add-one, arith, eqb, ltb, le-ltb, length, get_or, drop, drop_of_length-le, drop-cons, Result, Ok, Err}
use mathlib.Core.Bool.{and-false}
use Rattle.lists.specs.Search.{when◌then◌else◌}
use Rattle.wcet.specs.Table.{Routine, block_count, loop_count, exit, cost, loop_of, limit, edge, inside, is_header}
use Rattle.wcet.specs.Rules.{Reply, accepted, refused}
use Rattle.wcet.specs.Run.{State, start, next_count, next, passes_limit, run_cost}
use Rattle.wcet.specs.Walk.{Walked, walked, walk_from, walk_blocks}
use Rattle.wcet.proofs.Potential.{inside_own}
use Rattle.wcet.proofs.Limits.{limits_kept}
use Rattle.wcet.proofs.Steps.{limit_at_header}
use Rattle.wcet.proofs.Walks.{start_kept}
use Rattle.stepping.specs.declared.Run.{Run}
use Rattle.stepping.specs.declared.RunFault.{RunFault}
use Rattle.stepping.specs.declared.RunFault.TheVariants.{Unfinished}
use Rattle.stepping.specs.Step.{run_refusal, first_numbers, first_run, header_visits, state_of, visits_to, outcome, entry_answer, end_answer, Walkable, Stepped}
use Rattle.stepping.proofs.Counts.{nesting}
use Rattle.stepping.proofs.Along.{decided, starts, Along, Moves, started, along_first, along_next, moved, step_decides}
use Rattle.stepping.proofs.Openings.{opened}
use Rattle.walk.specs.Reply.{reply_to_walk}

-- 313 is asked only of the loop that the step ends in, and only where its header is visited
limit_next : (t : Routine) (sets : List ℕ) → Walkable t sets → (s : State) (v : ℕ) → s.block < block_count t → edge t s.block v ≡ true → passes_limit t s ≡ false
    → passes_limit t (next t s v) ≡ ltb (limit t (loop_of t v)) (visits_to t s v)
unfolding next next_count
limit_next t sets S s v block there kept =
    limit_at_header t (nesting t sets S) s v block (limits_kept t s kept) there
    ∙ rw (inside_own t v, and-false (inside t s.block (loop_of t v))) (go (is_header t v) (inside t s.block (loop_of t v)))
  where
    most : ℕ
    most = limit t (loop_of t v)

    c : ℕ
    c = s.count (loop_of t v)

    go : (heading inner : Bool) → (heading && ltb most (when not heading then c else when inner then c + 1 else 1)) ≡ ltb most (header_visits c heading inner)
    go true inner = refl
    go false inner = sym (le-ltb most 0 (omega arith))

-- The run stands before index i of the walk w: what is left of w gives the reply of the whole.
pub record Underway (t : Routine) (w counts : List ℕ) (r : Run) (i : ℕ) : Type 0 where
  pub along : Along t w counts r i
  pub within : passes_limit t (state_of t counts r) ≡ false
  pub same : reply_to_walk t w ≡ walk_from t (state_of t counts r) i (drop i w) (accepted (walked t w))

module _ (t : Routine) (sets : List ℕ) (S : Walkable t sets) (w : List ℕ) where
  -- ---- the first block

  module _ (a : Result Unit RunFault) (found : a ≡ entry_answer (block_count t) w) where
    entered : reply_to_walk t w ≡ decided a (walk_from t start 1 (drop 1 w) (accepted (walked t w)))
    unfolding walk_blocks
    entered =
        let rest : Reply Walked = walk_from t start 1 (drop 1 w) (accepted (walked t w)) in
        opened (block_count t) w (λ x. walk_blocks t x (accepted (walked t w))) rest refl ∙ ap (λ (x : Result Unit RunFault). decided x rest) (sym found)

    pub not_entered : (f : RunFault) → a ≡ Err f → run_refusal f ≡ reply_to_walk t w
    not_entered f e = sym (rw e at entered)

    pub underway_first : (u : Unit {0}) → a ≡ Ok u → (counts : List ℕ) → counts ≡ first_numbers → (r : Run) → r ≡ first_run (cost t 0) → Underway t w counts r 1
    underway_first u e counts numbers r first =
        let p = starts (block_count t) w a found u e in
        let begun : state_of t counts r ≡ start = started t sets S w counts r numbers first in
        record { along = along_first t sets S w counts r p.0 p.2 numbers first; within = rw begun (start_kept t (nesting t sets S)); same = rw begun (rw e at entered) }

  module _ (counts : List ℕ) (r : Run) (i : ℕ) (U : Underway t w counts r i) where
    -- ---- the end

    ended : length w ≤ i → reply_to_walk t w ≡ decided (end_answer r (block_count t) (length w)) (accepted (record { total = r.cost; steps = length w - 1 }))
    unfolding walk_from run_cost end_answer
    ended h = U.same ∙ rw (drop_of_length-le w h, all) (go (eqb r.at (exit t)))
      where
        all : i ≡ length w
        all = omega (arith, U.along.in_walk)

        total : run_cost t w ≡ r.cost
        total = omega (arith, U.along.spent, ap (run_cost t) (drop_of_length-le w h))

        go : (b : Bool) → (when b then accepted (walked t w) else refused 314 (length w))
            ≡ decided (when not b then Err (Unfinished (length w)) else Ok (tt {0})) (accepted (record { total = r.cost; steps = length w - 1 }))
        go true = rw total
        go false = refl

    module _ (h : length w ≤ i) (a : Result Unit RunFault) (found : a ≡ end_answer r (block_count t) (length w)) where
      pub end_refused : (f : RunFault) → a ≡ Err f → run_refusal f ≡ reply_to_walk t w
      end_refused f e = let d = ended h in rw (← found, e) at (sym d)

      pub end_accepted : (u : Unit {0}) → a ≡ Ok u → accepted (record { total = r.cost; steps = length w - 1 }) ≡ reply_to_walk t w
      end_accepted u e = let d = ended h in rw (← found, e) at (sym d)

    -- ---- a step

    module _ (h : i < length w) (counts' : List ℕ) (a : Result Run RunFault) (P : Stepped t counts r i (get_or w i 0) a counts') where
      -- the reply after a step that goes on
      abbrev rest : Reply Walked
      rest = when passes_limit t (next t (state_of t counts r) (get_or w i 0)) then refused 313 i else walk_from t (next t (state_of t counts r) (get_or w i 0)) (suc i) (drop (suc i) w) (accepted (walked t w))

      stops : reply_to_walk t w ≡ decided a rest
      unfolding walk_from
      stops =
          U.same
          ∙ ap (λ (x : List ℕ). walk_from t (state_of t counts r) i x (accepted (walked t w))) (drop-cons w i 0 h)
          ∙ step_decides t (state_of t counts r) r.cost i (get_or w i 0) rest
          ∙ ap (λ x. decided x rest) (sym P.is_step)
          ∙ go a
        where
          go : (x : Result Run RunFault) → decided (outcome t counts' x) rest ≡ decided x rest
          go (Ok s) = refl
          go (Err f) = refl

      pub stopped : (f : RunFault) → a ≡ Err f → run_refusal f ≡ reply_to_walk t w
      stopped f e = sym (rw e at stops)

      module _ (s : Run) (on : a ≡ Ok s) where
        M : Moves t (state_of t counts r) r.cost (get_or w i 0) (record { state = state_of t counts' s; spent = s.cost; visits = s.visits })
        M = moved t sets S w counts r i U.along h counts' a P s on

        -- the step leads to a block with a loop and a limit
        pub limited : (get_or w i 0 < length t.loops) × (get_or t.loops (get_or w i 0) 0 < length t.limits)
        limited =
            let l : loop_of t (get_or w i 0) < loop_count t = (nesting t sets S).innermost (get_or w i 0) M.block in
            (omega (arith, S.ranged.sized.loops, M.block), omega (arith, S.ranged.sized.limits))

        module _ (over : Bool) (tested : over ≡ ltb (limit t (loop_of t (get_or w i 0))) s.visits) where
          passes : passes_limit t (next t (state_of t counts r) (get_or w i 0)) ≡ over
          passes =
              limit_next t sets S (state_of t counts r) (get_or w i 0) U.along.at_block M.there U.within
              ∙ ap (ltb (limit t (loop_of t (get_or w i 0)))) (sym M.visits) ∙ sym tested

          pub stopped_over : over ≡ true → refused 313 i ≡ reply_to_walk t w
          stopped_over e = sym (rw on at stops ∙ rw (passes ∙ e))

          pub underway_next : over ≡ false → Underway t w counts' s (i + 1)
          underway_next e = record {
            along = along_next t sets S w counts r i U.along h counts' a P s on;
            within = rw M.state (passes ∙ e);
            same = rw add-one (rw on at stops ∙ rw (passes ∙ e, M.state));
          }
