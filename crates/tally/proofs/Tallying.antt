-- What one step makes of the tallies, and the loop over the blocks of a recording: before each index the tallies are those of the blocks so far, and the
-- blocks that are left give the whole recording's reply. Assumes nothing.
use Rattle.std.proofs.Common.{◌≡◌, refl, sym, ◌∙◌, ap, ap₂, Bool, true, false, not, ◌&&◌, List, [], ◌∷◌, ◌++◌, ℕ, zero, suc, ◌+◌, ◌-◌, ◌≤◌, ◌<◌, max, add-one, arith, eqb, eqb-true, eq-eqb, ne_eqb, length, get_or, take, drop, replicate, drop_of_length-le, drop-cons, take-suc, take_all, get_or-set_same, get_or-set_other, length-set, length-take-le, Result, Ok, Err}
use native.Mathlib.Decide.{ℕ_discrete}
use lib.Dec.{eqb-suc-zero, eqb-zero-suc}
use borrow.Author.Tests.{eqb-false}
use Rattle.limits.specs.Limits.{most_loops, longest_walk}
use Rattle.lists.specs.Search.{when◌then◌else◌}
use Rattle.wcet.specs.Table.{Routine, block_count, loop_count, exit, cost, loop_of, header, edge, inside}
use Rattle.wcet.specs.Rules.{Reply, accepted, refused}
use Rattle.wcet.specs.Run.{State, start, leaves, next_count, next, after}
use Rattle.wcet.specs.Stays.{stay_visits}
use Rattle.wcet.specs.Tally.{stays, greatest, recording_from, recording_blocks}
use Rattle.wcet.proofs.Potential.{inside_own}
use Rattle.wcet.proofs.Entry.{inside_0}
use Rattle.wcet.proofs.Around.{header_of, enters_one}
use Rattle.wcet.proofs.Counts.{step_visits, counts_exactly}
use Rattle.wcet.proofs.Tallies.{stays_first, stays_snoc, stays_most, greatest_first, greatest_snoc, last_most}
use Rattle.stepping.specs.declared.Run.{Run}
use Rattle.stepping.specs.declared.RunFault.{RunFault}
use Rattle.stepping.specs.declared.RunFault.TheVariants.{Unfinished}
use Rattle.stepping.specs.Step.{run_refusal, first_numbers, first_run, header_visits, state_of, outcome, entry_answer, end_answer, Walkable, Stepped}
use Rattle.stepping.proofs.Counts.{nesting}
use Rattle.stepping.proofs.Along.{decided, starts, Along, Moves, started, along_first, along_next, moved, step_decides}
use Rattle.stepping.proofs.Openings.{opened}
use Rattle.tallies.specs.declared.LoopTally.{LoopTally}
use Rattle.tallies.specs.Tally.{unseen, seen_after, first_tallies, tally_of, noted, TallyFits}
use Rattle.tally.specs.Tally.{reply_to_recording, SeenIn}

-- ---- one step

module _ (t : Routine) (sets : List ℕ) (S : Walkable t sets) (u v : ℕ) (block : u < block_count t) (there : edge t u v ≡ true)
    (c : ℕ → ℕ) (positive : (l : ℕ) → l < loop_count t → inside t u l ≡ true → 1 ≤ c l) where
  -- the visits that the step ends with
  abbrev k : ℕ
  k = header_visits (c (loop_of t v)) (eqb (header t (loop_of t v)) v) (inside t u (loop_of t v))

  own : loop_of t v < loop_count t
  own = (nesting t sets S).innermost v ((nesting t sets S).target u v block there)

  -- v is the header of a loop that it enters
  entered : (l : ℕ) → l < loop_count t → inside t v l ≡ true → inside t u l ≡ false → header t l ≡ v
  entered l b iv iu = (nesting t sets S).at_header u v l block there b iv iu

  -- a stay begins exactly where the visits are 1
  begins : (l : ℕ) → l < loop_count t → ◌≡◌ {A = ℕ} (when inside t v l && not (inside t u l) then 1 else 0) (when eqb l (loop_of t v) then (when eqb k 1 then 1 else 0) else 0)
  begins l b = at (ℕ_discrete l (loop_of t v))
    where
      go : (h : Bool) → eqb (header t (loop_of t v)) v ≡ h → (i : Bool) → inside t u (loop_of t v) ≡ i
          → ◌≡◌ {A = ℕ} (when true && not i then 1 else 0) (when eqb (header_visits (c (loop_of t v)) h i) 1 then 1 else 0)
      go true p true q = rw (ne_eqb (c (loop_of t v) + 1) 1 (λ e. omega (arith, positive (loop_of t v) own q)))
      go true p false q = refl
      go false p true q = refl
      go false p false q = absurd (eqb-false (header t (loop_of t v)) v p (entered (loop_of t v) own (inside_own t v) q))

      other : (ne : l ≡ loop_of t v → ⊥) (a : Bool) → inside t v l ≡ a → (i : Bool) → inside t u l ≡ i → ◌≡◌ {A = ℕ} (when a && not i then 1 else 0) 0
      other ne true p true q = refl
      other ne true p false q = absurd (ne (enters_one t (nesting t sets S) u v l block there b p q))
      other ne false p i q = refl

      at : Dec (l ≡ loop_of t v) → ◌≡◌ {A = ℕ} (when inside t v l && not (inside t u l) then 1 else 0) (when eqb l (loop_of t v) then (when eqb k 1 then 1 else 0) else 0)
      at (yes e) = rw (e, eq-eqb (loop_of t v) (loop_of t v) refl, inside_own t v) (go (eqb (header t (loop_of t v)) v) refl (inside t u (loop_of t v)) refl)
      at (no ne) = rw (ne_eqb l (loop_of t v) ne) (other ne (inside t v l) refl (inside t u l) refl)

  -- the greatest number so far, g, changes only where the header is visited
  highest : (l g : ℕ) → l < loop_count t → c l ≤ g → max g (next_count t u v l (c l)) ≡ (when eqb l (loop_of t v) then max g k else g)
  unfolding next_count
  highest l g b most = at (ℕ_discrete l (loop_of t v))
    where
      go : (h i : Bool) → c (loop_of t v) ≤ g → max g (when i && false then 0 else when not h then c (loop_of t v) else when i then c (loop_of t v) + 1 else 1) ≡ max g (header_visits (c (loop_of t v)) h i)
      go true true m = refl
      go true false m = refl
      go false true m = omega arith
      go false false m = omega arith

      other : (x : Bool) → max g (when x then 0 else c l) ≡ g
      other true = omega arith
      other false = omega arith

      at : Dec (l ≡ loop_of t v) → max g (when leaves t u v l then 0 else when not (eqb (header t l) v) then c l else when inside t u l then c l + 1 else 1) ≡ (when eqb l (loop_of t v) then max g k else g)
      at (yes e) = rw (e, eq-eqb (loop_of t v) (loop_of t v) refl, inside_own t v) (go (eqb (header t (loop_of t v)) v) (inside t u (loop_of t v)) (rw e at most))
      at (no ne) = rw (ne_eqb l (loop_of t v) ne, ne_eqb (header t l) v (λ e. ne (header_of t (nesting t sets S) l v b e))) (other (leaves t u v l))

  -- a loop around the block stands at 1 or more
  next_positive : (l : ℕ) → l < loop_count t → inside t v l ≡ true → 1 ≤ next_count t u v l (c l)
  unfolding next_count
  next_positive l b iv = rw iv (go (inside t u l) refl (eqb (header t l) v) refl)
    where
      go : (i : Bool) → inside t u l ≡ i → (h : Bool) → eqb (header t l) v ≡ h → 1 ≤ (when i && false then 0 else when not h then c l else when i then c l + 1 else 1)
      go true p true q = omega arith
      go true p false q = positive l b p
      go false p true q = omega arith
      go false p false q = absurd (eqb-false (header t l) v q (entered l b iv p))

-- ---- the loop

-- the tallies at the first block
unseen_after : (n l : ℕ) → get_or (replicate n unseen) l unseen ≡ unseen
unseen_after zero l = refl
unseen_after (suc n) zero = refl
unseen_after (suc n) (suc l) = unseen_after n l

first_tally : (l : ℕ) → tally_of first_tallies l ≡ record { stays = when eqb l 0 then 1 else 0; greatest = when eqb l 0 then 1 else 0 }
first_tally zero = refl
first_tally (suc l) = unseen_after (most_loops - 1) l ∙ rw (eqb-suc-zero l)

-- The run stands before index i of the recording w, with these tallies.
pub record Tallying (t : Routine) (w counts : List ℕ) (r : Run) (i : ℕ) (tallies : List LoopTally) : Type 0 where
  pub along : Along t w counts r i
  pub sized : length tallies ≡ most_loops
  pub front : List ℕ
  pub ends : take i w ≡ front ++ r.at ∷ []
  pub counted : (l : ℕ) → l < loop_count t → (state_of t counts r).count l ≡ stay_visits t l (take i w)
  pub positive : (l : ℕ) → l < loop_count t → inside t r.at l ≡ true → 1 ≤ (state_of t counts r).count l
  pub tallied : SeenIn t (take i w) tallies
  pub same : reply_to_recording t w ≡ recording_from t r.at i (drop i w) (accepted (length w - 1))

module _ (t : Routine) (sets : List ℕ) (S : Walkable t sets) (w : List ℕ) where
  -- ---- the first block

  module _ (a : Result Unit RunFault) (found : a ≡ entry_answer (block_count t) w) where
    entered_by : reply_to_recording t w ≡ decided a (recording_from t 0 1 (drop 1 w) (accepted (length w - 1)))
    unfolding recording_blocks
    entered_by =
        let rest : Reply ℕ = recording_from t 0 1 (drop 1 w) (accepted (length w - 1)) in
        opened (block_count t) w (λ x. recording_blocks t x (accepted (length w - 1))) rest refl ∙ ap (λ (x : Result Unit RunFault). decided x rest) (sym found)

    pub not_entered : (f : RunFault) → a ≡ Err f → run_refusal f ≡ reply_to_recording t w
    not_entered f e = sym (rw e at entered_by)

    pub tallying_first : (u : Unit {0}) → a ≡ Ok u → (counts : List ℕ) → counts ≡ first_numbers → (tallies : List LoopTally) → tallies ≡ first_tallies
        → (r : Run) → r ≡ first_run (cost t 0) → Tallying t w counts r 1 tallies
    unfolding start after
    tallying_first u q counts numbers tallies begun r first = record {
      along = along_first t sets S w counts r p.0 p.2 numbers first;
      sized = ap (λ (xs : List LoopTally). length xs) begun;
      front = [];
      ends = rw at_0 one;
      counted = λ l b. rw (ap (λ (s : State). s.count l) e, one) (starting l b);
      positive = λ l b i. rw (ap (λ (s : State). s.count l) e, eq-eqb l 0 (zero_of l (rw at_0 at i))) (omega arith);
      tallied = rw (one, begun) (record {
        stays_are = λ l b. ap (λ (x : LoopTally). x.stays) (first_tally l) ∙ sym (stays_first t l 0 ∙ rw (inside_0 t (nesting t sets S) l) (flip l));
        greatest_are = λ l b. ap (λ (x : LoopTally). x.greatest) (first_tally l) ∙ starting l b ∙ sym (greatest_first t l 0);
      });
      same = rw at_0 (rw q at entered_by);
    }
      where
        p : (0 < length w) × (length w ≤ longest_walk) × (get_or w 0 0 ≡ 0)
        p = starts (block_count t) w a found u q

        e : state_of t counts r ≡ start
        e = started t sets S w counts r numbers first

        at_0 : r.at ≡ 0
        at_0 = ap (λ (x : Run). x.at) first

        one : take 1 w ≡ 0 ∷ []
        one = take-suc w 0 0 p.0 ∙ ap (λ (x : ℕ). x ∷ []) p.2

        starting : (l : ℕ) → l < loop_count t → ◌≡◌ {A = ℕ} (when eqb l 0 then 1 else 0) (stay_visits t l (0 ∷ []))
        starting l b = (counts_exactly t S.rules).stepped [] l b

        zero_of : (l : ℕ) → inside t 0 l ≡ true → l ≡ 0
        zero_of l i = sym (eqb-true 0 l (sym (inside_0 t (nesting t sets S) l) ∙ i))

        flip : (l : ℕ) → ◌≡◌ {A = ℕ} (when eqb 0 l then 1 else 0) (when eqb l 0 then 1 else 0)
        flip zero = refl
        flip (suc l) = rw (eqb-zero-suc l, eqb-suc-zero l)

  module _ (counts : List ℕ) (r : Run) (i : ℕ) (tallies : List LoopTally) (T : Tallying t w counts r i tallies) where
    -- ---- the end

    ended : length w ≤ i → reply_to_recording t w ≡ decided (end_answer r (block_count t) (length w)) (accepted (length w - 1))
    unfolding recording_from end_answer
    ended h = T.same ∙ rw (drop_of_length-le w h, all) (go (eqb r.at (exit t)))
      where
        all : i ≡ length w
        all = omega (arith, T.along.in_walk)

        go : (b : Bool) → (when b then accepted (length w - 1) else refused 314 (length w))
            ≡ decided (when not b then Err (Unfinished (length w)) else Ok (tt {0})) (accepted (length w - 1))
        go true = refl
        go false = refl

    module _ (h : length w ≤ i) (a : Result Unit RunFault) (found : a ≡ end_answer r (block_count t) (length w)) where
      pub end_refused : (f : RunFault) → a ≡ Err f → run_refusal f ≡ reply_to_recording t w
      end_refused f e = let d = ended h in rw (← found, e) at (sym d)

      pub end_accepted : (u : Unit {0}) → a ≡ Ok u → (accepted (length w - 1) ≡ reply_to_recording t w) × SeenIn t w tallies
      end_accepted u e = let d = ended h in (rw (← found, e) at (sym d), rw (take_all i w h) at T.tallied)

    -- ---- a step

    module _ (h : i < length w) (counts' : List ℕ) (a : Result Run RunFault) (P : Stepped t counts r i (get_or w i 0) a counts') where
      abbrev rest : Reply ℕ
      rest = recording_from t (get_or w i 0) (suc i) (drop (suc i) w) (accepted (length w - 1))

      stops : reply_to_recording t w ≡ decided a rest
      unfolding recording_from
      stops =
          T.same
          ∙ ap (λ (x : List ℕ). recording_from t r.at i x (accepted (length w - 1))) (drop-cons w i 0 h)
          ∙ step_decides t (state_of t counts r) r.cost i (get_or w i 0) rest
          ∙ ap (λ x. decided x rest) (sym P.is_step)
          ∙ go a
        where
          go : (x : Result Run RunFault) → decided (outcome t counts' x) rest ≡ decided x rest
          go (Ok s) = refl
          go (Err f) = refl

      pub stopped : (f : RunFault) → a ≡ Err f → run_refusal f ≡ reply_to_recording t w
      stopped f e = sym (rw e at stops)

      module _ (s : Run) (on : a ≡ Ok s) where
        M : Moves t (state_of t counts r) r.cost (get_or w i 0) (record { state = state_of t counts' s; spent = s.cost; visits = s.visits })
        M = moved t sets S w counts r i T.along h counts' a P s on

        abbrev v : ℕ
        v = get_or w i 0

        abbrev l : ℕ
        l = loop_of t v

        room : l < loop_count t
        room = (nesting t sets S).innermost v M.block

        -- there is room for one stay more in the loop that the step ends in
        pub fits : length w ≤ longest_walk → (v < length t.loops) × TallyFits tallies l
        fits short = (
          omega (arith, S.ranged.sized.loops, M.block),
          record { sized = T.sized; is_loop = omega (arith, room, S.ranged.sized.few_loops); few = omega (arith, T.tallied.stays_are l room, stays_most t l (take i w), length-take-le i w T.along.in_walk) },
        )

        pub tallying_next : Tallying t w counts' s (i + 1) (noted tallies l s.visits)
        unfolding next
        tallying_next = record {
          along = along_next t sets S w counts r i T.along h counts' a P s on;
          sized = length-set tallies l (seen_after (tally_of tallies l) s.visits) ∙ T.sized;
          front = T.front ++ r.at ∷ [];
          ends = rw (at_v, add-one i) more;
          counted = λ j b. rw (ap (λ (x : State). x.count j) M.state, add-one i, more) (ap (next_count t r.at v j) (count j b) ∙ step_visits t (nesting t sets S) j b T.front r.at v);
          positive = λ j b e. rw (ap (λ (x : State). x.count j) M.state) (next_positive t sets S r.at v T.along.at_block M.there (state_of t counts r).count T.positive j b (rw at_v at e));
          tallied = rw (add-one i, more) (record { stays_are = λ j b. stayed_next j b (ℕ_discrete j l); greatest_are = λ j b. visited_next j b (ℕ_discrete j l) });
          same = rw (at_v, add-one i) (rw on at stops);
        }
          where
            at_v : s.at ≡ v
            at_v = ap (λ (x : State). x.block) M.state

            more : take (suc i) w ≡ (T.front ++ r.at ∷ []) ++ v ∷ []
            more = take-suc w i 0 h ∙ ap (λ (x : List ℕ). x ++ v ∷ []) T.ends

            count : (j : ℕ) → j < loop_count t → (state_of t counts r).count j ≡ stay_visits t j (T.front ++ r.at ∷ [])
            count j b = rw T.ends at (T.counted j b)

            stays_old : (j : ℕ) → j < loop_count t → (tally_of tallies j).stays ≡ stays t j (T.front ++ r.at ∷ [])
            stays_old j b = T.tallied.stays_are j b ∙ ap (stays t j) T.ends

            greatest_old : (j : ℕ) → j < loop_count t → (tally_of tallies j).greatest ≡ greatest t j (T.front ++ r.at ∷ [])
            greatest_old j b = T.tallied.greatest_are j b ∙ ap (greatest t j) T.ends

            stays_new : (j : ℕ) → j < loop_count t
                → stays t j ((T.front ++ r.at ∷ []) ++ v ∷ []) ≡ (tally_of tallies j).stays + (when eqb j (loop_of t v) then (when eqb s.visits 1 then 1 else 0) else 0)
            stays_new j b =
                stays_snoc t j T.front r.at v
                ∙ ap₂ (λ (x y : ℕ). x + y) (sym (stays_old j b))
                (begins t sets S r.at v T.along.at_block M.there (state_of t counts r).count T.positive j b ∙ ap (λ (n : ℕ). when eqb j (loop_of t v) then (when eqb n 1 then 1 else 0) else 0) (sym M.visits))

            greatest_new : (j : ℕ) → j < loop_count t
                → greatest t j ((T.front ++ r.at ∷ []) ++ v ∷ []) ≡ (when eqb j (loop_of t v) then max (tally_of tallies j).greatest s.visits else (tally_of tallies j).greatest)
            greatest_new j b =
                greatest_snoc t j (T.front ++ r.at ∷ []) v
                ∙ ap₂ max (sym (greatest_old j b)) (sym (ap (next_count t r.at v j) (count j b) ∙ step_visits t (nesting t sets S) j b T.front r.at v))
                ∙ highest t sets S r.at v T.along.at_block M.there (state_of t counts r).count T.positive j (tally_of tallies j).greatest b (omega (arith, count j b, last_most t j T.front r.at, greatest_old j b))
                ∙ ap (λ (n : ℕ). when eqb j (loop_of t v) then max (tally_of tallies j).greatest n else (tally_of tallies j).greatest) (sym M.visits)

            own_next : tally_of (noted tallies l s.visits) l ≡ seen_after (tally_of tallies l) s.visits
            own_next = get_or-set_same tallies l (seen_after (tally_of tallies l) s.visits) unseen (omega (arith, room, S.ranged.sized.few_loops, T.sized))

            other_next : (j : ℕ) → (j ≡ l → ⊥) → tally_of (noted tallies l s.visits) j ≡ tally_of tallies j
            other_next j ne = get_or-set_other tallies l j (seen_after (tally_of tallies l) s.visits) unseen ne

            stayed_next : (j : ℕ) → j < loop_count t → Dec (j ≡ l) → (tally_of (noted tallies l s.visits) j).stays ≡ stays t j ((T.front ++ r.at ∷ []) ++ v ∷ [])
            stayed_next j b (yes e) = rw e (ap (λ (x : LoopTally). x.stays) own_next ∙ sym (stays_new l room ∙ rw (eq-eqb l l refl)))
            stayed_next j b (no ne) = ap (λ (x : LoopTally). x.stays) (other_next j ne) ∙ sym (stays_new j b ∙ rw (ne_eqb j l ne) (omega arith))

            visited_next : (j : ℕ) → j < loop_count t → Dec (j ≡ l) → (tally_of (noted tallies l s.visits) j).greatest ≡ greatest t j ((T.front ++ r.at ∷ []) ++ v ∷ [])
            visited_next j b (yes e) = rw e (ap (λ (x : LoopTally). x.greatest) own_next ∙ sym (greatest_new l room ∙ rw (eq-eqb l l refl)))
            visited_next j b (no ne) = ap (λ (x : LoopTally). x.greatest) (other_next j ne) ∙ sym (greatest_new j b ∙ rw (ne_eqb j l ne))
