-- Document 02, §9: an accepted pair of tables stays accepted when it is trimmed, its bound is not greater, and a counted run of the trimmed
-- pair is one of the old, at no lower cost there (`stays_checked`). Assumes nothing.
use mathlib.Core.Path.{◌≡◌, refl, sym, subst, ap, ◌∙◌}
use mathlib.Core.Bool.{Bool, true, false}
use mathlib.Core.List.{List, [], ◌∷◌}
use Prim.Native.Nat.{ℕ, ◌-◌, ◌≤◌, ◌<◌}
use native.Mathlib.Decide.{ℕ_discrete, dec_le}
use native.Mathlib.Omega.{arith}
use lib.IntN.{ℤ, pos, ◌+ℤ◌}
use lib.ListN.{length, get_or-eq_default}
use lib.Signed.{◌≤ℤ◌}
use Rattle.integers.proofs.Laws.{ints, sum, diff}
use Rattle.wcet.specs.Table.{Routine, with_numbers, block_count, loop_count, exit, cost, loop_of, figure, limit, multiplier, some_edge, edge, inside, is_header}
use Rattle.wcet.specs.Rules.{accepted, inequality, edge_holds, structure_rules, undeclared_rule, inequality_rule, table_rules, bound, table_reply}
use Rattle.wcet.specs.Run.{counted_run, run_cost}
use Rattle.wcet.specs.Walk.{Walked, walked, walk_reply}
use Rattle.wcet.specs.Trimming.{Trimmed}
use Rattle.wcet.specs.Claim.{AllHold, FinishedRun, StaysChecked, TrimmedStaysChecked}
use Rattle.wcet.proofs.Replies.{all_append, replies_exactly}
use Rattle.wcet.proofs.Potential.{remaining}
use Rattle.wcet.proofs.Bound.{remaining_mono, Facts, facts, accepted_by_lem}
use Rattle.wcet.proofs.OtherNumbers.{fitting, rules_kept, undeclared_kept, counted_too}
use Rattle.wcet.proofs.Walks.{accepted_walk, walks_exactly}

-- an inequality with a lower cost and a lower limit
inequality_mono : (headed inner : Bool) (c c' : ℕ) (from to : ℤ) (k b b' : ℕ) → c' ≤ c → b' ≤ b
    → inequality headed inner c from to k b ≡ true → inequality headed inner c' from to k b' ≡ true
unfolding inequality
inequality_mono false inner c c' from to k b b' p q e = omega ints
inequality_mono true true c c' from to k b b' p q e = omega ints
inequality_mono true false c c' from to k b b' p q e = omega (ints, sum (pos c) (remaining k b 1), sum (pos c') (remaining k b' 1), remaining_mono k b' b 1 q)

module _ (t : Routine) (cs ls : List ℕ) (T : Trimmed t (with_numbers t cs t.figures ls t.multipliers)) where
  abbrev t' : Routine
  t' = with_numbers t cs t.figures ls t.multipliers

  -- every cost, also after the columns' end
  no_dearer : (u : ℕ) → cost t' u ≤ cost t u
  no_dearer u = go (dec_le (block_count t) u)
    where
      go : Dec (block_count t ≤ u) → cost t' u ≤ cost t u
      go (yes h) = let past : length cs ≤ u = omega (arith, T.cost_count) in rw (get_or-eq_default cs 0 past) (omega arith)
      go (no h) = omega (arith, T.cheaper u (omega arith))

  no_looser : (l : ℕ) → l < loop_count t → limit t' l ≤ limit t l
  no_looser l b = go (ℕ_discrete l 0)
    where
      go : Dec (l ≡ 0) → limit t' l ≤ limit t l
      go (yes z) = rw z (omega (arith, T.loop0_limit))
      go (no ne) = omega (arith, (T.tighter l (omega arith) b).1)

  -- ---- acceptance

  structure : AllHold (structure_rules t) → AllHold (structure_rules t')
  structure h =
      let own = fitting t h in
      rules_kept t h cs t.figures ls t.multipliers (record {
        costs = record { count = T.cost_count; most = λ u b. omega (arith, no_dearer u, own.costs.most u b) };
        figures = own.figures;
        limits = record {
          count = T.limit_count ∙ own.limits.count;
          loop0 = omega (arith, T.loop0_limit, own.limits.loop0);
          range = λ l z b. (omega (arith, (T.tighter l z b).0), omega (arith, (T.tighter l z b).1, (own.limits.range l z b).1));
        };
        multipliers = own.multipliers;
      })

  holds : Facts t → (u v : ℕ) → u < block_count t → edge t u v ≡ true → edge_holds t' u v ≡ true
  unfolding edge_holds inside
  holds F u v b e =
      let l : loop_of t v < loop_count t = F.nesting.innermost v (F.nesting.target u v b e) in
      inequality_mono (is_header t v) (inside t u (loop_of t v)) (cost t v) (cost t' v) (figure t u) (figure t v) (multiplier t (loop_of t v)) (limit t (loop_of t v)) (limit t' (loop_of t v))
      (no_dearer v) (no_looser (loop_of t v) l) (F.holds u v b e)

  lower_bound : bound t' ≤ℤ bound t
  unfolding bound
  lower_bound =
      let x = figure t (exit t) in
      rw T.cost_count (omega (ints, no_dearer 0, sum (pos (cost t' 0)) (figure t 0), sum (pos (cost t 0)) (figure t 0), diff (pos (cost t' 0) +ℤ figure t 0) x, diff (pos (cost t 0) +ℤ figure t 0) x))

  accepts : (b : ℤ) → table_reply t ≡ accepted b → (c : ℤ) × (table_reply t' ≡ accepted c) × (c ≤ℤ b)
  unfolding edge some_edge table_rules
  accepts b e =
      let a : AllHold (table_rules t) × (bound t ≡ b) = ((replies_exactly t).accepts b).0 e in
      let h : AllHold (structure_rules t) × AllHold (undeclared_rule t ∷ inequality_rule t ∷ []) = all_append (structure_rules t) _ a.0 in (
        bound t',
        accepted_by_lem t' (structure h.0) (undeclared_kept t cs t.figures ls t.multipliers T.cost_count (h.1.0 0 (omega arith))) (λ u v b. holds (facts t a.0) u v (omega (arith, T.cost_count))),
        rw (← a.1) lower_bound,
      )

  -- ---- runs and walks

  counted : (w : List ℕ) → counted_run t' w ≡ true → counted_run t w ≡ true
  counted = counted_too t cs t.figures ls t.multipliers no_looser

  cheaper_run : (w : List ℕ) → run_cost t' w ≤ run_cost t w
  unfolding run_cost
  cheaper_run [] = omega arith
  cheaper_run (v ∷ w) = omega (arith, no_dearer v, cheaper_run w)

  walks : AllHold (structure_rules t) → (w : List ℕ) (x : Walked) → walk_reply t' w ≡ accepted x
      → (y : Walked) × (walk_reply t w ≡ accepted y) × (x.total ≤ y.total) × (x.steps ≡ y.steps)
  walks h w x e =
      let a = accepted_walk t' w x e in
      let f : FinishedRun t w = record { counted = counted w a.finished.counted; at_exit = a.finished.at_exit ∙ ap (λ (n : ℕ). n - 1) T.cost_count } in
      (walked t w, (walks_exactly t w h a.short (walked t w)).1 (f, refl), rw (← a.result) (cheaper_run w), rw (← a.result))

  trimmed_checked : StaysChecked t t'
  trimmed_checked = record {
    accepts = λ b e. let a = accepts b e in (a.0, a.1, omega (ints, a.2));
    runs = λ w h. (counted w h, omega (arith, cheaper_run w));
    walks = walks;
  }

pub stays_checked : TrimmedStaysChecked
stays_checked old new T = subst (StaysChecked old) (sym T.others) (trimmed_checked old new.costs new.limits (subst (Trimmed old) T.others T))
