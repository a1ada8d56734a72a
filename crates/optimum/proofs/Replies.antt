-- The solver's reply: the rules mean what document 02 says of them (`solves_exactly`), and an accepted bound is the optimum (`optimum_of`). So
-- a solver whose reply is that of the rules, beside the columns that go with it, keeps document 02, §3 (`solved`). Assumes nothing.
use mathlib.Core.Path.{◌≡◌, refl, sym, ◌∙◌, ap}
use mathlib.Core.Logic.{◌↔◌}
use mathlib.Core.Bool.{Bool, true, false, true≢false}
use mathlib.Core.List.{List, [], ◌∷◌, ◌++◌}
use Prim.Native.Nat.{ℕ, ◌^◌, ◌≤◌, ◌<◌}
use native.Mathlib.Omega.{arith}
use lib.Dec.{ltb}
use borrow.Author.Tests.{ltb-true, ltb-false, lt-ltb}
use lib.IntN.{ℤ, pos, neg_ℤ}
use lib.ListN.{get_or}
use lib.Signed.{lt_z, ◌≤ℤ◌}
use Rattle.lists.proofs.Tests.{or_false}
use Rattle.lists.proofs.Search.{Lowest, none_of, any_at, some_at}
use Rattle.integers.proofs.Laws.{ints}
use Rattle.wcet.specs.Table.{Routine, block_count, loop_count}
use Rattle.wcet.specs.Cycles.{undeclared_loop, ClosedWalk}
use Rattle.wcet.specs.Rules.{Reply, accepted, refused, Rule, figure_outside, structure_rules, undeclared_rule, bound}
use Rattle.wcet.specs.Run.{run_cost}
use Rattle.wcet.specs.Claim.{AllHold, FinishedRun}
use Rattle.wcet.proofs.Nesting.{Nested, nested}
use Rattle.wcet.proofs.Replies.{decides, all_append, append_all, past_all, accepted_exactly, refused_exactly, Unnumbered, numbered_broken, once_exactly, undeclared_exactly}
use Rattle.optimum.specs.Remade.{RemadeColumns, PathToExit, AllPaths}
use Rattle.optimum.specs.Columns.{remade_multipliers, remade_figures, remade}
use Rattle.optimum.specs.Replies.{no_path, multiplier_over, figure_over, given_rules, solve_rules, solve_reply, figures_after, multipliers_after, MultiplierPasses, FigurePasses, SolvesExactly, Optimum, Solved}
use Rattle.optimum.proofs.Paths.{path_exactly}
use Rattle.optimum.proofs.Optimal.{no_less}
use Rattle.optimum.proofs.Remade.{remade_columns, remade_run, only_remade, remade_accepted}

module _ (t : Routine) where
  -- 201 to 207, and 209
  pub given : AllHold (given_rules t) → AllHold (structure_rules t) × (undeclared_loop t ≡ false)
  given h = let q : AllHold (structure_rules t) × AllHold (undeclared_rule t ∷ []) = all_append (structure_rules t) (undeclared_rule t ∷ []) h in (q.0, q.1.0 0 (omega arith))

  -- what the rules of the solver say beside those that are given
  pub own_rules : AllHold (solve_rules t) → AllHold (given_rules t) × ((u : ℕ) → u < block_count t → no_path t u ≡ false) × (multiplier_over (remade t) ≡ false) × (figure_over (remade t) ≡ false)
  unfolding solve_rules
  own_rules h = let q = all_append (given_rules t) _ h in (q.0, q.1.0, q.1.1.0 0 (omega arith), q.1.1.1.0 0 (omega arith))

  -- 402
  multipliers_most : multiplier_over (remade t) ≡ false → (l : ℕ) → l < loop_count t → get_or (remade_multipliers t) l 0 ≤ 2 ^ 40
  unfolding multiplier_over remade
  multipliers_most e l b = ltb-false (2 ^ 40) (get_or (remade_multipliers t) l 0) (none_of (loop_count t) _ e l b)

  -- 403
  figures_most : figure_over (remade t) ≡ false → (u : ℕ) → u < block_count t → get_or (remade_figures t) u (pos 0) ≤ℤ pos (2 ^ 60)
  unfolding figure_over remade
  figures_most e u b =
      let f : ℤ = get_or (remade_figures t) u (pos 0) in
      let q : lt_z (pos (2 ^ 60)) f ≡ false = (or_false (lt_z f (neg_ℤ (pos (2 ^ 60)))) (lt_z (pos (2 ^ 60)) f) (none_of (block_count t) _ e u b)).1 in
      omega ints

-- ---- 209 and 401 to 403, in the words of document 02

module _ (t : Routine) where
  abbrev path_rule : Rule
  path_rule = record { number = 401; places = block_count t; broken = no_path t }

  abbrev multiplier_rule : Rule
  multiplier_rule = record { number = 402; places = 1; broken = λ _. multiplier_over (remade t) }

  abbrev figure_rule : Rule
  figure_rule = record { number = 403; places = 1; broken = λ _. figure_over (remade t) }

  undeclared_solved : (p : ℕ) → (solve_reply t ≡ refused 209 p) ↔ ((p ≡ 0) × AllHold (structure_rules t) × ClosedWalk t)
  unfolding solve_reply solve_rules structure_rules
  undeclared_solved p = undeclared_exactly t (path_rule ∷ multiplier_rule ∷ figure_rule ∷ []) (bound (remade t)) p (λ e. omega arith, (λ e. omega arith, (λ e. omega arith, tt)))

  broken : (b : Bool) → (b ≡ false → ⊥) → b ≡ true
  broken true h = refl
  broken false h = absurd (h refl)

  unbroken : (b : Bool) → (b ≡ true → ⊥) → b ≡ false
  unbroken true h = absurd (h refl)
  unbroken false h = refl

  no_path_exactly : (u : ℕ) → (solve_reply t ≡ refused 401 u) ↔ (AllHold (given_rules t) × (u < block_count t) × (PathToExit t u → ⊥) × ((y : ℕ) → y < u → PathToExit t y))
  unfolding solve_reply solve_rules structure_rules
  no_path_exactly u = (
    λ e.
        let q : AllHold (given_rules t) × Lowest (block_count t) (no_path t) u = numbered_broken 401 (given_rules t) path_rule (multiplier_rule ∷ figure_rule ∷ []) (bound (remade t)) u before (λ z. omega arith, (λ z. omega arith, tt)) e in
        let l : Lowest (block_count t) (no_path t) u = q.1 in
        let N : Nested t = nested t (given t q.0).0 in
        (q.0, l.below, λ p. true≢false (sym l.passes ∙ (path_exactly t N u l.below).1 p), λ y h. (path_exactly t N y (omega (arith, l.below))).0 (l.lower y h)),
    λ h.
        let N : Nested t = nested t (given t h.0).0 in
        past_all (given_rules t) (path_rule ∷ multiplier_rule ∷ figure_rule ∷ []) (accepted (bound (remade t))) h.0
        ∙ decides path_rule (multiplier_rule ∷ figure_rule ∷ []) (accepted (bound (remade t))) u (record {
          below = h.1;
          passes = broken (no_path t u) (λ e. h.2 ((path_exactly t N u h.1).0 e));
          lower = λ y b. (path_exactly t N y (omega (arith, h.1))).1 (h.3 y b);
        }),
  )
    where
      before : Unnumbered 401 (given_rules t)
      before = (λ e. omega arith, (λ e. omega arith, (λ e. omega arith, (λ e. omega arith, (λ e. omega arith, (λ e. omega arith, (λ e. omega arith, (λ e. omega arith, tt))))))))

  -- the rules before 402: those that are given, and 401
  paths_hold : AllHold (given_rules t ++ path_rule ∷ []) ↔ (AllHold (given_rules t) × AllPaths t)
  paths_hold = (
    λ h.
        let q : AllHold (given_rules t) × AllHold (path_rule ∷ []) = all_append (given_rules t) (path_rule ∷ []) h in
        let N : Nested t = nested t (given t q.0).0 in
        (q.0, λ u b. (path_exactly t N u b).0 (q.1.0 u b)),
    λ h. let N : Nested t = nested t (given t h.0).0 in append_all (given_rules t) (path_rule ∷ []) h.0 (λ u b. (path_exactly t N u b).1 (h.1 u b), tt),
  )

  -- the remade columns, where these hold
  module _ (h : AllHold (given_rules t)) (paths : AllPaths t) where
    made : RemadeColumns t (remade_figures t) (remade_multipliers t)
    made = let g = given t h in remade_columns t (nested t g.0) g.1 paths

    only : (fs : List ℤ) (ks : List ℕ) → RemadeColumns t fs ks → (fs ≡ remade_figures t) × (ks ≡ remade_multipliers t)
    only fs ks R = let g = given t h in only_remade t (nested t g.0) g.1 paths fs ks R

  multiplier_passes : (multiplier_over (remade t) ≡ true) ↔ MultiplierPasses t (remade_multipliers t)
  unfolding multiplier_over remade
  multiplier_passes = (
    λ e. let s = some_at (loop_count t) (λ l. ltb (2 ^ 40) (get_or (remade_multipliers t) l 0)) e in (s.0, s.1, ltb-true (2 ^ 40) (get_or (remade_multipliers t) s.0 0) s.2),
    λ h. any_at (loop_count t) (λ l. ltb (2 ^ 40) (get_or (remade_multipliers t) l 0)) h.0 h.1 (lt-ltb (2 ^ 40) (get_or (remade_multipliers t) h.0 0) h.2),
  )

  figure_passes : (figure_over (remade t) ≡ true) ↔ FigurePasses t (remade_figures t)
  unfolding figure_over remade
  figure_passes = (
    some_at (block_count t) (λ u. figure_outside (get_or (remade_figures t) u (pos 0))),
    λ h. any_at (block_count t) (λ u. figure_outside (get_or (remade_figures t) u (pos 0))) h.0 h.1 h.2,
  )

  multiplier_exactly : (p : ℕ) → (solve_reply t ≡ refused 402 p)
      ↔ ((p ≡ 0) × AllHold (given_rules t) × AllPaths t × ((fs : List ℤ) × (ks : List ℕ) × RemadeColumns t fs ks × MultiplierPasses t ks))
  unfolding solve_reply solve_rules structure_rules
  multiplier_exactly p =
      let once = once_exactly 402 (given_rules t ++ path_rule ∷ []) (multiplier_over (remade t)) (figure_rule ∷ []) (bound (remade t)) p before (λ e. omega arith, tt) in (
        λ e.
            let q = once.0 e in
            let r = paths_hold.0 q.1 in
            (q.0, r.0, r.1, (remade_figures t, remade_multipliers t, made r.0 r.1, multiplier_passes.0 q.2)),
        λ h.
            let C = h.3 in
            once.1 (h.0, paths_hold.1 (h.1, h.2), multiplier_passes.1 (rw (only h.1 h.2 C.0 C.1 C.2).1 at C.3)),
      )
    where
      before : Unnumbered 402 (given_rules t ++ path_rule ∷ [])
      before = (λ e. omega arith, (λ e. omega arith, (λ e. omega arith, (λ e. omega arith, (λ e. omega arith, (λ e. omega arith, (λ e. omega arith, (λ e. omega arith, (λ e. omega arith, tt)))))))))

  figure_exactly : (p : ℕ) → (solve_reply t ≡ refused 403 p)
      ↔ ((p ≡ 0) × AllHold (given_rules t) × AllPaths t × ((fs : List ℤ) × (ks : List ℕ) × RemadeColumns t fs ks × (MultiplierPasses t ks → ⊥) × FigurePasses t fs))
  unfolding solve_reply solve_rules structure_rules
  figure_exactly p =
      let once = once_exactly 403 (given_rules t ++ path_rule ∷ multiplier_rule ∷ []) (figure_over (remade t)) [] (bound (remade t)) p before tt in (
        λ e.
            let q = once.0 e in
            let s : AllHold (given_rules t ++ path_rule ∷ []) × AllHold (multiplier_rule ∷ []) = all_append (given_rules t ++ path_rule ∷ []) (multiplier_rule ∷ []) q.1 in
            let r = paths_hold.0 s.0 in
            (q.0, r.0, r.1, (remade_figures t, remade_multipliers t, made r.0 r.1, λ m. true≢false (sym (multiplier_passes.1 m) ∙ s.1.0 0 (omega arith)), figure_passes.0 q.2)),
        λ h.
            let C = h.3 in
            let same = only h.1 h.2 C.0 C.1 C.2 in
            let low : multiplier_over (remade t) ≡ false = unbroken (multiplier_over (remade t)) (λ e. C.3 (rw same.1 (multiplier_passes.0 e))) in
            once.1 (h.0, append_all (given_rules t ++ path_rule ∷ []) (multiplier_rule ∷ []) (paths_hold.1 (h.1, h.2)) (λ i b. low, tt), figure_passes.1 (rw same.0 at C.4)),
      )
    where
      before : Unnumbered 403 (given_rules t ++ path_rule ∷ multiplier_rule ∷ [])
      before = (λ e. omega arith, (λ e. omega arith, (λ e. omega arith, (λ e. omega arith, (λ e. omega arith, (λ e. omega arith, (λ e. omega arith, (λ e. omega arith, (λ e. omega arith, (λ e. omega arith, tt))))))))))

pub solves_exactly : (t : Routine) → SolvesExactly t
unfolding solve_reply
solves_exactly t = record {
  accepts = accepted_exactly (solve_rules t) (bound (remade t));
  refuses = refused_exactly (solve_rules t) (bound (remade t));
  undeclared = undeclared_solved t;
  path = λ h. path_exactly t (nested t h);
  no_path_lem = no_path_exactly t;
  multiplier_over_lem = multiplier_exactly t;
  figure_over_lem = figure_exactly t;
  columns = λ h paths fs ks. (only t h paths fs ks, λ e. rw (e.0, e.1) (made t h paths));
  run = λ h paths. let g : AllHold (structure_rules t) × (undeclared_loop t ≡ false) = given t h in remade_run t (nested t g.0) g.1 paths;
}

pub optimum_of : (t : Routine) (b : ℤ) → solve_reply t ≡ accepted b → Optimum t (remade_figures t) (remade_multipliers t) b
unfolding remade
optimum_of t b e = record {
  result = remade_accepted t N declared paths g.0 (multipliers_most t o.2) (figures_most t o.3) ∙ ap accepted a.1;
  columns = remade_columns t N declared paths;
  run = (run.0, run.1, run.2 ∙ a.1);
  least = λ fs ks c r. rw (← a.1, ← run.2) (no_less t fs ks run.0 run.1 c r);
  only = only_remade t N declared paths;
}
  where
    a : AllHold (solve_rules t) × (bound (remade t) ≡ b)
    a = ((solves_exactly t).accepts b).0 e

    o : AllHold (given_rules t) × ((u : ℕ) → u < block_count t → no_path t u ≡ false) × (multiplier_over (remade t) ≡ false) × (figure_over (remade t) ≡ false)
    o = own_rules t a.0

    g : AllHold (structure_rules t) × (undeclared_loop t ≡ false)
    g = given t o.0

    N : Nested t
    N = nested t g.0

    declared : undeclared_loop t ≡ false
    declared = g.1

    paths : (u : ℕ) → u < block_count t → PathToExit t u
    paths u b = (path_exactly t N u b).0 (o.1 u b)

    run : (w : List ℕ) × FinishedRun t w × (pos (run_cost t w) ≡ bound (remade t))
    run = remade_run t N declared paths

pub solved : (t : Routine) (r : Reply ℤ) (fs : List ℤ) (ks : List ℕ) → r ≡ solve_reply t → fs ≡ figures_after t r → ks ≡ multipliers_after t r → Solved t r fs ks
solved t r fs ks e f k = record {
  replied = e;
  figures = f;
  multipliers = k;
  optimum = λ b q. rw (f ∙ ap (figures_after t) q, k ∙ ap (multipliers_after t) q) (optimum_of t b (sym e ∙ q));
}
