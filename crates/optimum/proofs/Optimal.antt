-- Columns that are made locally are optimal (`optimal`): the multipliers are the greatest rounds' costs, and the figures are the smallest.
-- The table is accepted with its bound (`accepted_made`), no accepted certificate of a routine gives less than one of its finished counted
-- runs costs (`no_less`), and no other columns are optimal (`same_multipliers`, `same_figures`). Assumes nothing.
use mathlib.Core.Path.{◌≡◌, sym}
use mathlib.Core.Bool.{false}
use mathlib.Core.List.{List, [], ◌∷◌, ◌++◌}
use mathlib.Core.Logic.{inl, inr}
use Prim.Native.Nat.{ℕ, ◌≤◌, ◌<◌}
use native.Mathlib.Decide.{ℕ_discrete}
use native.Mathlib.Omega.{arith}
use lib.IntN.{ℤ, pos}
use lib.ListN.{get_or}
use lib.Signed.{◌≤ℤ◌}
use Rattle.integers.proofs.Laws.{ints}
use Rattle.wcet.specs.Table.{Routine, block_count, loop_count, loop_of, figure, header, multiplier, some_edge, edge, inside}
use Rattle.wcet.specs.Rules.{accepted, edge_holds, structure_rules, bound, table_reply}
use Rattle.wcet.specs.Cycles.{undeclared_loop}
use Rattle.wcet.specs.Run.{run_cost}
use Rattle.wcet.specs.Claim.{AllHold, FinishedRun}
use Rattle.wcet.proofs.Bound.{accepted_by_lem, finished_bounded}
use Rattle.wcet.proofs.Nesting.{Nested, nested}
use Rattle.wcet.proofs.OtherNumbers.{same_cost}
use Rattle.optimum.specs.Rounds.{GreatestRound}
use Rattle.optimum.specs.Remade.{with_columns, Optimal}
use Rattle.optimum.proofs.Local.{LocallyMade, Ranked}
use Rattle.optimum.proofs.Structure.{target_loop}
use Rattle.optimum.proofs.Figures.{feasible, smallest}
use Rattle.optimum.proofs.Rounds.{greatest_round, no_round_0}
use Rattle.optimum.proofs.Attained.{round_attained}
use Rattle.optimum.proofs.Columns.{run_too, round_too, nested_too}

pub optimal : (t : Routine) → Nested t → LocallyMade t → Ranked t → Optimal t
optimal t N L K = record { rounds = λ l m. rounds l m (ℕ_discrete l 0); figures = smallest t N L K }
  where
    rounds : (l : ℕ) → l < loop_count t → Dec (l ≡ 0) → GreatestRound t l (multiplier t l)
    rounds l m (yes z) = rw z (record { most = λ w r. absurd (no_round_0 t N w r); attained = inr (N.loop0_multiplier, no_round_0 t N) })
    rounds l m (no ne) = greatest_round t N L l (omega arith) m (λ k e. round_attained t N L K l k (omega arith) m e)

-- "The result must be accepted, the reply is its bound"
pub accepted_made : (t : Routine) → AllHold (structure_rules t) → undeclared_loop t ≡ false → LocallyMade t → table_reply t ≡ accepted (bound t)
accepted_made t h declared L = accepted_by_lem t h declared (feasible t (nested t h) L).holds

module _ (t : Routine) (fs : List ℤ) (ks : List ℕ) where
  abbrev t' : Routine
  t' = with_columns t fs ks

  -- "so no certificate gives less"
  pub no_less : (w : List ℕ) → FinishedRun t w → (b : ℤ) → table_reply (with_columns t fs ks) ≡ accepted b → pos (run_cost t w) ≤ℤ b
  no_less w r b e = rw (← same_cost t fs t.limits ks w) (finished_bounded t' b e w (record { counted = run_too t fs ks w r.counted; at_exit = r.at_exit }))

  -- greatest rounds, and with the same multipliers smallest figures, are no greater in the one than in the other
  rounds_le : (l a b : ℕ) → GreatestRound t l a → GreatestRound t' l b → a ≤ b
  rounds_le l a b G G' = elim G.attained [
    | inl p ↦ omega (arith, G'.most p.0 (round_too t fs ks l p.0 p.1), same_cost t fs t.limits ks (p.0 ++ header t l ∷ []), p.2)
    | inr p ↦ omega (arith, p.0)
  ]

  figures_le : Nested t → ((l : ℕ) → l < loop_count t → multiplier t l ≡ multiplier t' l) → Optimal t → Optimal t'
      → (u : ℕ) → u < block_count t → figure t u ≤ℤ figure t' u
  unfolding edge some_edge edge_holds inside
  figures_le N e M M' =
      M.figures.smallest fs (record {
        holds = λ u v b d. rw (e (loop_of t v) (target_loop t N u v b d)) (M'.figures.feasible.holds u v b d);
        at_exit = M'.figures.feasible.at_exit;
      })

-- loop 0's multiplier is 0 (202), since it has no round
pub loop0_optimal : (t : Routine) → Nested t → (fs : List ℤ) (ks : List ℕ) → Optimal (with_columns t fs ks) → get_or ks 0 0 ≡ 0
loop0_optimal t N fs ks M = elim (M.rounds 0 N.some_loop).attained [
  | inl p ↦ absurd (no_round_0 t N p.0 (round_too (with_columns t fs ks) t.figures t.multipliers 0 p.0 p.1))
  | inr p ↦ p.0
]

-- no other columns are optimal
module _ (t : Routine) (N : Nested t) (fs : List ℤ) (ks : List ℕ) (M : Optimal t) (M' : Optimal (with_columns t fs ks)) where
  pub same_multipliers : (l : ℕ) → l < loop_count t → multiplier t l ≡ get_or ks l 0
  same_multipliers l m =
      let G : GreatestRound t l (multiplier t l) = M.rounds l m in
      let G' : GreatestRound (with_columns t fs ks) l (get_or ks l 0) = M'.rounds l m in
      omega (arith, rounds_le t fs ks l (multiplier t l) (get_or ks l 0) G G', rounds_le (with_columns t fs ks) t.figures t.multipliers l (get_or ks l 0) (multiplier t l) G' G)

  pub same_figures : (u : ℕ) → u < block_count t → figure t u ≡ get_or fs u (pos 0)
  same_figures u b =
      let p : figure t u ≤ℤ get_or fs u (pos 0) = figures_le t fs ks N same_multipliers M M' u b in
      let N' : Nested (with_columns t fs ks) = nested_too t fs ks N (loop0_optimal t N fs ks M') in
      let q : get_or fs u (pos 0) ≤ℤ figure t u = figures_le (with_columns t fs ks) t.figures t.multipliers N' (λ l m. sym (same_multipliers l m)) M' M u b in
      omega (ints, p, q)
