-- The remade columns of a table that passes 201 to 207 and 209, where each block has a path to the exit: they are optimal
-- (`remade_columns`) and the only ones that are (`only_remade`), some finished counted run costs their bound (`remade_run`), and within the
-- ranges of 202 and 203 the table with them is accepted with that bound (`remade_accepted`). Assumes nothing.
use mathlib.Core.Path.{◌≡◌, refl, sym, ◌∙◌}
use mathlib.Core.Bool.{false}
use mathlib.Core.List.{List, []}
use mathlib.Core.Option.{Option, some}
use Prim.Native.Nat.{ℕ, zero, suc, ◌*◌, ◌^◌, ◌≤◌, ◌<◌}
use native.Mathlib.Omega.{arith}
use lib.IntN.{ℤ, pos, neg_ℤ, ◌+ℤ◌}
use lib.ListN.{length, get_or}
use lib.Seq.{ext_get_or}
use lib.Signed.{lt_z, ◌≤ℤ◌}
use Rattle.lists.proofs.Tests.{neither}
use Rattle.lists.proofs.Search.{tabulate-at, tabulate-length}
use Rattle.integers.proofs.Laws.{ints, sum}
use Rattle.wcet.specs.Table.{Routine, block_count, loop_count, header, inside}
use Rattle.wcet.specs.Cycles.{back_edge, undeclared_loop}
use Rattle.wcet.specs.Rules.{accepted, figure_outside, structure_rules, bound, table_reply}
use Rattle.wcet.specs.Run.{run_cost}
use Rattle.wcet.specs.Claim.{AllHold, FinishedRun}
use Rattle.wcet.proofs.Ranges.{sizes_of}
use Rattle.wcet.proofs.Nesting.{Nested}
use Rattle.wcet.proofs.OtherNumbers.{same_path, same_cost, undeclared_kept, counted_too, Fitting, fitting, rules_kept}
use Rattle.optimum.specs.Remade.{with_columns, Optimal, RemadeColumns, PathToExit}
use Rattle.optimum.specs.Tails.{weight, via, tail_at}
use Rattle.optimum.specs.Columns.{or_default, tails, remade_multipliers, turn, figure_by, remultiplied, remade_figures, remade}
use Rattle.optimum.proofs.Local.{Tailed, LocallyMade, Ranked, HasFigure}
use Rattle.optimum.proofs.Columns.{nested_too, ranked_too}
use Rattle.optimum.proofs.Ranks.{ranked, tails_step}
use Rattle.optimum.proofs.Multipliers.{multiplier_count, loop0_multiplier, made_multiplier}
use Rattle.optimum.proofs.Filled.{filled_made, figure_least}
use Rattle.optimum.proofs.Exits.{path_figure, figure_path}
use Rattle.optimum.proofs.Attained.{run_made}
use Rattle.optimum.proofs.Optimal.{optimal, accepted_made, same_multipliers, same_figures}

-- filling in reads no figures
figures_any : (t : Routine) (fs : List ℤ) (tail : (l x : ℕ) → Option ℕ) (d x : ℕ) → figure_by (with_columns t fs t.multipliers) tail d x ≡ figure_by t tail d x
unfolding figure_by turn inside
figures_any t fs tail zero x = refl
figures_any t fs tail (suc d) x = rw (figures_any t fs tail d x, figures_any t fs tail d (header t d))

pub figure_count : (t : Routine) → length (remade_figures t) ≡ block_count t
unfolding remade_figures
figure_count t = tabulate-length (block_count t) (λ x. or_default (pos 0) (figure_by (remultiplied t) (tails (remultiplied t)) (loop_count t) x))

module _ (t : Routine) (N : Nested t) (declared : undeclared_loop t ≡ false) where
  abbrev fs : List ℤ
  fs = remade_figures t

  abbrev ks : List ℕ
  ks = remade_multipliers t

  abbrev t' : Routine
  t' = remultiplied t

  -- 201 to 207 by name, and the equations of the tails
  pub remultiplied_nested : Nested (remultiplied t)
  remultiplied_nested = nested_too t [] ks N (loop0_multiplier t N)

  pub remultiplied_tailed : Tailed (remultiplied t) (tails (remultiplied t))
  remultiplied_tailed = tails_step t' remultiplied_nested (undeclared_kept t t.costs [] t.limits ks refl declared)

  pub remade_nested : Nested (remade t)
  unfolding remade
  remade_nested = nested_too t fs ks N (loop0_multiplier t N)

  -- a block that gets a figure has a path to the exit
  pub figured_path : (x : ℕ) → x < block_count t → (f : ℤ) → figure_by (remultiplied t) (tails (remultiplied t)) (loop_count t) x ≡ some f → PathToExit t x
  figured_path x b f e =
      let p : PathToExit t' x = figure_path t' remultiplied_nested (tails t') remultiplied_tailed (ranked_too t [] ks (ranked t N declared).0) x b (f, e) in
      record { blocks = p.blocks; follows = sym (same_path t t.costs [] t.limits ks p.blocks x) ∙ p.follows; at_exit = p.at_exit }

  -- where each block has a path to the exit
  module _ (paths : (x : ℕ) → x < block_count t → PathToExit t x) where
    has : (x : ℕ) → x < block_count t → HasFigure t' (tails t') x
    has x b =
        let p : PathToExit t x = paths x b in
        path_figure t' remultiplied_nested (tails t') remultiplied_tailed x b
        (record { blocks = p.blocks; follows = same_path t t.costs [] t.limits ks p.blocks x ∙ p.follows; at_exit = p.at_exit })

    pub made_figure : (x : ℕ) → x < block_count t → figure_by (remultiplied t) (tails (remultiplied t)) (loop_count t) x ≡ some (get_or (remade_figures t) x (pos 0))
    unfolding remade_figures or_default
    made_figure x b =
        let f : HasFigure t' (tails t') x = has x b in
        rw (tabulate-at (block_count t) (λ x. or_default (pos 0) (figure_by t' (tails t') (loop_count t) x)) (pos 0) x b, f.1)

    pub remade_local : LocallyMade (remade t)
    unfolding remade or_default tail_at via weight back_edge inside
    remade_local =
        filled_made (remade t) remade_nested (tails t') remultiplied_tailed
        (λ l k z m e. made_multiplier t N l z m ∙ rw e) (λ l z m e. made_multiplier t N l z m ∙ rw e)
        (λ x b. figures_any t' fs (tails t') (loop_count t) x ∙ made_figure x b)

    remade_ranked : Ranked (remade t)
    unfolding remade
    remade_ranked = ranked_too t fs ks (ranked t N declared).0

    pub remade_optimal : Optimal (remade t)
    remade_optimal = optimal (remade t) remade_nested remade_local remade_ranked

    pub remade_columns : RemadeColumns t (remade_figures t) (remade_multipliers t)
    unfolding remade
    remade_columns = record {
      figure_count = figure_count t;
      multiplier_count = multiplier_count t;
      optimal = remade_optimal;
    }

    -- a run reads neither column
    pub remade_run : (w : List ℕ) × FinishedRun t w × (pos (run_cost t w) ≡ bound (remade t))
    unfolding remade
    remade_run =
        let R : (w : List ℕ) × FinishedRun (remade t) w × (pos (run_cost (remade t) w) ≡ bound (remade t)) = run_made (remade t) remade_nested remade_local remade_ranked in
        (R.0, record { counted = counted_too t t.costs fs t.limits ks (λ l b. omega arith) R.0 R.1.counted; at_exit = R.1.at_exit }, rw (← same_cost t fs t.limits ks R.0) R.2)

    -- the columns of one table that are optimal with as many entries are these
    pub only_remade : (fs' : List ℤ) (ks' : List ℕ) → RemadeColumns t fs' ks' → (fs' ≡ remade_figures t) × (ks' ≡ remade_multipliers t)
    unfolding remade
    only_remade fs' ks' C = (
      ext_get_or (pos 0) fs' fs (C.figure_count ∙ sym (figure_count t))
          (λ u b. sym (same_figures (remade t) remade_nested fs' ks' remade_optimal C.optimal u (rw C.figure_count at b))),
      ext_get_or 0 ks' ks (C.multiplier_count ∙ sym (multiplier_count t))
          (λ l b. sym (same_multipliers (remade t) remade_nested fs' ks' remade_optimal C.optimal l (rw C.multiplier_count at b))),
    )

    -- within the ranges, of which the figures' lower one is never left
    module _ (h : AllHold (structure_rules t)) (low : (l : ℕ) → l < loop_count t → get_or (remade_multipliers t) l 0 ≤ 2 ^ 40)
        (high : (x : ℕ) → x < block_count t → get_or (remade_figures t) x (pos 0) ≤ℤ pos (2 ^ 60)) where
      figure_within : (x : ℕ) → x < block_count t → figure_outside (get_or (remade_figures t) x (pos 0)) ≡ false
      figure_within x b =
          let f : ℤ = get_or fs x (pos 0) in
          let p : pos 0 ≤ℤ (f +ℤ pos (2 ^ 40 * loop_count t)) = figure_least t' remultiplied_nested (tails t') (2 ^ 40) low (loop_count t) x f (omega arith) b (made_figure x b) in
          let least : lt_z f (neg_ℤ (pos (2 ^ 60))) ≡ false = omega (ints, (sizes_of t h).few_loops, sum f (pos (2 ^ 40 * loop_count t))) in
          let most : lt_z (pos (2 ^ 60)) f ≡ false = omega (ints, high x b) in
          neither least most

      remade_fits : Fitting t t.costs (remade_figures t) t.limits (remade_multipliers t)
      remade_fits = record {
        costs = (fitting t h).costs;
        figures = record { count = figure_count t; range = figure_within };
        limits = (fitting t h).limits;
        multipliers = record { count = multiplier_count t; loop0 = loop0_multiplier t N; most = λ l z. low l };
      }

      pub remade_accepted : table_reply (remade t) ≡ accepted (bound (remade t))
      unfolding remade
      remade_accepted = accepted_made (remade t) (rules_kept t h t.costs fs t.limits ks remade_fits) (undeclared_kept t t.costs fs t.limits ks refl declared) remade_local
