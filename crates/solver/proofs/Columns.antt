-- The arrays that are made hold the remade columns: the two tests for a value over its limit are those of 402 and 403, and the columns that are
-- written are the remade ones. Assumes nothing.
use Rattle.std.proofs.Common.{◌≡◌, refl, sym, ◌∙◌, ap, Bool, true, false, List, ℕ, zero, suc, ◌-◌, ◌^◌, ◌≤◌, ◌<◌, arith, ltb, ℤ, pos, neg_ℤ, length, get_or, replicate}
use borrow.Author.Tests.{ltb-false}
use lib.Seq.{ext_get_or}
use lib.Signed.{lt_z}
use Rattle.integers.proofs.Laws.{ints}
use Rattle.lists.proofs.Tests.{or_right, or_false}
use Rattle.lists.proofs.Search.{any_at, none_of}
use Rattle.wcet.specs.Table.{Routine, block_count, loop_count}
use Rattle.wcet.specs.Rules.{accepted, figure_outside, bound}
use Rattle.nesting.specs.Columns.{Ranged}
use Rattle.nesting.proofs.Stages.{headed}
use Rattle.certificate.specs.Figures.{Figure}
use Rattle.certificate.specs.Columns.{price_columns, Priced}
use Rattle.optimum.specs.Columns.{remade_multipliers, remade_figures, remade}
use Rattle.optimum.specs.Replies.{multiplier_over, figure_over, Solved}
use Rattle.optimum.proofs.Multipliers.{multiplier_count}
use Rattle.optimum.proofs.Remade.{figure_count}
use Rattle.optimum.proofs.Replies.{solved}
use Rattle.multipliers.specs.Columns.{MultipliedOf}
use Rattle.figures.specs.Columns.{FigureHigh, FiguredOf}
use Rattle.solver.specs.Columns.{Written, Solvable}
use Rattle.solver.proofs.Reply.{bound_accepted}

-- a column of zeros
pub zeros : (m k : ℕ) → ◌≡◌ {A = ℕ} (get_or (replicate m 0) k 0) 0
zeros zero zero = refl
zeros zero (suc k) = refl
zeros (suc m) zero = refl
zeros (suc m) (suc k) = zeros m k

-- 402, as the code tests it
module _ (t : Routine) (over : Bool) (made : List ℕ) (weights kept : List ℤ) (M : MultipliedOf t over made weights kept) where
  tested : over ≡ multiplier_over (remade t)
  unfolding multiplier_over remade
  tested = M.tested

  pub multiplier_over_lem : over ≡ true → multiplier_over (remade t) ≡ true
  multiplier_over_lem o = sym tested ∙ o

  pub multipliers_fit : over ≡ false → multiplier_over (remade t) ≡ false
  multipliers_fit o = sym tested ∙ o

-- 403, as the code tests it
pub figure_over_lem : (t : Routine) → FigureHigh t → figure_over (remade t) ≡ true
unfolding figure_over remade
figure_over_lem t H =
    let high : lt_z (pos (2 ^ 60)) (get_or (remade_figures t) H.0 (pos 0)) ≡ true = omega (ints, H.2) in
    any_at (block_count t) (λ u. figure_outside (get_or (remade_figures t) u (pos 0))) H.0 H.1
    (or_right (lt_z (get_or (remade_figures t) H.0 (pos 0)) (neg_ℤ (pos (2 ^ 60)))) high)

module _ (t : Routine) (sets order : List ℕ) (S : Solvable t sets order) (made : List ℕ) (weights kept : List ℤ) (M : MultipliedOf t false made weights kept) where
  open S use {rules, declared}

  pub multiplier_low : (l : ℕ) → l < loop_count t → get_or (remade_multipliers t) l 0 ≤ 2 ^ 40
  unfolding multiplier_over remade
  multiplier_low l b = ltb-false (2 ^ 40) (get_or (remade_multipliers t) l 0) (none_of (loop_count t) (λ l. ltb (2 ^ 40) (get_or (remade_multipliers t) l 0)) (multipliers_fit t false made weights kept M refl) l b)

  pub made_most : (l : ℕ) → l < loop_count t → get_or made l 0 ≤ 2 ^ 40
  made_most l b = omega (arith, M.same refl l b, multiplier_low l b)

  module _ (values : List ℤ) (F : FiguredOf t false values) where
    pub figures_fit : figure_over (remade t) ≡ false
    figures_fit = sym (F.tested (F.paths refl))

    -- the columns that are written
    pub figures_written : (new : List ℤ) → Written (pos 0) values t.figures new → new ≡ remade_figures t
    figures_written new W =
        let n : length t.figures ≡ block_count t = (headed t rules).ranged.sized.figures in
        ext_get_or (pos 0) new (remade_figures t) (W.size ∙ n ∙ sym (figure_count t)) (λ x b.
        let c : x < length t.figures = omega (arith, W.size) in
        W.same x c ∙ F.same refl x (omega (arith, n)))

    pub multipliers_written : (new : List ℕ) → Written 0 made t.multipliers new → new ≡ remade_multipliers t
    multipliers_written new W =
        let n : length t.multipliers ≡ loop_count t = (headed t rules).ranged.sized.multipliers in
        ext_get_or 0 new (remade_multipliers t) (W.size ∙ n ∙ sym (multiplier_count t)) (λ l b.
        let c : l < length t.multipliers = omega (arith, W.size) in
        W.same l c ∙ M.same refl l (omega (arith, n)))

    in_range : (x : ℕ) → x < block_count t → Figure (get_or (remade_figures t) x (pos 0))
    unfolding figure_over remade
    in_range x b =
        let f : ℤ = get_or (remade_figures t) x (pos 0) in
        let r = or_false (lt_z f (neg_ℤ (pos (2 ^ 60)))) (lt_z (pos (2 ^ 60)) f) (none_of (block_count t) (λ u. figure_outside (get_or (remade_figures t) u (pos 0))) figures_fit x b) in
        record { least = omega (ints, r.0); most = omega (ints, r.1) }

    pub priced : Priced (price_columns t.costs (remade_figures t))
    priced =
        let R : Ranged t = (headed t rules).ranged in
        record {
          some_block = R.sized.some_block;
          few_blocks = R.sized.few_blocks;
          figures = figure_count t;
          cost_most = R.cost_most 0 R.sized.some_block;
          entry_range = in_range 0 R.sized.some_block;
          exit_range = in_range (block_count t - 1) (omega (arith, R.sized.some_block));
        }

    -- "the reply is its bound"
    pub accepted_solved : (fs : List ℤ) → Written (pos 0) values t.figures fs → (ms : List ℕ) → Written 0 made t.multipliers ms → (b : ℤ) → b ≡ bound (price_columns t.costs fs)
        → Solved t (accepted b) fs ms
    unfolding bound remade
    accepted_solved fs W ms X b e =
        let f : fs ≡ remade_figures t = figures_written fs W in
        let same : b ≡ bound (remade t) = e ∙ ap (λ (x : List ℤ). bound (price_columns t.costs x)) f in
        solved t (accepted b) fs ms (ap accepted same ∙ bound_accepted t rules declared (F.paths refl) (multipliers_fit t false made weights kept M refl) figures_fit) f (multipliers_written ms X)
