-- 208 read off the loop sets is 208, and so is 453. Assumes nothing.
use mathlib.Core.Path.{◌≡◌, refl, sym, ◌∙◌, ap}
use mathlib.Core.Bool.{Bool, not}
use mathlib.Core.List.{List}
use Prim.Native.Nat.{ℕ, ◌<◌}
use native.Mathlib.Omega.{arith}
use lib.IntN.{ℤ, pos}
use lib.ListN.{length, get_or}
use lib.Signed.{le_z}
use Rattle.lists.specs.Search.{first_below}
use Rattle.lists.proofs.Search.{first_ext}
use Rattle.wcet.specs.Table.{Routine, block_count, loop_count, exit, cost, figure, limit, multiplier, loop_of, first, second, some_edge, inside, is_header}
use Rattle.wcet.specs.Rules.{inequality, edge_holds, inequality_broken}
use Rattle.wcet.specs.Shortest.{inequality_by}
use Rattle.loopsets.specs.Sets.{sets_around, set_at, member}
use Rattle.loopsets.proofs.Laws.{member_around}
use Rattle.nesting.specs.Columns.{routine, Ranged}
use Rattle.nesting.proofs.Stages.{innermost}
use Rattle.nesting.proofs.Edges.{edges_ext}
use Rattle.certificate.specs.Columns.{price_columns, Priced, Comparable, Weighable, broken_by, any_broken_by}

-- what the bound reads, of the columns that the inequalities read
pub priced_of : (t : Routine) → Weighable t → Priced (price_columns t.costs t.figures)
priced_of t W = record {
  some_block = W.comparable.some_block;
  few_blocks = W.comparable.few_blocks;
  figures = W.comparable.figures;
  cost_most = W.comparable.cost_most 0 W.comparable.some_block;
  entry_range = W.figure_range 0 W.comparable.some_block;
  exit_range = W.figure_range (exit t) (omega (arith, W.comparable.some_block));
}

-- by `le_z` an edge is broken where the inequality of 208 does not hold
pub broken_by_le : (sets : List ℕ) (t : Routine) (u v : ℕ)
    → broken_by le_z sets t u v ≡ not (inequality (is_header t v) (member (set_at sets (loop_of t u)) (loop_of t v)) (cost t v) (figure t u) (figure t v) (multiplier t (loop_of t v)) (limit t (loop_of t v)))
unfolding broken_by inequality inequality_by
broken_by_le sets t u v = refl

-- the routine with the figures, the multipliers and the limits of a certificate: its own, or those of the second one
abbrev pub claiming : Routine → (figures : List ℤ) (visits multipliers : List ℕ) → Routine
claiming t figures visits multipliers = routine t.costs t.loops t.firsts t.seconds figures t.parents t.headers visits multipliers

module _ (t : Routine) (R : Ranged t) where
  pub comparable : (figures : List ℤ) (visits multipliers : List ℕ) → length figures ≡ block_count t → length visits ≡ loop_count t → length multipliers ≡ loop_count t
      → Comparable (claiming t figures visits multipliers)
  comparable figures visits multipliers f v m = record {
    some_block = R.sized.some_block;
    few_blocks = R.sized.few_blocks;
    loops = R.sized.loops;
    figures = f;
    limits = v ∙ sym R.sized.headers;
    multipliers = m ∙ sym R.sized.headers;
    innermost = innermost t R;
    cost_most = R.cost_most;
  }

  pub weighable : Weighable t
  weighable = record {
    comparable = comparable t.figures t.limits t.multipliers R.sized.figures R.sized.limits R.sized.multipliers;
    figure_range = λ u b. record { least = R.figure_least u b; most = R.figure_most u b };
    limit_most = λ l b. R.limit_most l (omega (arith, R.sized.headers));
    multiplier_most = λ l b. R.multiplier_most l (omega (arith, R.sized.headers));
  }

  pub priced : Priced (price_columns t.costs t.figures)
  priced = priced_of t weighable

  -- for these figures, visits and multipliers, the tables' own or those of a second certificate
  module _ (compare : ℤ → ℤ → Bool) (figures : List ℤ) (visits multipliers : List ℕ) (sets : List ℕ) (S : sets ≡ sets_around t.parents) where
    abbrev holds : ℕ → ℕ → Bool
    holds u v = inequality_by compare (is_header t v) (inside t u (loop_of t v)) (cost t v) (get_or figures u (pos 0)) (get_or figures v (pos 0)) (get_or multipliers (loop_of t v) 0) (get_or visits (loop_of t v) 0)

    abbrev columns : Routine
    columns = claiming t figures visits multipliers

    -- membership of the source's set is being inside
    edge_broken : (u v : ℕ) → u < block_count t → v < block_count t → broken_by compare sets columns u v ≡ not (holds u v)
    unfolding broken_by inside
    edge_broken u v b h =
        ap (λ (i : Bool). not (inequality_by compare (is_header t v) i (cost t v) (get_or figures u (pos 0)) (get_or figures v (pos 0)) (get_or multipliers (loop_of t v) 0) (get_or visits (loop_of t v) 0)))
        (member_around t.parents sets S R.sized.few_loops (loop_of t u) (loop_of t v) (R.loop_below u b) (omega (arith, R.loop_below v h, R.sized.few_loops)))

    any_broken : (u : ℕ) → u < block_count t → any_broken_by compare sets columns u ≡ some_edge t u (λ v. not (holds u v))
    unfolding some_edge
    any_broken u b = edges_ext t u (broken_by compare sets columns u) (λ v. not (holds u v)) (λ h. edge_broken u (first t u) b (R.first_names u b h)) (λ h. edge_broken u (second t u) b (R.second_names u b h))

    pub broken_places_by : first_below (block_count t) (any_broken_by compare sets columns) ≡ first_below (block_count t) (λ u. some_edge t u (λ v. not (holds u v)))
    broken_places_by = first_ext (block_count t) _ _ any_broken

  -- 208, of the tables' own
  pub broken_places : (sets : List ℕ) → sets ≡ sets_around t.parents → first_below (block_count t) (any_broken_by le_z sets t) ≡ first_below (block_count t) (inequality_broken t)
  unfolding inequality_broken edge_holds inequality inequality_by broken_by
  broken_places sets S = broken_places_by le_z t.figures t.limits t.multipliers sets S
