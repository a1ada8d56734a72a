-- What came of the steps that make the columns, for every routine with the columns that they read. Assumes nothing.
use Rattle.std.proofs.Common.{◌≡◌, refl, sym, ◌∙◌, Bool, true, false, List, ℕ, ◌^◌, ◌≤◌, ◌<◌, arith, ℤ, pos, length, get_or, replicate}
use lib.ListN.{get_or-replicate}
use Rattle.limits.specs.Limits.{most_blocks, most_loops}
use Rattle.wcet.specs.Table.{Routine, loop_count}
use Rattle.loopsets.specs.Sets.{Parents}
use Rattle.nesting.specs.Columns.{Ranged}
use Rattle.nesting.proofs.Stages.{headed}
use Rattle.levels.specs.Levels.{DepthsOf}
use Rattle.levels.specs.declared.Depths.{Depths}
use Rattle.tails.specs.Slots.{places, nowhere, Slotted}
use Rattle.multipliers.specs.Columns as rounds
use Rattle.figures.specs.Figures.{no_figure, HeadFits, ValuesFit, WeightFits}
use Rattle.figures.specs.Columns as fill
use Rattle.figures.proofs.Pass.{none_fit, gates_fit}
use Rattle.figures.proofs.Gates.{head_high}
use Rattle.figures.proofs.Paths.{figured as by-paths}
use Rattle.solver.specs.declared.SolveFault.TheVariants.{Multiplier, Figure}
use Rattle.solver.specs.Columns.{Solvable, Makeable, OverAs, Headed, ColumnsMade}
use Rattle.solver.proofs.Columns.{multiplier_over_lem, multipliers_fit, made_most, figure_over_lem}
use Rattle.solver.proofs.Steps.{slotted, rounds_readied, deep_of, heads_readied, weight_range}

-- ---- what the steps require

module _ {t : Routine} {firstSlots secondSlots order : List ℕ} (P : Makeable t firstSlots secondSlots order) where
  open P use {sets, laid}

  S : Solvable t sets order
  S = laid.solvable

  R : Ranged t
  R = (headed t S.rules).ranged

  pub depths_ready : (0 < length t.parents) × (length t.parents ≤ most_loops) × Parents t.parents
  depths_ready = (R.sized.some_loop, R.sized.few_loops, R.parents)

  pub rounds_ready : (r : Depths) → DepthsOf t.parents r → rounds.Readied t.costs t.headers t.limits r.most firstSlots secondSlots order
  rounds_ready = rounds_readied t S.rules sets firstSlots secondSlots order S.ordered laid.first_slots laid.second_slots

  pub weights_ready : (length t.costs ≤ most_blocks) × ((l : ℕ) → l < length t.headers → get_or t.headers l 0 < most_blocks)
  weights_ready = (R.sized.few_blocks, λ l b. omega (arith, R.header_below l (omega (arith, R.sized.headers)), R.sized.few_blocks))

  pub loops_ready : length t.headers ≤ most_loops
  loops_ready = omega (arith, R.sized.headers, R.sized.few_loops)

  -- with the multipliers and the figures of the headers
  module _ {made : List ℕ} {weights heads : List ℤ} (G : Headed t made weights heads) where
    -- what a gate is made of is in range
    pub gate_ready : (l : ℕ) → l < length t.headers → (get_or t.headers l 0 < length t.costs) × (get_or made l 0 ≤ 2 ^ 40) × HeadFits (get_or heads l (pos 0))
    gate_ready l b =
        let m : l < loop_count t = omega (arith, R.sized.headers) in
        (R.header_below l m, made_most t sets order S made weights G.kept G.multiplied l m, G.fit l m)

    pub gates_ready : (gates : List ℤ) → fill.GatesSet t.costs t.headers made heads (replicate places no_figure) gates → ValuesFit gates
    gates_ready gates X = gates_fit t.costs t.headers made heads (replicate places no_figure) gates X (none_fit places) (λ l b. let g = gate_ready l b in (omega (arith, R.cost_most (get_or t.headers l 0) g.0), g.1, g.2))

    pub weight_ready : (x : ℕ) → x < length t.costs → WeightFits (get_or weights x (pos 0))
    weight_ready x b = weight_range t sets order S made weights G.kept G.multiplied x b

  pub slots_ready : Slotted (length t.costs) firstSlots secondSlots order
  slots_ready = slotted t S.rules sets firstSlots secondSlots order S.ordered laid.first_slots laid.second_slots

  -- ---- the multipliers and the figures of the headers

  module _ (r : Depths) (D : DepthsOf t.parents r) (over : Bool) (made : List ℕ) (weights kept : List ℤ)
      (M : rounds.Multiplied t.costs t.headers t.limits r.each r.most firstSlots secondSlots order over made weights kept) where
    multiplied : rounds.MultipliedOf t over made weights kept
    multiplied = M.says t sets refl refl refl S.rules S.sets_around_lem (deep_of D) S.ordered laid.first_slots laid.second_slots

    pub headed_multiplier : over ≡ true → OverAs Multiplier t
    headed_multiplier o = multiplier_over_lem t over made weights kept multiplied o

    module _ (o : over ≡ false) where
      multiplied_all : rounds.MultipliedOf t false made weights kept
      multiplied_all = rw o at multiplied

      pub heads_ready : fill.HeadsReadied t.parents kept made r.each r.most
      heads_ready = heads_readied t sets order S made weights kept multiplied_all r.each r.most (deep_of D) (rounds_ready r D).deep M.kept_low

      module _ (high : Bool) (heads : List ℤ) (H : fill.HeadsOf t.parents kept made high heads) where
        heads_figured : fill.HeadsFigured t high heads
        heads_figured = H.says t weights refl S.rules multiplied_all

        pub headed_figure : high ≡ true → OverAs Figure t
        headed_figure h =
            (multipliers_fit t false made weights kept multiplied_all refl, λ paths. figure_over_lem t (head_high t S.rules S.declared paths heads (rw h at heads_figured)))

        pub headed_made : high ≡ false → Headed t made weights heads
        headed_made h = record {
          kept = kept;
          multiplied = multiplied_all;
          heads_figured = rw h at heads_figured;
          fit = λ l b. let B = H.bounded h l b in record { head_least = B.least; head_most = B.most };
        }

  -- ---- the figures

  module _ {made : List ℕ} {weights heads : List ℤ} (G : Headed t made weights heads) (gates : List ℤ) (X : fill.GatesSet t.costs t.headers made heads (replicate places no_figure) gates)
      (over : Bool) (figures : List ℤ) (F : fill.FiguresFilled weights firstSlots secondSlots order (length t.costs) gates over figures) where
    figured : fill.FiguredOf t over figures
    figured =
        by-paths t S.rules S.declared sets S.sets_around_lem order S.ordered made weights G.kept G.multiplied heads G.heads_figured (replicate places no_figure) gates
        X (get_or-replicate places nowhere no_figure (pos 0) (omega arith)) firstSlots secondSlots laid.first_slots laid.second_slots over figures F

    pub figure_high : over ≡ true → OverAs Figure t
    figure_high o = (multipliers_fit t false made weights G.kept G.multiplied refl, λ paths. sym (figured.tested paths) ∙ o)

    pub columns_made : over ≡ false → ColumnsMade t figures made
    columns_made o = record { kept = G.kept; weights = weights; multiplied = G.multiplied; figured = rw o at figured }
