-- The gates by the figures of the headers: where each block has a path to the exit, each header has its remade figure, so that a gate is what a
-- back edge to the header asks for (`gates_of`), and a header's figure over the limit is a remade figure over it (`head_high`). Assumes nothing.
use Rattle.std.proofs.Common.{◌≡◌, refl, sym, ◌∙◌, true, false, List, ℕ, ◌<◌, arith, ℤ, pos, get_or}
use mathlib.Core.Option.{some}
use Rattle.wcet.specs.Table.{Routine, block_count, loop_count, header}
use Rattle.wcet.specs.Cycles.{undeclared_loop}
use Rattle.wcet.specs.Rules.{structure_rules}
use Rattle.wcet.specs.Claim.{AllHold}
use Rattle.wcet.proofs.Nesting.{Nested, nested}
use Rattle.nesting.specs.Columns.{Ranged}
use Rattle.nesting.proofs.Stages.{headed}
use Rattle.optimum.specs.Remade.{PathToExit}
use Rattle.optimum.specs.Columns.{remade_figures}
use Rattle.optimum.proofs.Remade.{made_figure}
use Rattle.tails.specs.Slots.{nowhere}
use Rattle.multipliers.specs.Columns.{MultipliedOf}
use Rattle.figures.specs.Figures.{no_figure}
use Rattle.figures.specs.Columns.{HeadsFigured, GatesSet, FigureHigh, GatesOf}
use Rattle.figures.proofs.Signs.{figure_same}

some_same : {a b : ℤ} → some a ≡ some b → a ≡ b
some_same e = cc

module _ (t : Routine) (rules : AllHold (structure_rules t)) (declared : undeclared_loop t ≡ false) (paths : (u : ℕ) → u < block_count t → PathToExit t u) where
  N : Nested t
  N = nested t rules

  R : Ranged t
  R = (headed t rules).ranged

  module _ (heads : List ℤ) where
    pub head_high : HeadsFigured t true heads → FigureHigh t
    head_high H =
        let h = H.high refl in
        let b : header t h.0 < block_count t = N.header_block h.0 h.1 in
        let e : get_or (remade_figures t) (header t h.0) (pos 0) ≡ h.2.0 = some_same (sym (made_figure t N declared paths (header t h.0) b) ∙ h.2.1) in
        (header t h.0, b, rw e h.2.2)

    head_figure : HeadsFigured t false heads → (l : ℕ) → l < loop_count t → get_or heads l (pos 0) ≡ get_or (remade_figures t) (header t l) (pos 0)
    head_figure H l b = figure_same (get_or heads l (pos 0)) (get_or (remade_figures t) (header t l) (pos 0)) (H.same refl l b ∙ made_figure t N declared paths (header t l) (N.header_block l b))

    pub gates_of : (made : List ℕ) (weights kept : List ℤ) → MultipliedOf t false made weights kept → HeadsFigured t false heads → (old gates : List ℤ) → GatesSet t.costs t.headers made heads old gates
        → get_or old nowhere (pos 0) ≡ no_figure → GatesOf t gates
    gates_of made weights kept M H old gates G empty = record {
      exit_gate = G.exit_gate;
      gate = λ l z b. G.gate l z (omega (arith, R.sized.headers)) ∙ rw (head_figure H l b, M.same refl l b);
      empty = G.after nowhere (omega (arith, R.sized.headers, R.sized.few_loops)) (omega arith) ∙ empty;
    }
