-- What a pass over the gates makes: where every figure is within the limits, each block has a path to the exit, for a value that is not far below 0
-- has come along one (`all_paths`); and then the figures are the remade ones (`figured`). Assumes nothing.
use Rattle.std.proofs.Common.{◌≡◌, refl, sym, ◌∙◌, Bool, true, false, List, inl, inr, ℕ, zero, suc, ◌+◌, ◌^◌, ◌≤◌, ◌<◌, arith, eqb, ℤ, pos, neg_ℤ, ◌+ℤ◌, ◌-ℤ◌, get_or, ◌≤ℤ◌}
use native.Mathlib.Decide.{ℕ_discrete}
use borrow.Author.Tests.{le-ltb}
use lib.Signed.{lt_z}
use Rattle.integers.proofs.Laws.{ints, sum, diff}
use Rattle.limits.specs.Limits.{most_blocks}
use Rattle.lists.specs.Search.{when◌then◌else◌}
use Rattle.lists.proofs.Tests.{or_false}
use Rattle.lists.proofs.Search.{any_none, any_at}
use Rattle.wcet.specs.Table.{Routine, block_count, loop_count, exit, missing, cost, loop_of, header, edge, inside}
use Rattle.wcet.specs.Cycles.{undeclared_loop}
use Rattle.wcet.specs.Rules.{structure_rules, figure_outside}
use Rattle.wcet.specs.Claim.{AllHold}
use Rattle.wcet.proofs.Nesting.{Nested, nested, first_edge, second_edge}
use Rattle.loopsets.specs.Sets.{sets_around}
use Rattle.nesting.specs.Columns.{Ranged}
use Rattle.nesting.proofs.Stages.{headed}
use Rattle.order.specs.Ordering.{Topological}
use Rattle.optimum.specs.Remade.{PathToExit, AllPaths}
use Rattle.optimum.specs.Columns.{remade_figures, remade}
use Rattle.optimum.specs.Replies.{figure_over}
use Rattle.optimum.proofs.Structure.{target_loop, back_to}
use Rattle.optimum.proofs.Paths.{exit_path, path_on}
use Rattle.optimum.proofs.Remade.{figured_path}
use Rattle.tails.specs.Words.{greater_of}
use Rattle.tails.specs.Slots.{nowhere, SlotsOf}
use Rattle.multipliers.specs.Columns.{MultipliedOf}
use Rattle.figures.specs.Figures.{no_figure}
use Rattle.figures.specs.Columns.{HeadsFigured, GatesSet, slot_value, Equations, Forward, FiguresFilled, FiguredOf}
use Rattle.figures.proofs.Signs.{is_figure}
use Rattle.figures.proofs.Gates.{gates_of}
use Rattle.figures.proofs.Slots.{Slot, slot, forward, forwards}
use Rattle.figures.proofs.Equations.{remade_equations}

module _ (t : Routine) (rules : AllHold (structure_rules t)) (declared : undeclared_loop t ≡ false) (sets : List ℕ) (around-sets : sets ≡ sets_around t.parents) (order : List ℕ) (O : Topological t order)
    (made : List ℕ) (weights kept : List ℤ) (M : MultipliedOf t false made weights kept) (heads : List ℤ) (H : HeadsFigured t false heads)
    (old gates : List ℤ) (X : GatesSet t.costs t.headers made heads old gates) (empty : get_or old nowhere (pos 0) ≡ no_figure) where
  abbrev n : ℕ
  n = block_count t

  N : Nested t
  N = nested t rules

  R : Ranged t
  R = (headed t rules).ranged

  -- ---- along the slots

  module _ (F : ℕ → ℤ) where
    abbrev value : ℕ → ℤ
    value s = slot_value F n weights gates s

    at_gate : (s : ℕ) → most_blocks ≤ s → value s ≡ get_or gates s (pos 0)
    at_gate s h = rw (le-ltb s n (omega (arith, R.sized.few_blocks)))

    at_nowhere : value nowhere ≡ no_figure
    at_nowhere = at_gate nowhere (omega arith) ∙ X.after nowhere (omega (arith, R.sized.headers, R.sized.few_loops)) (omega arith) ∙ empty

    -- a header whose gate is not far below 0 has a figure, and so a path
    header_path : (l : ℕ) → 0 < l → l < loop_count t → neg_ℤ (pos (2 ^ 60)) ≤ℤ value (most_blocks + l) → PathToExit t (header t l)
    header_path l z b h =
        let e : value (most_blocks + l) ≡ pos (cost t (header t l)) -ℤ pos (get_or made l 0) +ℤ get_or heads l (pos 0) = at_gate (most_blocks + l) (omega arith) ∙ X.gate l z (omega (arith, R.sized.headers)) in
        let c : cost t (header t l) ≤ 1000000 = R.cost_most (header t l) (N.header_block l b) in
        let g : neg_ℤ (pos (2 ^ 61)) ≤ℤ get_or heads l (pos 0)
        = omega (ints, e, h, c, diff (pos (cost t (header t l))) (pos (get_or made l 0)), sum (pos (cost t (header t l)) -ℤ pos (get_or made l 0)) (get_or heads l (pos 0))) in
        figured_path t N declared (header t l) (N.header_block l b) (get_or heads l (pos 0)) (sym (H.same refl l b) ∙ is_figure (get_or heads l (pos 0)) g)

    -- so has a block with such a slot, if the blocks after it have paths
    led : (next slots : List ℕ) → SlotsOf sets t.loops t.headers next slots → ((x : ℕ) → eqb (get_or next x 0) missing ≡ false → edge t x (get_or next x 0) ≡ true)
        → (x : ℕ) → x < n → (x ≡ exit t → ⊥) → ((v : ℕ) → v < n → O.position x < O.position v → PathToExit t v) → neg_ℤ (pos (2 ^ 60)) ≤ℤ value (get_or slots x 0) → PathToExit t x
    led next slots S edges x b ne later h = go (slot t rules sets around-sets order O next slots S edges x b ne)
      where
        v : ℕ
        v = get_or next x 0

        go : Slot t x v (get_or slots x 0) → PathToExit t x
        go (inl p) = let e : no_figure ≡ value (get_or slots x 0) = rw p.1 (sym at_nowhere) in absurd (omega (ints, e, h))
        go (inr (e, inl p)) =
            let q : (0 < loop_of t v) × (header t (loop_of t v) ≡ v) × (inside t x (loop_of t v) ≡ true) = back_to t N x v b e p.0 in
            path_on t x v e (rw q.1 at (header_path (loop_of t v) q.0 (target_loop t N x v b e) (rw p.1 at h)))
        go (inr (e, inr p)) = path_on t x v e (later v (N.target x v b e) (forward t rules sets around-sets order O x v b e p.0))

  module _ (firstSlots secondSlots : List ℕ)
      (S₁ : SlotsOf sets t.loops t.headers t.firsts firstSlots) (S₂ : SlotsOf sets t.loops t.headers t.seconds secondSlots) where
    module _ (F : ℕ → ℤ) (E : Equations F n weights firstSlots secondSlots gates) (low : (x : ℕ) → x < n → neg_ℤ (pos (2 ^ 60)) ≤ℤ F x) where
      step : (x : ℕ) → x < n → ((v : ℕ) → v < n → O.position x < O.position v → PathToExit t v) → PathToExit t x
      unfolding greater_of
      step x b later = at (ℕ_discrete x (exit t))
        where
          one : ℤ
          one = slot_value F n weights gates (get_or firstSlots x 0)

          two : ℤ
          two = slot_value F n weights gates (get_or secondSlots x 0)

          go : (x ≡ exit t → ⊥) → (l : Bool) → lt_z one two ≡ l → F x ≡ (when l then two else one) → PathToExit t x
          go ne true q e = led F t.seconds secondSlots S₂ (second_edge t) x b ne later (rw e at (low x b))
          go ne false q e = led F t.firsts firstSlots S₁ (first_edge t) x b ne later (rw e at (low x b))

          at : Dec (x ≡ exit t) → PathToExit t x
          at (yes q) = rw q (exit_path t)
          at (no ne) = go ne (lt_z one two) refl (E x b)

      from : (k x : ℕ) → x < n → n ≤ O.position x + k → PathToExit t x
      from zero x b h = absurd (omega (arith, O.within x b))
      from (suc k) x b h = step x b (λ v c p. from k v c (omega (arith, p)))

      all_paths : AllPaths t
      all_paths u b = from n u b (omega arith)

    -- ---- the figures

    pub figured : (outside : Bool) (figures : List ℤ) → FiguresFilled weights firstSlots secondSlots order n gates outside figures → FiguredOf t outside figures
    unfolding figure_over remade
    figured outside figures P = record {
      paths = paths;
      same = λ q. P.only q W (λ x. get_or (remade_figures t) x (pos 0)) (remade_by (paths q));
      tested = λ ways. test ways outside refl;
    }
      where
        W : Forward n firstSlots secondSlots order
        W = forwards t rules sets around-sets order O firstSlots secondSlots S₁ S₂

        paths : outside ≡ false → AllPaths t
        paths q =
            all_paths (λ x. get_or figures x (pos 0)) (P.made q W) (λ x b.
            let h : lt_z (get_or figures x (pos 0)) (neg_ℤ (pos (2 ^ 60))) ≡ false = (or_false (lt_z (get_or figures x (pos 0)) (neg_ℤ (pos (2 ^ 60)))) (lt_z (pos (2 ^ 60)) (get_or figures x (pos 0))) (P.within q W x b)).0 in
            omega (ints, h))

        remade_by : AllPaths t → Equations (λ x. get_or (remade_figures t) x (pos 0)) n weights firstSlots secondSlots gates
        remade_by ways = remade_equations t rules declared ways sets around-sets order O made weights kept M gates (gates_of t rules declared ways heads made weights kept M H old gates X empty) firstSlots secondSlots S₁ S₂

        test : AllPaths t → (o : Bool) → outside ≡ o → o ≡ figure_over (remade t)
        test ways true q =
            let h = P.high q W (λ x. get_or (remade_figures t) x (pos 0)) (remade_by ways) in
            sym (any_at n (λ u. figure_outside (get_or (remade_figures t) u (pos 0))) h.0 h.1 h.2)
        test ways false q =
            sym (any_none n (λ u. figure_outside (get_or (remade_figures t) u (pos 0))) (λ u b.
            let e : get_or figures u (pos 0) ≡ get_or (remade_figures t) u (pos 0) = P.only q W (λ x. get_or (remade_figures t) x (pos 0)) (remade_by ways) u b in
            rw e at (P.within q W u b)))
